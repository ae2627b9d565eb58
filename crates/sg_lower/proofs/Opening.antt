-- The start of an iteration.
use Rattle.std.proofs.Common.{◌≡◌, Bool, true, false, if◌then◌else◌, List, [], map, refl}
use Rattle.std.proofs.lemmas.List.Elements.{All-nil}
use Rattle.sg_words.specs.WordLaws.{IsWord}
use Rattle.sg_coord.specs.declared.coord.Coord.{Coord}
use Rattle.sg_flat.specs.declared.effects.Write.{Write}
use Rattle.sg_types.specs.Values.{World}
use Rattle.sg_types.specs.Iterations.{first_moment, run_all, action_of}
use Rattle.sg_types.specs.declared.typed.TypedStmt.{TypedStmt}
use Rattle.sg_ir.specs.declared.code.Inst.{Inst}
use Rattle.sg_ir.specs.Runs.{iteration_start}
use Rattle.sg_ir.specs.Named.{IsNamedAccess}
use Rattle.sg_lower.specs.steps.Basis.{Basis}
use Rattle.sg_lower.specs.steps.Agreeing.{IsPoint, seen_of, AgreesWithIteration, Steps, Tells}

none_either : {X : Type 0} (b : Bool) (none : List X) → none ≡ (if b then none else none)
none_either true none = refl
none_either false none = refl

module _ (basis : Basis) where
  pub opening_agrees : (world : World) (at : Coord) → IsPoint basis.vars at → AgreesWithIteration basis at (first_moment at) (iteration_start (seen_of world at))
  opening_agrees world at point = record {
    vars = λ var. refl;
    writes = none_either basis.slicing [];
    wants = none_either basis.slicing [];
    named = All-nil (IsNamedAccess basis.shapes);
    loop = λ var below. refl;
    others = λ layout place unowned. refl;
    small_vars = point.small;
    small_writes = λ body. All-nil (λ (write : Write). IsWord write.value);
  }

  pub tells : (stmts : List TypedStmt) (block : List Inst) → Steps basis (λ world now. run_all (map (action_of world) stmts) now) [] block → Tells basis stmts block
  tells stmts block steps = λ world is at point. steps world is at point (first_moment at) (iteration_start (seen_of world at)) (opening_agrees world at point)
