-- What the worked kernels make of the state at the start, and the text of the field then.
use Rattle.std.proofs.Common.{◌≡◌, ℕ, List, [], ◌∷◌, map, Some, Result, Ok, Err, refl, ap, ◌∙◌}
use Rattle.std.specs.Prelude.{pos}
use Rattle.sg_words.specs.declared.operators.Ty.TheVariants as ty
use Rattle.sg_words.specs.declared.operators.AccOp.TheVariants as acc
use Rattle.sg_words.specs.Words.{word_of}
use Rattle.sg_coord.specs.declared.coord.Coord.{Coord}
use Rattle.sg_outside.specs.Files.{Missing}
use Rattle.sg_flat.specs.declared.effects.Domain.{Domain}
use Rattle.sg_flat.specs.declared.effects.Effects.{Effects}
use Rattle.sg_flat.specs.declared.effects.RunFault.TheVariants.{WriteOutside}
use Rattle.sg_flat.specs.declared.effects.Way.TheVariants.{Acc}
use Rattle.sg_flat.specs.declared.effects.Write.{Write}
use Rattle.sg_flat.specs.declared.state.FlatState.{FlatState}
use Rattle.sg_flat.specs.Domain.{domain_points}
use Rattle.sg_flat.specs.Kernel.{kernel_meaning}
use Rattle.sg_flat.specs.State.{opening}
use Rattle.sg_types.specs.Values.{World, Moment, coord_of, expr_word}
use Rattle.sg_types.specs.Iterations.{first_moment, writes_at, kernel_effects}
use Rattle.sg_types.proofs.Uses.{action-Write, value-Literal, value-Var}
use Rattle.sg_session.specs.declared.refusal.RunRefusal.{RunRefusal}
use Rattle.sg_session.specs.declared.refusal.RunRefusal.TheVariants as refusal
use Rattle.sg_session.specs.declared.tasks.Task.TheVariants.{Run}
use Rattle.sg_session.specs.Compiled.{world_of}
use Rattle.sg_session.specs.Commands.{Left, run_made, task_meaning}
use Rattle.sparsegrid.proofs.WorkedCompiled.{shape, literal, variable, typed_to, domain_is, compiled_to}

-- a point of a line
abbrev pub point : ℕ → Coord
point a = record { n = 1; a = pos a; b = pos 0; c = pos 0 }

-- the state at the start
abbrev pub start : FlatState
start = opening (shape ∷ [])

abbrev world : World
world = world_of (shape ∷ []) start

-- what the iteration at a point contributes
abbrev write_to : ℕ → ℕ → List Write
write_to at word = record { layout = 0; place = 0; stmt = 1; at = coord_of (at ∷ []); way = Acc acc.Add; value = word } ∷ []

one_write : (at a : ℕ) → writes_at world (typed_to at) (point a) ≡ write_to at (word_of (pos a))
one_write at a =
    let now : Moment = first_moment (point a) in
    ap (λ (after : Moment). after.writes) (action-Write world 1 0 0 (literal at ∷ []) (Acc acc.Add) variable now)
    ∙ (ap (λ (word : ℕ). record { layout = 0; place = 0; stmt = 1; at = coord_of (word ∷ []); way = Acc acc.Add; value = expr_word world now variable } ∷ []) (value-Literal world now ty.I32 at)
    ∙ ap (λ (word : ℕ). write_to at word) (value-Var world now ty.I32 0))

-- the three iterations, each with its writes
abbrev three : List Write → List Write → List Write → Effects
three first second third = record { turns = record { at = point 0; writes = first } ∷ record { at = point 1; writes = second } ∷ record { at = point 2; writes = third } ∷ [] }

abbrev effects_over : ℕ → Domain → Effects
effects_over at over = record { turns = map (λ point. record { at = point; writes = writes_at world (typed_to at) point }) (domain_points start over) }

effects_are : (at : ℕ) → kernel_effects world (typed_to at) ≡ three (write_to at 0) (write_to at 1) (write_to at 2)
effects_are at =
    let by_point : kernel_effects world (typed_to at) ≡ three (writes_at world (typed_to at) (point 0)) (writes_at world (typed_to at) (point 1)) (writes_at world (typed_to at) (point 2)) =
    ap (effects_over at) (domain_is world) in
    by_point
    ∙ (ap (λ (writes : List Write). three writes (writes_at world (typed_to at) (point 1)) (writes_at world (typed_to at) (point 2))) (one_write at 0)
    ∙ (ap (λ (writes : List Write). three (write_to at 0) writes (writes_at world (typed_to at) (point 2))) (one_write at 1)
    ∙ ap (three (write_to at 0) (write_to at 1)) (one_write at 2)))

-- the state after the run of the kernel that adds at 5: the two points under the one slot that it reached
abbrev pub after : FlatState
after = record { layouts = record { active = point 4 ∷ point 5 ∷ []; fields = ((5, 3) ∷ []) ∷ [] } ∷ [] }

inside : kernel_meaning (shape ∷ []) start (three (write_to 5 0) (write_to 5 1) (write_to 5 2)) ≡ Ok after
inside = refl

-- 8 is outside: the first iteration is refused
outside : kernel_meaning (shape ∷ []) start (three (write_to 8 0) (write_to 8 1) (write_to 8 2)) ≡ Err (WriteOutside 1 (point 0))
outside = refl

-- ---- the commands

abbrev ran_with : Effects → Result Left RunRefusal
ran_with effects = run_made 0 (kernel_meaning (shape ∷ []) start effects)

pub run_inside : task_meaning (compiled_to 5) start (Run 0) Missing ≡ Ok (record { state = after; text = [] })
run_inside = ap ran_with (effects_are 5) ∙ ap (run_made 0) inside

pub run_outside : task_meaning (compiled_to 8) start (Run 0) Missing ≡ Err (refusal.Run (Some 0) (WriteOutside 1 (point 0)))
run_outside = ap ran_with (effects_are 8) ∙ ap (run_made 0) outside
