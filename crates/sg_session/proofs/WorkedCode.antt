-- Worked: the code of a kernel that does nothing, and code that isn't its code since it writes.
use Rattle.std.proofs.Common.{◌≡◌, zero, suc, All, true, List, [], ◌∷◌, Some, refl, sym, ap, ◌∙◌, subst, lit<, arith}
use Rattle.sg_words.proofs.Uses.{contains_none}
use Rattle.sg_words.specs.declared.operators.Ty.TheVariants as ty
use Rattle.sg_layout.specs.declared.shape.Shape.{Shape}
use Rattle.sg_layout.specs.Examples.{at1, line_of_four}
use Rattle.sg_flat.specs.declared.effects.Way.TheVariants.{Own}
use Rattle.sg_flat.specs.declared.effects.Domain.TheVariants.{Walk}
use Rattle.sg_flat.specs.declared.effects.Write.{Write}
use Rattle.sg_flat.specs.declared.effects.Turn.{Turn}
use Rattle.sg_flat.specs.declared.effects.Effects.{Effects}
use Rattle.sg_flat.specs.declared.state.FlatState.{FlatState}
use Rattle.sg_flat.specs.State.{IsFlat, IsFlatField, opening, opening_layout}
use Rattle.sg_types.specs.declared.typed.TypedDomain.TheVariants as domain
use Rattle.sg_admit.specs.declared.admitted.Admitted.{Admitted}
use Rattle.sg_ir.specs.declared.code.Inst.{Inst}
use Rattle.sg_ir.specs.declared.code.Inst.TheVariants as v
use Rattle.sg_ir.specs.declared.code.Code.{Code}
use Rattle.sg_ir.specs.declared.code.KernelCode.{KernelCode}
use Rattle.sg_ir.specs.Runs.{Seen, Moved, CodeWrite, iteration}
use Rattle.sg_ir.specs.Named.{AreNamed}
use Rattle.sg_ir.proofs.Uses.{does-Const, does-OwnWrite}
use Rattle.sg_exec.specs.Running.{located}
use Rattle.sg_session.specs.Compiled.{IsCodeOf}

-- one layout of four points with one field
abbrev shapes : List Shape
shapes = line_of_four ∷ []

-- `for i in L { }`
abbrev nothing : Admitted
nothing = record { kernel = record { vars = 1; domain = domain.Walk 0; types = ty.I32 ∷ []; body = [] }; clean = true ∷ []; slice = []; domain = Walk 0 }

abbrev no_code : Code
no_code = record { regs = []; places = 0; vars = ty.I32 ∷ []; body = [] }

none_named : AreNamed shapes []
none_named k d below = absurd (omega (arith, below))

pub no_code_is_its_code : IsCodeOf shapes nothing (record { slice = no_code; code = no_code; domain = Walk 0 })
no_code_is_its_code = record {
  runnable = record {
    slice_typed = refl;
    code_typed = refl;
    apt = record {
      domain = lit< tt;
      slice_named = λ state fine at has. none_named;
      code_named = λ state fine at has. none_named;
      wants = λ state fine at has. tt;
      ways = record {
        one_way = λ layout field way other has also. absurd (contains_none _ has);
        unread = λ layout field way has reads. contains_none _ has;
        no_own_read = λ layout field op has reads. contains_none _ has;
        own_axes = λ layout field has. absurd (contains_none _ has);
      };
      asks = λ layout field way has asked. contains_none _ has;
    };
  };
  domain = refl;
  effects = λ state fine. refl;
  simple_slice = record { shared = refl; trimmed = refl };
  simple_code = record { shared = refl; trimmed = refl };
}

-- `x[i] = 1;`
abbrev writes_one : List Inst
writes_one = v.Const 0 1 ∷ v.OwnWrite 0 0 0 1 ∷ []

abbrev writing : KernelCode
writing = record { slice = no_code; code = record { regs = ty.I32 ∷ []; places = 0; vars = ty.I32 ∷ []; body = writes_one }; domain = Walk 0 }

-- what it writes at the point 0 of the opening state
abbrev opened : FlatState
opened = opening shapes

abbrev seen_first : Seen
seen_first = record { shapes = shapes; state = opened; at = at1 0 }

opened_fits : All (IsFlatField line_of_four (opening_layout line_of_four).active) (opening_layout line_of_four).fields
opened_fits zero d below = record { canonical = refl; in_range = refl; active_rows = λ k e under. absurd (omega (arith, under)) }
opened_fits (suc k) d below = absurd (omega (arith, below))

opened_is_flat : IsFlat shapes opened
opened_is_flat = (record { closed = refl; field_count = refl; fields_fit = opened_fits }, tt)

made : Moved → List CodeWrite
made now = now.writes

made-is : (now : Moved) → made now ≡ now.writes
unfolding made
made-is now = refl

one_made : made (iteration seen_first writes_one) ≡ record { layout = 0; field = 0; stmt = 1; at = Some (at1 0); way = Own; value = 1 } ∷ []
one_made = simp (does-Const seen_first, does-OwnWrite seen_first) (made-is _)

abbrev first_writes : List Turn → List Write
first_writes [] = []
first_writes (turn ∷ turns) = turn.writes

abbrev IsEmpty : List Write → Type 0
IsEmpty [] = Unit {0}
IsEmpty (write ∷ writes) = ⊥

pub writing_is_not : IsCodeOf shapes nothing writing → ⊥
writing_is_not code =
    let first : located (Walk 0) (at1 0) [] (iteration seen_first writes_one).writes ≡ [] = ap (λ (effects : Effects). first_writes effects.turns) (code.effects opened opened_is_flat) in
    subst (λ (writes : List CodeWrite). IsEmpty (located (Walk 0) (at1 0) [] writes)) (sym (made-is _) ∙ one_made) (subst IsEmpty (sym first) tt)
