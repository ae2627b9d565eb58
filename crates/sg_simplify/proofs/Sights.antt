-- What the operations have in common by which something is seen at a place.
use Rattle.std.specs.Prelude.{◌≡◌, refl, ℕ, Bool, true, List}
use Rattle.sg_words.specs.declared.operators.Ty.{Ty}
use Rattle.sg_layout.specs.declared.shape.Shape.{Shape}
use Rattle.sg_ir.specs.Blocks.{Sight, Value, Activity, sight_op}
use Rattle.sg_ir.specs.Apt.{Use}
use Rattle.sg_ir.specs.Shared.{is_pure}
use Rattle.sg_ir.specs.InScope.{InScope, op_regs, op_places, AreSet}
use Rattle.sg_simplify.specs.steps.Only.{op_use}
use Rattle.sg_simplify.specs.steps.Judged.{truth_of}
use Rattle.sg_simplify.specs.steps.Sets.{IndexIsSet}

-- whatever the place is, it uses the same field
pub sight_use : (test : Use → Bool) (p place : ℕ) (sight : Sight) → op_use test (sight_op p sight) ≡ op_use test (sight_op place sight)
sight_use test p place (Value layout field) = refl
sight_use test p place Activity = refl

pub sight_pure : (single : ℕ → Bool) (p : ℕ) (sight : Sight) → is_pure single (sight_op p sight) ≡ true
sight_pure single p (Value layout field) = refl
sight_pure single p Activity = refl

-- whether it gives a truth value is the same at every place
pub sight_truth : (shapes : List Shape) (vars : List Ty) (p place : ℕ) (sight : Sight) → truth_of shapes vars (sight_op p sight) ≡ truth_of shapes vars (sight_op place sight)
sight_truth shapes vars p place (Value layout field) = refl
sight_truth shapes vars p place Activity = refl

-- it reads no register, and the place
pub sight_regs : (set : ℕ → Bool) (p : ℕ) (sight : Sight) → AreSet set (op_regs (sight_op p sight))
sight_regs set p (Value layout field) = tt
sight_regs set p Activity = tt

pub sight_places : (set : ℕ → Bool) (p : ℕ) (sight : Sight) → set p ≡ true → AreSet set (op_places (sight_op p sight))
sight_places set p (Value layout field) is = (is, tt)
sight_places set p Activity is = (is, tt)

-- its index registers are asked for
pub sight_index : (scope : InScope) (p : ℕ) (sight : Sight) (index : List ℕ) → AreSet scope.regs index → IndexIsSet scope (sight_op p sight) index
sight_index scope p (Value layout field) index set = set
sight_index scope p Activity index set = set
