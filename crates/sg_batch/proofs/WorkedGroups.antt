-- Worked groups of kernels that write.
use Rattle.std.proofs.Common.{◌≡◌, ℕ, true, false, List, [], ◌∷◌, refl, arith}
use Rattle.std.proofs.lemmas.Bool.{and_from}
use Rattle.sg_flat.specs.declared.effects.Domain.TheVariants.{Walk}
use Rattle.sg_ir.specs.declared.code.Inst.TheVariants as v
use Rattle.sg_ir.specs.declared.code.KernelCode.{KernelCode}
use Rattle.sg_ir.specs.Apt.{uses_step}
use Rattle.sg_ir.specs.Touches.{wanted_step, rooted_step}
use Rattle.sg_ir.proofs.Uses.{fold-Root, fold-IsActive, fold-OwnWrite}
use Rattle.sg_batch.specs.Examples.{no_code, walker}
use Rattle.sg_batch.specs.Independent.{are_independent, IsLongestFront}
use Rattle.sg_batch.proofs.Grouped.{apart_none, apart_more, longest_full, longest_apart}

-- a kernel that walks a layout and writes there
abbrev pub writer : ℕ → KernelCode
writer layout = record { slice = no_code; code = record { regs = []; places = 0; vars = []; body = v.OwnWrite layout 0 0 1 ∷ [] }; domain = Walk layout }

-- each in a layout of its own
pub own_layouts : are_independent (writer 0) (writer 1) ≡ true
own_layouts = simp (fold-OwnWrite rooted_step, fold-OwnWrite wanted_step, fold-OwnWrite uses_step)

-- one is walked that the other writes
pub walked : are_independent (writer 0) (walker 0) ≡ false
walked = simp (fold-OwnWrite rooted_step, fold-OwnWrite wanted_step, fold-OwnWrite uses_step)

-- one with itself
pub twice : are_independent (writer 0) (writer 0) ≡ false
twice = simp (fold-OwnWrite rooted_step, fold-OwnWrite wanted_step, fold-OwnWrite uses_step)

-- a group ends before a walk over what its first kernel writes
abbrev three : List KernelCode
three = writer 0 ∷ writer 1 ∷ walker 0 ∷ []

pub two_of_three : IsLongestFront three (0 ∷ 1 ∷ 2 ∷ []) 4 2
two_of_three = longest_apart three (0 ∷ 1 ∷ 2 ∷ []) 4 2 (omega arith) (omega arith)
    (apart_more (writer 0 ∷ []) (writer 1) (apart_more [] (writer 0) apart_none refl) (and_from (are_independent (writer 1) (writer 0)) true others refl)) 2 (walker 0) (omega arith) refl refl
    (simp (fold-OwnWrite rooted_step, fold-OwnWrite wanted_step, fold-OwnWrite uses_step))
  where
    others : are_independent (writer 1) (writer 0) ≡ true
    others = simp (fold-OwnWrite rooted_step, fold-OwnWrite wanted_step, fold-OwnWrite uses_step)

-- and after as many as may be
pub one_of_three : IsLongestFront three (0 ∷ 1 ∷ 2 ∷ []) 1 1
one_of_three = longest_full three (0 ∷ 1 ∷ 2 ∷ []) 1 1 (omega arith) (omega arith) (apart_more [] (writer 0) apart_none refl) (omega arith)

-- a kernel that walks a layout, and asks at a place of another
pub asker : ℕ → ℕ → KernelCode
asker walked asked =
    record { slice = no_code; code = record { regs = []; places = 1; vars = []; body = v.Root 0 asked ∷ v.IsActive 0 0 [] ∷ [] }; domain = Walk walked }

-- one is asked that the other writes
pub asked : are_independent (writer 0) (asker 1 0) ≡ false
unfolding asker
asked =
    simp (fold-OwnWrite rooted_step, fold-OwnWrite wanted_step, fold-OwnWrite uses_step, fold-Root rooted_step, fold-IsActive rooted_step, fold-Root wanted_step, fold-IsActive wanted_step, fold-Root uses_step, fold-IsActive uses_step)

-- both ask the same
pub both_ask : are_independent (asker 0 2) (asker 1 2) ≡ true
unfolding asker
both_ask =
    simp (fold-Root rooted_step, fold-IsActive rooted_step, fold-Root wanted_step, fold-IsActive wanted_step, fold-Root uses_step, fold-IsActive uses_step)
