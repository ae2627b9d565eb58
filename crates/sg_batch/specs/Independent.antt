-- Kernels that don't touch each other.
use Rattle.std.specs.Prelude.{◌≡◌, ℕ, ◌+◌, ◌≤◌, Bool, true, not, ◌&&◌, ◌⊎◌, List, length, take}
use Rattle.std.specs.List.{AllPairs, list_all}
use Rattle.sg_ir.specs.declared.code.KernelCode.{KernelCode}
use Rattle.sg_ir.specs.Touches.{layouts_written, layouts_touched, is_among}
use Rattle.sg_batch.specs.Batches.{members}

-- no layout that one kernel writes is written, read, asked or walked by the other
abbrev pub leaves_alone : KernelCode → KernelCode → Bool
leaves_alone one other = list_all (λ layout. not (is_among (layouts_touched other) layout)) (layouts_written one)

-- neither touches what the other writes
abbrev pub are_independent : KernelCode → KernelCode → Bool
are_independent one other = leaves_alone one other && leaves_alone other one

-- no two of these kernels touch what the other writes
abbrev pub AreApart : List KernelCode → Type 0
AreApart kernels = AllPairs (λ one other. are_independent one other ≡ true) kernels

-- the first so many of an order of kernels, by their numbers, don't touch each other; and they are as many as may be, or all, or one more would not
-- leave the others alone
pub record IsLongestFront (kernels : List KernelCode) (order : List ℕ) (most count : ℕ) : Type 0 where
  pub few : count ≤ most
  pub within : count ≤ length order
  pub apart : AreApart (members kernels (take count order))
  pub longest : (count ≡ most) ⊎ ((count ≡ length order) ⊎ (AreApart (members kernels (take (count + 1) order)) → ⊥))
