use Rattle.std.proofs.Common.{◌≡◌, ℕ, take}
use Rattle.std.specs.Ordering.{nat_cmp}
use Rattle.std.specs.BTreeMap.{get}
use Rattle.sg_coord.specs.Bounds.{bounds_of}
use Rattle.sg_flat.specs.steps.Blocks.{length_at}
use Rattle.sg_flat.proofs.lengths.lengths_of.Given as goal

abbrev pub invariant-loop-at : goal.invariant-loop-at
invariant-loop-at l =
    (number : ℕ) → get nat_cmp l.lengths number
    ≡ length_at (bounds_of l.blocks.extents) (bounds_of l.blocks.block) l.blocks.whole (take l.at-index l.coords) number
