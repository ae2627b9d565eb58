use Rattle.std.proofs.Common.{◌≡◌, ◌≤◌, ℕ, take, unwrap_or}
use Rattle.std.specs.Ordering.{nat_cmp}
use Rattle.std.specs.BTreeMap.{get}
use Rattle.std.specs.BTreeSet.{contains}
use Rattle.sg_coord.specs.Bounds.{bounds_of, volume}
use Rattle.sg_flat.specs.steps.Blocks.{length_at, is_row_reached}
use Rattle.sg_flat.proofs.closure.live_rows.Given as goal

abbrev pub invariant-loop-at : goal.invariant-loop-at
invariant-loop-at l = record {
  lengths : (number : ℕ) → get nat_cmp l.lengths number
      ≡ length_at (bounds_of l.blocks.extents) (bounds_of l.blocks.block) l.blocks.whole (take l.at-index l.coords) number;
  most : (number : ℕ) → unwrap_or (get nat_cmp l.lengths number) 0 ≤ volume (bounds_of l.blocks.block);
  rows : (row : ℕ) → contains nat_cmp l.rows row
      ≡ is_row_reached (bounds_of l.blocks.extents) (bounds_of l.blocks.block) l.blocks.whole (take l.at-index l.coords) row;
}
