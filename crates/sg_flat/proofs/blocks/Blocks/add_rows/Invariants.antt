use Rattle.std.proofs.Common.{◌≡◌, ℕ, ◌&&◌, ◌||◌, eqb, leb, ltb}
use Rattle.std.specs.Ordering.{nat_cmp}
use Rattle.std.specs.BTreeSet.{contains}
use Rattle.sg_coord.specs.Bounds.{bounds_of, volume}
use Rattle.sg_coord.specs.Coord.{point_at}
use Rattle.sg_flat.specs.steps.Blocks.{block_number, row_in_block}
use Rattle.sg_flat.proofs.blocks.Blocks.add_rows.Given as goal

abbrev pub invariant-loop-place : goal.invariant-loop-place
invariant-loop-place l =
    (row : ℕ) → contains nat_cmp l.rows row
    ≡ (contains nat_cmp l.fn.rows row || (ltb row (volume (bounds_of l.self.extents))
    && (eqb (block_number (bounds_of l.self.extents) (bounds_of l.self.block) l.at)
    (block_number (bounds_of l.self.extents) (bounds_of l.self.block) (point_at (bounds_of l.self.extents) row))
    && (leb l.fn.grown.from (row_in_block (bounds_of l.self.block) (point_at (bounds_of l.self.extents) row))
    && ltb (row_in_block (bounds_of l.self.block) (point_at (bounds_of l.self.extents) row)) l.place))))
