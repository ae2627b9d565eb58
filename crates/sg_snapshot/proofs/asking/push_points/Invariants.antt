use Rattle.std.proofs.Common.{◌≡◌, ◌<◌, ◌++◌}
use Rattle.std.specs.Prelude.{All}
use Rattle.sg_coord.specs.Bounds.{bounds_of, volume}
use Rattle.sg_coord.specs.Coord.{point_at}
use Rattle.sg_store.specs.WellFormed.{IsReached}
use Rattle.sg_snapshot.specs.Numbers.{bytes_of}
use Rattle.sg_snapshot.specs.steps.Asking.{rows_with, cells_with}
use Rattle.sg_snapshot.proofs.Askings.{cell_at}
use Rattle.sg_snapshot.proofs.asking.push_points.Given as goal

abbrev pub invariant-loop-row : goal.invariant-loop-row
invariant-loop-row l = record {
  reached : All (IsReached l.store) l.cells.items;
  rows : l.bytes.items ≡ l.fn.bytes.items ++ bytes_of (rows_with (cell_at l.store) l.row);
  cells : l.cells.items ≡ cells_with (cell_at l.store) l.row;
  next : l.row < volume (bounds_of l.extents) → l.at ≡ point_at (bounds_of l.extents) l.row;
}
