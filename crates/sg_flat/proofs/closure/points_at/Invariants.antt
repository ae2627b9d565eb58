use Rattle.std.proofs.Common.{◌≡◌, ◌++◌, ◌<◌, map}
use Rattle.std.specs.Prelude.{All}
use Rattle.sg_coord.specs.Bounds.{bounds_of, volume}
use Rattle.sg_coord.specs.Coord.{point_at}
use Rattle.sg_flat.proofs.closure.points_at.Given as goal

abbrev pub invariant-loop-row : goal.invariant-loop-row
invariant-loop-row l = record {
  points : l.points ++ map (point_at (bounds_of l.extents)) l.row-iterator ≡ map (point_at (bounds_of l.extents)) l.rows.keys;
  below : All (λ row. row < volume (bounds_of l.extents)) l.row-iterator;
}
