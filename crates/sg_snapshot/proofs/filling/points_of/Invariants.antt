use Rattle.std.proofs.Common.{◌≡◌, map, take}
use Rattle.sg_coord.specs.Bounds.{bounds_of}
use Rattle.sg_coord.specs.Coord.{point_at}
use Rattle.sg_snapshot.proofs.filling.points_of.Given as goal

abbrev pub invariant-loop-row : goal.invariant-loop-row
invariant-loop-row l = l.points.items ≡ map (point_at (bounds_of l.extents)) (take l.row-index l.rows)
