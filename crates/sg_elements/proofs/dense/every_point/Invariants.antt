use Rattle.std.proofs.Common.{◌≡◌, ◌<◌, map}
use Rattle.std.specs.List.{range_with_len}
use Rattle.sg_coord.specs.Bounds.{bounds_of, volume}
use Rattle.sg_coord.specs.Coord.{point_at}
use Rattle.sg_elements.proofs.dense.every_point.Given as goal

abbrev pub invariant-loop-row : goal.invariant-loop-row
invariant-loop-row l = record {
  listed : l.coords.items ≡ map (point_at (bounds_of l.extents)) (range_with_len 0 l.row);
  next : l.row < volume (bounds_of l.extents) → l.at ≡ point_at (bounds_of l.extents) l.row;
}
