use Rattle.std.proofs.Common.{◌≡◌, ◌<◌, map, take}
use Rattle.sg_coord.specs.Bounds.{bounds_of, volume}
use Rattle.sg_coord.specs.Coord.{point_at}
use Rattle.sg_elements.proofs.listing.points_of.Given as goal

abbrev pub invariant-loop-row : goal.invariant-loop-row
invariant-loop-row l = record {
  listed : l.coords.items ≡ map (point_at (bounds_of l.extents)) (take l.row-index l.rows);
  known : l.next.row < volume (bounds_of l.extents) → l.next.at ≡ point_at (bounds_of l.extents) l.next.row;
}
