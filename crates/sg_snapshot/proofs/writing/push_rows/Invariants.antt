use Rattle.std.proofs.Common.{◌≡◌, ◌++◌, map, take}
use Rattle.std.specs.Prelude.{All}
use Rattle.sg_coord.specs.Bounds.{bounds_of}
use Rattle.sg_coord.specs.Coord.{Inside, row_of}
use Rattle.sg_snapshot.specs.Numbers.{bytes_of}
use Rattle.sg_snapshot.proofs.writing.push_rows.Given as goal

abbrev pub invariant-loop-at : goal.invariant-loop-at
invariant-loop-at l =
    All (Inside (bounds_of l.extents)) l.coords → l.bytes.items ≡ l.fn.bytes.items ++ bytes_of (map (row_of (bounds_of l.extents)) (take l.at-index l.coords))
