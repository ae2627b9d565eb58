-- The closure of a list of coordinates: what is active once they are written.
use Rattle.std.specs.Prelude.{ℕ, suc, Bool, true, false, ◌&&◌, ◌||◌, List, [], ◌∷◌, map, filter, if◌then◌else◌, ◌==◌, nat_lt}
use Rattle.std.specs.List.{range_with_len}
use Rattle.sg_coord.specs.declared.coord.Coord.{Coord}
use Rattle.sg_coord.specs.Bounds.{Bounds, volume}
use Rattle.sg_coord.specs.Coord.{is_inside, point_at}
use Rattle.sg_layout.specs.declared.shape.Kind.{Kind}
use Rattle.sg_layout.specs.declared.shape.Kind.TheVariants.{Dense, Bitmasked, Pointer, Hash, Dynamic}
use Rattle.sg_layout.specs.declared.shape.NodeShape.{NodeShape}
use Rattle.sg_layout.specs.declared.shape.Shape.{Shape}
use Rattle.sg_layout.specs.Axes.{bounds_of_shape}
use Rattle.sg_layout.specs.Path.{path}
use Rattle.sg_layout.specs.Live.{is_live}

-- a node with no activity of its own
abbrev pub is_dense : Kind → Bool
is_dense Dense = true
is_dense Bitmasked = false
is_dense Pointer = false
is_dense Hash = false
is_dense Dynamic = false

-- the number of the last node that isn't dense, counted from 1; 0 if all are
abbrev pub last_sparse : List NodeShape → ℕ
last_sparse [] = 0
last_sparse (node ∷ later) =
    if nat_lt 0 (last_sparse later) then suc (last_sparse later) else (if is_dense node.kind then 0 else 1)

-- the coordinate is in the closure of the list: it is inside, and all nodes are dense or its slot at the last node
-- that isn't dense is live
abbrev pub is_in_closure : Shape → List Coord → Coord → Bool
is_in_closure shape written at =
    is_inside (bounds_of_shape shape) at
    && ((last_sparse shape.nodes == 0)
    || is_live shape written (last_sparse shape.nodes) (path shape at (last_sparse shape.nodes)))

-- all points inside the extents, in row order
abbrev pub points : Bounds → List Coord
points bounds = map (point_at bounds) (range_with_len 0 (volume bounds))

-- the closure of a list of coordinates, in row order, each once
abbrev pub closure : Shape → List Coord → List Coord
closure shape written = filter (is_in_closure shape written) (points (bounds_of_shape shape))
