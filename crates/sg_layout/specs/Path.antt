-- The path of a coordinate down the nodes of a layout.
use Rattle.std.specs.Prelude.{ℕ, ◌+◌, ◌*◌, ◌/◌, ◌%◌, List, [], ◌∷◌, take}
use Rattle.sg_coord.specs.declared.coord.Coord.{Coord}
use Rattle.sg_layout.specs.declared.shape.NodeShape.{NodeShape}
use Rattle.sg_layout.specs.declared.shape.Shape.{Shape}
use Rattle.sg_layout.specs.Axes.{count_of, extent_in, extent_over}

-- the part of an axis at a node: the coordinate on that axis, divided by the product of the axis's later extents,
-- modulo its extent there
abbrev pub part_at : NodeShape → List NodeShape → ℕ → ℕ → ℕ
part_at node later axis number = number / extent_over later axis % extent_in node.sizes axis

-- the offset of a coordinate at a node: its parts in row-major order, the first axis outermost
abbrev pub offset_at : NodeShape → List NodeShape → Coord → ℕ
offset_at node later at =
    (part_at node later 1 (count_of at.a) * extent_in node.sizes 2 + part_at node later 2 (count_of at.b))
    * extent_in node.sizes 3 + part_at node later 3 (count_of at.c)

-- the offsets of a coordinate at each node of a list
abbrev pub offsets : List NodeShape → Coord → List ℕ
offsets [] at = []
offsets (node ∷ later) at = offset_at node later at ∷ offsets later at

-- the path of a coordinate through the first nodes of a shape: a slot of the last of them
abbrev pub path : Shape → Coord → ℕ → List ℕ
path shape at through = take through (offsets shape.nodes at)
