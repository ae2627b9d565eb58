-- The slots of the last of a list of nodes, apart from any store: which there are, their numbers, and the coordinate
-- of one.
use Rattle.std.specs.Prelude.{ℕ, zero, suc, ◌+◌, ◌*◌, ◌/◌, ◌%◌, ◌<◌, List, [], ◌∷◌, map, ℤ, pos}
use Rattle.std.specs.List.{AllZip, range_with_len}
use Rattle.sg_coord.specs.declared.coord.Coord.{Coord}
use Rattle.sg_coord.specs.Bounds.{Bounds}
use Rattle.sg_coord.specs.Coord.{point_at}
use Rattle.sg_layout.specs.declared.shape.NodeShape.{NodeShape}
use Rattle.sg_layout.specs.declared.shape.Shape.{Shape}
use Rattle.sg_layout.specs.Axes.{count_of, size_of, slots_of, extent_in, extent_over}

-- a list of offsets is a slot of the last of these nodes: one offset for each node, below its size
abbrev pub IsSlot : List NodeShape → List ℕ → Type 0
IsSlot nodes slot = AllZip (λ node offset. offset < size_of node.sizes) nodes slot

-- the number of a slot in the whole tree: by the first node, then by the second, and so on
abbrev pub slot_number : List NodeShape → List ℕ → ℕ
slot_number [] slot = 0
slot_number (node ∷ later) [] = 0
slot_number (node ∷ later) (offset ∷ slot) = offset * slots_of later + slot_number later slot

-- the slot with this number
abbrev pub slot_at : List NodeShape → ℕ → List ℕ
slot_at [] number = []
slot_at (node ∷ later) number = (number / slots_of later) ∷ slot_at later (number % slots_of later)

-- all slots of the last node, in order of their numbers
abbrev pub slots : List NodeShape → List (List ℕ)
slots nodes = map (slot_at nodes) (range_with_len 0 (slots_of nodes))

-- the extents of a node, as those of a box
abbrev pub node_bounds : NodeShape → Bounds
node_bounds node = record { n = 3; a = extent_in node.sizes 1; b = extent_in node.sizes 2; c = extent_in node.sizes 3 }

-- what an offset at the first of these nodes adds to the coordinate on an axis: the part that it has on the axis, times
-- the product of the axis's later extents
abbrev pub share_on : (Coord → ℤ) → ℕ → NodeShape → List NodeShape → ℕ → ℕ
share_on part axis node later offset = count_of (part (point_at (node_bounds node) offset)) * extent_over later axis

-- the coordinate on an axis that a path has: what the offsets at its nodes add together
abbrev pub number_on : (Coord → ℤ) → ℕ → List NodeShape → List ℕ → ℕ
number_on part axis [] slot = 0
number_on part axis (node ∷ later) [] = 0
number_on part axis (node ∷ later) (offset ∷ slot) = share_on part axis node later offset + number_on part axis later slot

-- the coordinate whose whole path this is
abbrev pub coordinate_of : Shape → List ℕ → Coord
coordinate_of shape slot = record {
  n = shape.axes;
  a = pos (number_on (λ (at : Coord). at.a) 1 shape.nodes slot);
  b = pos (number_on (λ (at : Coord). at.b) 2 shape.nodes slot);
  c = pos (number_on (λ (at : Coord). at.c) 3 shape.nodes slot);
}

-- what an offset at the node with this index, from 0, adds to the coordinate, as a coordinate with so many axes
abbrev pub share_at : ℕ → List NodeShape → ℕ → ℕ → Coord
share_at axes [] index offset = record { n = axes; a = pos 0; b = pos 0; c = pos 0 }
share_at axes (node ∷ later) zero offset = record {
  n = axes;
  a = pos (share_on (λ (at : Coord). at.a) 1 node later offset);
  b = pos (share_on (λ (at : Coord). at.b) 2 node later offset);
  c = pos (share_on (λ (at : Coord). at.c) 3 node later offset);
}
share_at axes (node ∷ later) (suc index) offset = share_at axes later index offset
