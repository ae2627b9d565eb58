-- The extents of nodes and of axes.
use Rattle.std.specs.Prelude.{ℕ, ◌*◌, List, [], ◌∷◌, map, if◌then◌else◌, ◌==◌}
use Rattle.sg_coord.specs.Bounds.{Bounds}
-- a number as a count: 0 if it is negative
pub use Rattle.sg_coord.specs.Coord.{count_of}
use Rattle.sg_layout.specs.declared.shape.Size.{Size}
use Rattle.sg_layout.specs.declared.shape.NodeShape.{NodeShape}
use Rattle.sg_layout.specs.declared.shape.Shape.{Shape}

-- the extent that a node's sizes give an axis; 1 if they don't name it
abbrev pub extent_in : List Size → ℕ → ℕ
extent_in [] axis = 1
extent_in (size ∷ sizes) axis = if size.axis == axis then count_of size.extent else extent_in sizes axis

-- the extent of an axis over a list of nodes: the product of what each of them gives it
abbrev pub extent_over : List NodeShape → ℕ → ℕ
extent_over [] axis = 1
extent_over (node ∷ nodes) axis = extent_in node.sizes axis * extent_over nodes axis

-- the product of all extents of a node: how many slots it has under one slot of the node before
abbrev pub size_of : List Size → ℕ
size_of [] = 1
size_of (size ∷ sizes) = count_of size.extent * size_of sizes

-- the sizes of nodes, from the first on
abbrev pub sizes_of : List NodeShape → List ℕ
sizes_of nodes = map (λ node. size_of node.sizes) nodes

-- the product of the sizes of nodes: how many slots the last of them has in all, under one slot of the node before
-- the first
abbrev pub slots_of : List NodeShape → ℕ
slots_of [] = 1
slots_of (node ∷ later) = size_of node.sizes * slots_of later

-- the extents of a layout's axes; an axis that no node names has extent 1
abbrev pub bounds_of_shape : Shape → Bounds
bounds_of_shape shape = record {
  n = shape.axes;
  a = extent_over shape.nodes 1;
  b = extent_over shape.nodes 2;
  c = extent_over shape.nodes 3;
}
