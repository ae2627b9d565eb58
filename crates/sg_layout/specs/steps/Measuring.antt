-- What a layout keeps for each node: the node's extents, and those of the nodes below it.
use Rattle.std.specs.Prelude.{◌≡◌, ℕ, zero, suc, ◌*◌, ◌/◌, ◌%◌, ◌≤◌, ◌^◌, List, [], ◌∷◌, map, pos, None}
use Rattle.sg_coord.specs.declared.coord.Coord.{Coord}
use Rattle.sg_coord.specs.declared.extents.Extents.{Extents}
use Rattle.sg_coord.specs.Bounds.{Bounds, bounds_of}
use Rattle.sg_coord.specs.Coord.{count_of, point_at}
use Rattle.sg_layout.specs.declared.shape.NodeShape.{NodeShape}
use Rattle.sg_layout.specs.declared.shape.Shape.{Shape}
use Rattle.sg_layout.specs.declared.measures.Measures.{Measures}
use Rattle.sg_layout.specs.Axes.{extent_over, bounds_of_shape}
use Rattle.sg_layout.specs.Slots.{node_bounds}
use Rattle.sg_layout.specs.Accepted.{IsAccepted}
use Rattle.sg_layout.specs.Rules.{first_node_fault}

-- the extents over a list of nodes, on three axes
abbrev pub bounds_below : List NodeShape → Bounds
bounds_below nodes = record { n = 3; a = extent_over nodes 1; b = extent_over nodes 2; c = extent_over nodes 3 }

-- a node's extents, and those of the nodes below it
abbrev pub measures_in : List NodeShape → List (Bounds × Bounds)
measures_in [] = []
measures_in (node ∷ later) = (node_bounds node, bounds_below later) ∷ measures_in later

-- those of the node with this index, from 0
abbrev pub measure_at : List NodeShape → ℕ → Bounds × Bounds
measure_at [] index = (bounds_below [], bounds_below [])
measure_at (node ∷ later) zero = (node_bounds node, bounds_below later)
measure_at (node ∷ later) (suc index) = measure_at later index

-- the pair that measures kept by the code stand for: the extents of a node, and those over the nodes below it
abbrev pub measure_of : Measures → Bounds × Bounds
measure_of measures = (bounds_of measures.own, bounds_of measures.below)

-- an accepted shape, with the extents of its axes and the measures of its nodes
pub record IsLayout (shape : Shape) (extents : Extents) (measures : List Measures) : Type 0 where
  pub accepted : IsAccepted shape
  pub same_bounds : bounds_of extents ≡ bounds_of_shape shape
  pub measured : map measure_of measures ≡ measures_in shape.nodes

-- nodes whose measures fit
pub record AreMeasurable (axes number : ℕ) (nodes : List NodeShape) : Type 0 where
  pub few : axes ≤ 3
  pub faultless : first_node_fault axes number nodes ≡ None
  pub a_most : extent_over nodes 1 ≤ 2 ^ 15
  pub b_most : extent_over nodes 2 ≤ 2 ^ 15
  pub c_most : extent_over nodes 3 ≤ 2 ^ 15
  pub volume_most : extent_over nodes 1 * extent_over nodes 2 * extent_over nodes 3 ≤ 2 ^ 30

-- the parts of a coordinate, as a point in a node's extents
abbrev pub parts_in : Bounds → Bounds → Coord → Coord
parts_in own below at = record {
  n = own.n;
  a = pos (count_of at.a / below.a % own.a);
  b = pos (count_of at.b / below.b % own.b);
  c = pos (count_of at.c / below.c % own.c);
}

-- what an offset adds to a coordinate
abbrev pub share_in : ℕ → Bounds → Bounds → ℕ → Coord
share_in axes own below offset = record {
  n = axes;
  a = pos (count_of (point_at own offset).a * below.a);
  b = pos (count_of (point_at own offset).b * below.b);
  c = pos (count_of (point_at own offset).c * below.c);
}
