-- What other crates use of layouts: what nodes of an accepted shape keep, what is at a node, and what makes a slot live.
use Rattle.std.proofs.Common.{◌≡◌, ℕ, zero, suc, ◌≤◌, true, List, [], ◌∷◌, length, get_or, drop, refl, ap}
use Rattle.std.specs.Prelude.{slice_index}
use Rattle.std.specs.List.{list_all}
use Rattle.std.proofs.lemmas.Bool.{and_parts}
use Rattle.sg_coord.specs.declared.coord.Coord.{Coord}
use Rattle.sg_layout.specs.declared.shape.NodeShape.{NodeShape}
use Rattle.sg_layout.specs.declared.shape.Shape.{Shape}
use Rattle.sg_layout.specs.Axes.{size_of, sizes_of}
use Rattle.sg_layout.specs.Path.{offset_at, offsets}
use Rattle.sg_layout.specs.Accepted.{IsAccepted}
use Rattle.sg_layout.specs.Rules.{has_good_extents}
-- nodes without a fault: what the first keeps, and that the later ones have none
pub use Rattle.sg_layout.proofs.Keeping.{faultless_head, faultless_tail}
-- extents are from 1 to 2 ^ 15, at a node and over nodes, and those of further axes 1
pub use Rattle.sg_layout.proofs.Extending.{IsExtent, whole_from, extent_is, in_some, over_some, good_extents, unnamed_over, axes_declared}
-- sizes are at least 1; an accepted shape has no fault, and few nodes and fields
pub use Rattle.sg_layout.proofs.Faultless.{size_some, slots_some, size_axes, no_fault, volume_slots, slots_few, counts_declared}
-- what makes a slot live
pub use Rattle.sg_layout.proofs.Slots.{MakesLive, live_itself, live_onward, from_live, into_live}
-- members of lists of slots, each once
pub use Rattle.sg_layout.proofs.Distinct.{into_distinct, from_distinct}

-- the extents of an accepted shape keep their rule
pub all_good : (shape : Shape) → IsAccepted shape → list_all has_good_extents shape.nodes ≡ true
all_good shape accepted = good_extents shape.axes 1 shape.nodes (no_fault shape accepted)

pub good_below : (nodes : List NodeShape) (i : ℕ) → list_all has_good_extents nodes ≡ true → list_all has_good_extents (drop i nodes) ≡ true
good_below nodes zero good = good
good_below [] (suc i) good = refl
good_below (node ∷ later) (suc i) good = good_below later i (and_parts (has_good_extents node) (list_all has_good_extents later) good).1

pub few_nodes : (shape : Shape) → IsAccepted shape → length shape.nodes ≤ 6
few_nodes shape accepted = (counts_declared shape accepted.declared).0

-- the size of the node at a place, and the offset of a coordinate there
pub size_there : (nodes : List NodeShape) (i : ℕ) (node : NodeShape) (later : List NodeShape) → drop i nodes ≡ node ∷ later → slice_index (sizes_of nodes) i ≡ size_of node.sizes
size_there [] zero node later split = cc
size_there [] (suc i) node later split = cc
size_there (first ∷ rest) zero node later split = ap (λ (ns : List NodeShape). size_of (get_or ns 0 node).sizes) split
size_there (first ∷ rest) (suc i) node later split = size_there rest i node later split

pub offset_at_place : (nodes : List NodeShape) (i : ℕ) (node : NodeShape) (later : List NodeShape) (at : Coord) → drop i nodes ≡ node ∷ later → slice_index (offsets nodes at) i ≡ offset_at node later at
offset_at_place [] zero node later at split = cc
offset_at_place [] (suc i) node later at split = cc
offset_at_place (first ∷ rest) zero node later at split = ap (λ (ns : List NodeShape). offset_at (get_or ns 0 node) (drop 1 ns) at) split
offset_at_place (first ∷ rest) (suc i) node later at split = offset_at_place rest i node later at split
