-- What a frame has counted of each node of a layout.
use Rattle.std.specs.Prelude.{◌≡◌, ℕ, suc, ◌+◌, ◌*◌, ◌/◌, ◌^◌, ◌<◌, ◌≤◌, List, length, Some, slice_get, slice_index}
use Rattle.sg_layout.specs.declared.shape.Kind.{Kind}
use Rattle.sg_layout.specs.declared.shape.Kind.TheVariants.{Dense, Bitmasked, Pointer, Hash, Dynamic}
use Rattle.sg_layout.specs.declared.shape.NodeShape.{NodeShape}
use Rattle.sg_layout.specs.Axes.{sizes_of}
use Rattle.sg_store.specs.declared.frame.NodeWidths.{NodeWidths}
use Rattle.sg_store.specs.declared.spot.Spot.{Spot}
use Rattle.sg_store.specs.Spots.{width_past, width_after}

-- the kind and the size of the node with this index, and the widths before it and after it
pub record IsWidths (nodes : List NodeShape) (index : ℕ) (widths : NodeWidths) : Type 0 where
  pub kind_is : (node : NodeShape) → slice_get nodes index ≡ Some node → widths.kind ≡ node.kind
  pub size_is : widths.size ≡ slice_index (sizes_of nodes) index
  pub before_is : widths.before ≡ width_after nodes index
  pub after_is : widths.after ≡ width_after nodes (suc index)
  pub past_is : widths.after ≡ width_past widths.kind (widths.before * widths.size)
  pub some_size : 1 ≤ widths.size
  pub some_before : 1 ≤ widths.before
  pub some_after : 1 ≤ widths.after
  pub room : widths.before * widths.size ≤ 2 ^ 30

-- those of all nodes
pub record AreWidths (nodes : List NodeShape) (widths : List NodeWidths) : Type 0 where
  pub many : length widths ≡ length nodes
  pub each : (index : ℕ) (own : NodeWidths) → slice_get widths index ≡ Some own → IsWidths nodes index own

-- in the same copy of a segment a slot leads to itself
abbrev pub LeadsWithin : Kind → ℕ → ℕ → Type 0
LeadsWithin Dense slot place = place ≡ slot
LeadsWithin Bitmasked slot place = place ≡ slot
LeadsWithin Pointer slot place = Unit {0}
LeadsWithin Hash slot place = Unit {0}
LeadsWithin Dynamic slot place = Unit {0}

-- a place to which a node leads from a spot over an offset
pub record IsFound (widths : NodeWidths) (spot : Spot) (offset place : ℕ) : Type 0 where
  pub past_is : widths.after ≡ width_past widths.kind (widths.before * widths.size)
  pub some_after : 1 ≤ widths.after
  pub few : place / widths.after < 2 ^ 32
  pub leads : LeadsWithin widths.kind ((spot.part * widths.before + spot.slot) * widths.size + offset) place
