-- Places in the tree, as a walk from outside goes through them.
use Rattle.std.specs.Prelude.{◌≡◌, ◌≢◌, IsTrue, take, ℕ, zero, suc, ◌+◌, ◌*◌, ◌<◌, List, [], ◌∷◌, length, Some, is_some, slice_index}
use Rattle.std.specs.List.{filter, range_with_len}
use Rattle.sg_coord.specs.declared.coord.Coord.{Coord}
use Rattle.sg_layout.specs.declared.shape.Kind.{Kind}
use Rattle.sg_layout.specs.declared.shape.Kind.TheVariants.{Dense, Bitmasked, Pointer, Hash, Dynamic}
use Rattle.sg_layout.specs.declared.shape.NodeShape.{NodeShape}
use Rattle.sg_layout.specs.declared.shape.Shape.{Shape}
use Rattle.sg_layout.specs.Axes.{size_of, sizes_of}
use Rattle.sg_layout.specs.Live.{kind_at, is_live}
use Rattle.sg_layout.specs.Slots.{IsSlot}
use Rattle.sg_store.specs.declared.spot.Spot.{Spot}
use Rattle.sg_store.specs.StoreWords.{StoreWords}
use Rattle.sg_store.specs.Walks.{cell_along}

-- the slots of one copy of a segment after a node, if it has so many at the node: a child container is one
abbrev pub width_past : Kind → ℕ → ℕ
width_past Dense slots = slots
width_past Bitmasked slots = slots
width_past Pointer slots = 1
width_past Hash slots = 1
width_past Dynamic slots = slots

-- the slots of one copy of a segment after so many nodes, if it has `width` of them before these
abbrev pub width_from : ℕ → List NodeShape → ℕ → ℕ
width_from width nodes zero = width
width_from width [] (suc through) = width
width_from width (node ∷ later) (suc through) =
    width_from (width_past node.kind (width * size_of node.sizes)) later through

-- the slots of one copy of its segment, after so many nodes from the root
abbrev pub width_after : List NodeShape → ℕ → ℕ
width_after nodes through = width_from 1 nodes through

-- the place of a spot: its slots are numbered copy by copy
abbrev pub place_of_spot : List NodeShape → Spot → ℕ
place_of_spot nodes spot = spot.part * width_after nodes spot.node + spot.slot

-- the spot leads along a path, which is a slot of the last of its nodes: the links and bits of the store lead from the
-- root along the path to it
pub record LeadsAlong (store : StoreWords) (spot : Spot) (slot : List ℕ) : Type 0 where
  pub node : spot.node ≡ length slot
  pub is_slot : IsSlot (take spot.node store.shape.nodes) slot
  pub within : spot.slot < width_after store.shape.nodes spot.node
  pub leads : cell_along store slot ≡ Some (place_of_spot store.shape.nodes spot)

-- a spot of the store: it leads along some path
abbrev pub IsSpot : StoreWords → Spot → Type 0
IsSpot store spot = (path : List ℕ) × LeadsAlong store spot path

-- a slot of a node, which is numbered from 1, can be gone through where these coordinates are active: the node has no
-- activity of its own, or the slot is live
abbrev pub IsPassable : Shape → List Coord → ℕ → List ℕ → Type 0
IsPassable shape active number slot = kind_at shape.nodes number ≢ Dense → IsTrue (is_live shape active number slot)

-- the offsets of the first node over which links and bits lead from the root, ascending
abbrev pub root_offsets : StoreWords → List ℕ
root_offsets store =
    filter (λ offset. is_some (cell_along store (offset ∷ [])))
    (range_with_len 0 (slice_index (sizes_of store.shape.nodes) 0))
