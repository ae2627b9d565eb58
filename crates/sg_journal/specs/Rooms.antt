-- What the nodes of layouts have room for.
use Rattle.std.specs.Prelude.{◌≡◌, ℕ, zero, suc, ◌+◌, List, [], ◌∷◌, Option, Some, None, length, slice_get, slice_index_or, if◌then◌else◌, refl}
use Rattle.std.specs.Option.{option_map}
use Rattle.sg_layout.specs.declared.shape.Kind.{Kind}
use Rattle.sg_layout.specs.declared.shape.Kind.TheVariants.{Dense, Bitmasked, Pointer, Hash, Dynamic}
use Rattle.sg_layout.specs.declared.shape.NodeShape.{NodeShape}
use Rattle.sg_layout.specs.declared.shape.Shape.{Shape}
use Rattle.sg_layout.specs.Axes.{count_of}
use Rattle.sg_layout.specs.Limits.{spare_places}
use Rattle.sg_layout.specs.Examples.{blocks, growing, grid}
use Rattle.sg_store.specs.WellFormed.{kind_has_cap}
use Rattle.sg_store.specs.Links.{node_above, copy_slots}
use Rattle.sg_journal.specs.declared.rooms.Room.{Room}
use Rattle.sg_journal.specs.Journal.{Rooms}

-- the places of a node's pool
abbrev pub places_of : Kind → NodeShape → ℕ
places_of Dense node = 0
places_of Bitmasked node = 0
places_of Pointer node = count_of node.cap + spare_places
places_of Hash node = count_of node.cap + spare_places
places_of Dynamic node = count_of node.cap

-- the room of the node with this index, from 0
abbrev pub room_at : List NodeShape → ℕ → Option NodeShape → Option Room
room_at nodes index None = None
room_at nodes index (Some node) =
    if kind_has_cap node.kind
    then Some (record {
      places = places_of node.kind node;
      cap = count_of node.cap;
      slots = copy_slots nodes index node;
      above = option_map suc (node_above nodes index);
    })
    else None

-- the room of a node of a layout, numbered from 1
abbrev pub room_of : Shape → ℕ → Option Room
room_of shape zero = None
room_of shape (suc index) = room_at shape.nodes index (slice_get shape.nodes index)

-- the rooms of the nodes of a layout, from the root on
pub record AreRooms (shape : Shape) (rooms : List (Option Room)) : Type 0 where
  pub many : length rooms ≡ length shape.nodes
  pub each : (index : ℕ) → slice_index_or rooms index None ≡ room_of shape (suc index)

-- the room of a node of a layout that may be there
abbrev pub room_in : Option Shape → ℕ → Option Room
room_in None node = None
room_in (Some shape) node = room_of shape node

-- the rooms of layouts, numbered from 0
abbrev pub rooms_of : List Shape → Rooms
rooms_of shapes layout node = room_in (slice_get shapes layout) node

-- ---- examples: pointer(i: 4) cap 2; dense(i: 4);
room_of_blocks : room_of blocks 1 ≡ Some (record { places = 19; cap = 2; slots = 4; above = None })
room_of_blocks = refl

no_room_of_dense : room_of blocks 2 ≡ None
no_room_of_dense = refl

no_third_node : room_of blocks 3 ≡ None
no_third_node = refl

-- dynamic(i: 8) chunk 4 cap 2;
room_of_chunks : room_of growing 1 ≡ Some (record { places = 2; cap = 2; slots = 2; above = None })
room_of_chunks = refl

-- hash(i: 4, j: 4) cap 16; pointer(i: 2, j: 2) cap 64; bitmasked(i: 8, j: 8);
room_below_keys : room_of grid 2 ≡ Some (record { places = 81; cap = 64; slots = 4; above = Some 1 })
room_below_keys = refl

second_layout : rooms_of (blocks ∷ (grid ∷ [])) 1 1 ≡ Some (record { places = 33; cap = 16; slots = 16; above = None })
second_layout = refl
