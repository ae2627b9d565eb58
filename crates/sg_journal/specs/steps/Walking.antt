-- The rooms of nodes, node by node.
use Rattle.std.specs.Prelude.{ℕ, ◌*◌, Option, Some, None}
use Rattle.sg_layout.specs.declared.shape.Kind.{Kind}
use Rattle.sg_layout.specs.declared.shape.Kind.TheVariants.{Dense, Bitmasked, Pointer, Hash, Dynamic}
use Rattle.sg_layout.specs.declared.shape.NodeShape.{NodeShape}
use Rattle.sg_layout.specs.Axes.{count_of}
use Rattle.sg_store.specs.Links.{slots_per_place}
use Rattle.sg_journal.specs.declared.rooms.Room.{Room}
use Rattle.sg_journal.specs.Rooms.{places_of}

-- the room of a node of this kind, with the nearest node above and the slots of one copy before it
abbrev pub room_for : Kind → NodeShape → Option ℕ → ℕ → Option Room
room_for Dense node above before = None
room_for Bitmasked node above before = None
room_for Pointer node above before = Some (record { places = places_of Pointer node; cap = count_of node.cap; slots = before * slots_per_place Pointer node; above = above })
room_for Hash node above before = Some (record { places = places_of Hash node; cap = count_of node.cap; slots = before * slots_per_place Hash node; above = above })
room_for Dynamic node above before = Some (record { places = places_of Dynamic node; cap = count_of node.cap; slots = before * slots_per_place Dynamic node; above = above })

abbrev pub room_by : NodeShape → Option ℕ → ℕ → Option Room
room_by node above before = room_for node.kind node above before
