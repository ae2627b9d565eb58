-- Tables of which nothing is held yet.
use Rattle.std.specs.Prelude.{◌≡◌, ℕ, zero, suc, List, [], Option, None, slice_index_or}
use Rattle.sg_layout.specs.declared.shape.Shape.{Shape}
use Rattle.sg_journal.specs.declared.rooms.Room.{Room}
use Rattle.sg_journal.specs.Journal.{Rooms}
use Rattle.sg_journal.specs.Rooms.{room_of}
use Rattle.sg_audit.specs.declared.table.NodeTable.{NodeTable}
use Rattle.sg_audit.specs.steps.Tables.{AreTables}

-- the room of a node, numbered from 1, by those of a layout
abbrev pub room_at : List (Option Room) → ℕ → Option Room
room_at rooms zero = None
room_at rooms (suc index) = slice_index_or rooms index None

-- the tables of a layout of this shape, whichever number it has
abbrev pub MakesTables : Shape → List NodeTable → Type 0
MakesTables shape tables = (rooms : Rooms) (layout : ℕ) → ((node : ℕ) → rooms layout node ≡ room_of shape node) → AreTables rooms layout [] tables
