-- What a table keeps of the numbers that are held of a node, and the tables of layouts of all that is held.
use Rattle.std.specs.Prelude.{◌≡◌, ℕ, zero, suc, ◌+◌, ◌-◌, ◌*◌, ◌^◌, ◌<◌, ◌≤◌, min, Bool, true, false, not, ◌&&◌, ◌==◌, nat_lt, if◌then◌else◌, List, [], ◌∷◌, length, filter, map, All, Option, Some, None, is_some, slice_get, slice_set, slice_index, slice_index_or}
use Rattle.std.specs.List.{list_any}
use Rattle.std.specs.BTreeSet.{contains}
use Rattle.std.specs.Ordering.{nat_cmp}
use Rattle.sg_journal.specs.declared.lines.Link.{Link}
use Rattle.sg_journal.specs.declared.lines.Line.{Line}
use Rattle.sg_journal.specs.declared.rooms.Room.{Room}
use Rattle.sg_journal.specs.Journal.{Rooms, has_number, has_node, is_below, is_sound_take, is_sound_free, follow}
use Rattle.sg_audit.specs.declared.table.Standing.{Standing}
use Rattle.sg_audit.specs.declared.table.NodeLink.{NodeLink}
use Rattle.sg_audit.specs.declared.table.NodeTable.{NodeTable}

-- ---- one node: what is held of it, the last taken first

abbrev pub has_this : ℕ → NodeLink → Bool
has_this number link = link.number == number

abbrev pub stands_in : (parent slot : ℕ) → NodeLink → Bool
stands_in parent slot link = (link.standing.parent == parent) && (link.standing.slot == slot)

abbrev pub is_in : (parent : ℕ) → NodeLink → Bool
is_in parent link = link.standing.parent == parent

-- where a number stands
abbrev pub standing_of : List NodeLink → ℕ → Option Standing
standing_of [] number = None
standing_of (link ∷ links) number = if link.number == number then Some link.standing else standing_of links number

-- no number stands twice
abbrev pub AreOnce : List NodeLink → Type 0
AreOnce [] = Unit {0}
AreOnce (link ∷ links) = (list_any (has_this link.number) links ≡ false) × AreOnce links

-- a link is within the table: its number, its slot, its parent
pub record IsWithin (places slots parents : ℕ) (link : NodeLink) : Type 0 where
  pub number : link.number < places
  pub slot : link.standing.slot < slots
  pub parent : link.standing.parent < parents

-- the table of a node with so many slots in a copy has these links: no number and no slot stands twice
pub record HasLinks (table : NodeTable) (slots : ℕ) (links : List NodeLink) : Type 0 where
  pub once : AreOnce links
  pub single : (parent slot : ℕ) → length (filter (stands_in parent slot) links) ≤ 1
  pub within : All (IsWithin (length table.standing) slots (length table.children)) links
  pub stands : (number : ℕ) → slice_index_or table.standing number None ≡ standing_of links number
  pub taken : (parent slot : ℕ) → slot < slots → contains nat_cmp table.taken (parent * slots + slot) ≡ list_any (stands_in parent slot) links
  pub children : (parent : ℕ) → slice_index table.children parent ≡ length (filter (is_in parent) links)
  pub count : table.count ≡ length links

-- the table of a node with this room, whose parents' numbers are below so many: without a room it has no places
abbrev pub IsTable : Option Room → ℕ → NodeTable → List NodeLink → Type 0
IsTable None parents table links = (table.room ≡ None) × (table.standing ≡ []) × (links ≡ [])
IsTable (Some room) parents table links =
    (table.room ≡ Some room) × (length table.standing ≡ room.places) × (length table.children ≡ parents) × HasLinks table room.slots links

-- a node has room for a link that isn't held, its parent apart
abbrev pub fits_node : Option Room → ℕ → List NodeLink → NodeLink → Bool
fits_node None parents links link = false
fits_node (Some room) parents links link =
    nat_lt link.number room.places
    && (nat_lt link.standing.slot room.slots
    && (nat_lt link.standing.parent parents
    && (nat_lt (length links) room.cap
    && (not (list_any (has_this link.number) links)
    && not (list_any (stands_in link.standing.parent link.standing.slot) links)))))

-- the table's own test of a link: the number, the slot and the parent are within, the cap isn't reached, and the number isn't held
abbrev pub is_open : NodeTable → Room → NodeLink → Bool
is_open table room link =
    nat_lt link.number (length table.standing)
    && (nat_lt link.standing.slot room.slots
    && (nat_lt link.standing.parent (length table.children)
    && (nat_lt table.count room.cap
    && not (is_some (slice_index_or table.standing link.number None)))))

-- the number of a slot over all copies
abbrev pub slot_number : Standing → ℕ → ℕ
slot_number standing slots = standing.parent * slots + standing.slot

-- one more, and one less, but for the taken slots
abbrev pub put_in : NodeTable → NodeLink → NodeTable
put_in table link = record {
  room = table.room;
  standing = slice_set table.standing link.number (Some link.standing);
  taken = table.taken;
  children = slice_set table.children link.standing.parent (min (slice_index table.children link.standing.parent + 1) (2 ^ 32 - 1));
  count = min (table.count + 1) (2 ^ 32 - 1);
}

abbrev pub taken_out : NodeTable → ℕ → Standing → NodeTable
taken_out table number standing = record {
  room = table.room;
  standing = slice_set table.standing number None;
  taken = table.taken;
  children = slice_set table.children standing.parent (slice_index table.children standing.parent - 1);
  count = table.count - 1;
}

-- a table takes a link if it fits, and else stays
abbrev pub Takes : Option Room → ℕ → NodeTable → NodeTable → NodeLink → Bool → Type 0
Takes room parents old new link done =
    (links : List NodeLink) → IsTable room parents old links →
    (done ≡ fits_node room parents links link) × IsTable room parents new (if done then link ∷ links else links)

-- a table lets a number go if it is held, and else stays
abbrev pub LetsGo : Option Room → ℕ → NodeTable → NodeTable → ℕ → Bool → Type 0
LetsGo room parents old new number done =
    (links : List NodeLink) → IsTable room parents old links →
    (done ≡ list_any (has_this number) links) × IsTable room parents new (filter (λ link. not (has_this number link)) links)

-- ---- layouts

-- a held link without its layout and node
abbrev pub node_link : Link → NodeLink
node_link link = record { number = link.number; standing = record { parent = link.parent; slot = link.slot } }

-- what is held of a node
abbrev pub links_of : List Link → (layout node : ℕ) → List NodeLink
links_of held layout node = map node_link (filter (has_node layout node) held)

-- how many places a node has that may be there
abbrev pub places_in : Option Room → ℕ
places_in None = 0
places_in (Some room) = room.places

-- below which number the parents of a node's links are, by the rooms of its layout
abbrev pub parents_by : (ℕ → Option Room) → Option ℕ → ℕ
parents_by rooms None = 1
parents_by rooms (Some above) = suc (places_in (rooms above))

abbrev pub parents_of : (ℕ → Option Room) → Option Room → ℕ
parents_of rooms None = 0
parents_of rooms (Some room) = parents_by rooms room.above

-- nothing is held of a node without a cap
abbrev pub HaveRooms : Rooms → List Link → Type 0
HaveRooms rooms held = (layout node : ℕ) → rooms layout node ≡ None → links_of held layout node ≡ []

-- the table of a node, numbered from 1
abbrev pub table_at : List NodeTable → ℕ → Option NodeTable
table_at tables zero = None
table_at tables (suc index) = slice_get tables index

-- the tables of the nodes of a layout, where so much is held
pub record AreTables (rooms : Rooms) (layout : ℕ) (held : List Link) (tables : List NodeTable) : Type 0 where
  pub past : (node : ℕ) → table_at tables node ≡ None → rooms layout node ≡ None
  pub each : (node : ℕ) (table : NodeTable) → table_at tables node ≡ Some table →
      IsTable (rooms layout node) (parents_of (rooms layout) (rooms layout node)) table (links_of held layout node)

-- the number is held of a node, by its table
abbrev pub holds_in : Option NodeTable → ℕ → Bool
holds_in None number = false
holds_in (Some table) number = is_some (slice_index_or table.standing number None)

-- the parent of a link is there, by the node's room and the tables of its layout
abbrev pub parent_by : List NodeTable → Option ℕ → ℕ → Bool
parent_by tables None parent = parent == 0
parent_by tables (Some above) zero = false
parent_by tables (Some above) (suc number) = holds_in (table_at tables above) number

abbrev pub parent_in : List NodeTable → Option Room → ℕ → Bool
parent_in tables None parent = false
parent_in tables (Some room) parent = parent_by tables room.above parent

abbrev pub parent_of_table : List NodeTable → Option NodeTable → ℕ → Bool
parent_of_table tables None parent = false
parent_of_table tables (Some table) parent = parent_in tables table.room parent

-- a number of a node has children in the table of another
abbrev pub has_child_in : (node number : ℕ) → NodeTable → Bool
has_child_in node number table = is_below table.room node && nat_lt 0 (slice_index table.children (number + 1))

-- what is held after a take, and after a free
abbrev pub with_link : Bool → Link → List Link → List Link
with_link true link held = link ∷ held
with_link false link held = held

abbrev pub without : Bool → (layout node number : ℕ) → List Link → List Link
without true layout node number held = filter (λ link. not (has_number layout node number link)) held
without false layout node number held = held

-- the tables of a layout take a link if that is sound, and else stay
abbrev pub TakesLink : List NodeTable → List NodeTable → Link → Bool → Type 0
TakesLink old new link sound =
    (rooms : Rooms) (held : List Link) → HaveRooms rooms held → AreTables rooms link.layout held old →
    (sound ≡ is_sound_take rooms held link) × AreTables rooms link.layout (with_link sound link held) new

-- and let a number go
abbrev pub FreesNumber : List NodeTable → List NodeTable → (node number : ℕ) → Bool → Type 0
FreesNumber old new node number sound =
    (rooms : Rooms) (layout : ℕ) (held : List Link) → HaveRooms rooms held → AreTables rooms layout held old →
    (sound ≡ is_sound_free rooms held layout node number) × AreTables rooms layout (without sound layout node number held) new

-- the tables of all layouts, where so much is held
pub record Stand (rooms : Rooms) (held : List Link) (layouts : List (List NodeTable)) : Type 0 where
  pub have : HaveRooms rooms held
  pub past : (layout node : ℕ) → slice_get layouts layout ≡ None → rooms layout node ≡ None
  pub each : (layout : ℕ) (tables : List NodeTable) → slice_get layouts layout ≡ Some tables → AreTables rooms layout held tables

-- a line was followed if it is sound
abbrev pub FollowedAs : Rooms → List (List NodeTable) → Option (List Link) → Bool → Type 0
FollowedAs rooms now None sound = sound ≡ false
FollowedAs rooms now (Some held) sound = (sound ≡ true) × Stand rooms held now

abbrev pub Follows : List (List NodeTable) → List (List NodeTable) → Line → Bool → Type 0
Follows old now line sound = (rooms : Rooms) (held : List Link) → Stand rooms held old → FollowedAs rooms now (follow rooms held line) sound
