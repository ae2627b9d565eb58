-- What a journal of containers says is held, line by line.
use Rattle.std.specs.Prelude.{ℕ, zero, suc, Bool, false, not, ◌&&◌, ◌==◌, nat_lt, List, [], ◌∷◌, length, filter, Option, Some, None, option_and_then}
use Rattle.std.specs.List.{list_any}
use Rattle.sg_words.specs.Options.{only_if}
use Rattle.sg_journal.specs.declared.lines.Link.{Link}
use Rattle.sg_journal.specs.declared.lines.Line.{Line}
use Rattle.sg_journal.specs.declared.lines.Line.TheVariants.{Take, Free}
use Rattle.sg_journal.specs.declared.rooms.Room.{Room}

-- the rooms of layouts, by layout and node; none where there is no such node, or it has no cap
abbrev pub Rooms : Type 0
Rooms = ℕ → ℕ → Option Room

-- the link is that of this number
abbrev pub has_number : (layout node number : ℕ) → Link → Bool
has_number layout node number link = (link.layout == layout) && ((link.node == node) && (link.number == number))

-- the link stands in this slot
abbrev pub has_slot : (layout node parent slot : ℕ) → Link → Bool
has_slot layout node parent slot link =
    (link.layout == layout) && ((link.node == node) && ((link.parent == parent) && (link.slot == slot)))

-- the link is of this node
abbrev pub has_node : (layout node : ℕ) → Link → Bool
has_node layout node link = (link.layout == layout) && (link.node == node)

abbrev pub is_held : List Link → (layout node number : ℕ) → Bool
is_held held layout node number = list_any (has_number layout node number) held

abbrev pub is_taken : List Link → (layout node parent slot : ℕ) → Bool
is_taken held layout node parent slot = list_any (has_slot layout node parent slot) held

-- how many numbers are held of a node
abbrev pub count_at : List Link → (layout node : ℕ) → ℕ
count_at held layout node = length (filter (has_node layout node) held)

-- a parent is the root segment if no node above has containers; else one more than a number that is held at the nearest
abbrev pub has_parent : List Link → ℕ → Option ℕ → ℕ → Bool
has_parent held layout None parent = parent == 0
has_parent held layout (Some above) zero = false
has_parent held layout (Some above) (suc number) = is_held held layout above number

-- a node with a cap has room for a link that isn't held: the number has a place and isn't held, the slot is one of a copy's and
-- holds nothing, the parent is there, and afterwards at most the cap is held
abbrev pub take_fits : List Link → Link → Option Room → Bool
take_fits held link None = false
take_fits held link (Some room) =
    nat_lt link.number room.places
    && (not (is_held held link.layout link.node link.number)
    && (not (is_taken held link.layout link.node link.parent link.slot)
    && (nat_lt (count_at held link.layout link.node) room.cap
    && (has_parent held link.layout room.above link.parent && nat_lt link.slot room.slots))))

-- a take is sound
abbrev pub is_sound_take : Rooms → List Link → Link → Bool
is_sound_take rooms held link = take_fits held link (rooms link.layout link.node)

-- the nearest node above is that one
abbrev pub is_node : Option ℕ → ℕ → Bool
is_node None node = false
is_node (Some above) node = above == node

-- and that above a node with this room
abbrev pub is_below : Option Room → ℕ → Bool
is_below None node = false
is_below (Some room) node = is_node room.above node

-- the link stands in the container with this number
abbrev pub is_child : Rooms → (layout node number : ℕ) → Link → Bool
is_child rooms layout node number link =
    (link.layout == layout) && (is_below (rooms link.layout link.node) node && (link.parent == suc number))

-- a free is sound: the number is held, and is the parent of none that is
abbrev pub is_sound_free : Rooms → List Link → (layout node number : ℕ) → Bool
is_sound_free rooms held layout node number =
    is_held held layout node number && not (list_any (is_child rooms layout node number) held)

-- what is held after a line, if it is sound; the last take is the first in the list
abbrev pub follow : Rooms → List Link → Line → Option (List Link)
follow rooms held (Take link) = only_if (is_sound_take rooms held link) (Some (link ∷ held))
follow rooms held (Free layout node number) =
    only_if (is_sound_free rooms held layout node number) (Some (filter (λ link. not (has_number layout node number link)) held))

-- what is held after lines of which each is sound
abbrev pub held_after : Rooms → List Link → List Line → Option (List Link)
held_after rooms held [] = Some held
held_after rooms held (line ∷ lines) = option_and_then (λ next. held_after rooms next lines) (follow rooms held line)
