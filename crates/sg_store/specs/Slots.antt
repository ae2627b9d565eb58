-- The slots of one node over all copies of its segment: a slot's number, whether the node keeps it as active, and
-- where it leads on to.
--
-- A place is one number: that of a container among all containers, or of a slot among the slots of all copies. The
-- root is place 0, and the slots under a place have the numbers from the place times the node's size on.
use Rattle.std.specs.Prelude.{ℕ, zero, suc, ◌+◌, ◌*◌, ◌/◌, ◌%◌, Bool, true, not, ◌==◌, nat_lt, List, map, Option, Some, None, is_some, slice_get, slice_index, if◌then◌else◌}
use Rattle.std.specs.Option.{option_map}
use Rattle.std.specs.Int.{bit_at}
use Rattle.std.specs.List.{range_with_len}
use Rattle.sg_layout.specs.declared.shape.Kind.{Kind}
use Rattle.sg_layout.specs.declared.shape.Kind.TheVariants.{Dense, Bitmasked, Pointer, Hash, Dynamic}
use Rattle.sg_layout.specs.declared.shape.NodeShape.{NodeShape}
use Rattle.sg_layout.specs.Axes.{count_of, size_of}
use Rattle.sg_links.specs.Lists.{list_of}
use Rattle.sg_hash.specs.Tables.{beside}
use Rattle.sg_store.specs.declared.node.NodeWords.{NodeWords}

-- the number of the slot with this offset under a place
abbrev pub slot_under : NodeShape → ℕ → ℕ → ℕ
slot_under node place offset = place * size_of node.sizes + offset

-- the bit with this number, 64 of them in each word; past the last word it is not set
abbrev pub mask_bit : List ℕ → ℕ → Bool
mask_bit masks number = bit_at (slice_index masks (number / 64)) (number % 64) == 1

-- the number that a link has, which is one less than its word; none if the word is 0
abbrev pub linked : ℕ → Option ℕ
linked zero = None
linked (suc number) = Some number

-- and the word of a link with this number, or of none
abbrev pub link_word : Option ℕ → ℕ
link_word None = 0
link_word (Some number) = suc number

-- the links of a hash node's slots, by their numbers: a slot has the link that stands beside its number as a key
abbrev pub links_by_slot : List ℕ → List ℕ → ℕ → List ℕ
links_by_slot keys links slots = map (λ slot. link_word (beside keys links slot)) (range_with_len 0 slots)

-- the slot with this number is below the length of its parent, where each parent has so many slots: a dynamic node has a
-- length for each place above it
abbrev pub below_length : List ℕ → ℕ → ℕ → Bool
below_length lengths size number = nat_lt (number % size) (slice_index lengths (number / size))

-- the cell of an index under a parent of a dynamic node, in the chunk that stands in the parent's chain at the index
-- divided by the chunk; none past the end of the chain
abbrev pub chunk_cell : ℕ → List ℕ → ℕ → Option ℕ
chunk_cell chunk chain index = option_map (λ number. number * chunk + index % chunk) (slice_get chain (index / chunk))

-- the number of the word that a node has for a slot with this number: at a dynamic node that of its parent's length
abbrev pub word_number : Kind → NodeShape → ℕ → ℕ
word_number Dense node number = number
word_number Bitmasked node number = number
word_number Pointer node number = number
word_number Hash node number = number
word_number Dynamic node number = number / size_of node.sizes

-- the node keeps the slot with this number as active: a link, a key, a set bit, or a length that is past it; a dense node
-- keeps all
abbrev pub is_set : Kind → NodeShape → NodeWords → ℕ → Bool
is_set Dense node kept number = true
is_set Bitmasked node kept number = mask_bit kept.masks number
is_set Pointer node kept number = not (slice_index kept.links number == 0)
is_set Hash node kept number = is_some (beside kept.keys kept.links number)
is_set Dynamic node kept number = below_length kept.lengths (size_of node.sizes) number

-- the place to which a slot leads on by links alone: the number of its child container, which at a hash node stands
-- beside the slot's number as a key; the cell in a chunk of its parent; or the slot itself, also where its bit isn't set
abbrev pub place_below : Kind → NodeShape → NodeWords → ℕ → Option ℕ
place_below Dense node kept number = Some number
place_below Bitmasked node kept number = Some number
place_below Pointer node kept number = linked (slice_index kept.links number)
place_below Hash node kept number = beside kept.keys kept.links number
place_below Dynamic node kept number =
    chunk_cell (count_of node.chunk) (list_of kept.chains (number / size_of node.sizes)) (number % size_of node.sizes)

-- and the place to which it leads on along slots that are active at their nodes, by links and bits
abbrev pub active_below : Kind → NodeShape → NodeWords → ℕ → Option ℕ
active_below kind node kept number = if is_set kind node kept number then place_below kind node kept number else None
