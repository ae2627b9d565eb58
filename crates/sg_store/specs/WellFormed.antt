-- What every store keeps, whatever flat layout it stands for.
use Rattle.std.specs.Prelude.{◌≡◌, ◌≢◌, ◌↔◌, ℕ, suc, ◌+◌, ◌*◌, ◌/◌, ◌^◌, ◌<◌, ◌≤◌, nat_lt, Bool, true, false, IsTrue, List, [], ◌∷◌, length, Some, All, Contains, slice_index, is_some}
use Rattle.std.specs.List.{AllZip}
use Rattle.std.specs.Int.{div_ceil}
use Rattle.sg_layout.specs.declared.shape.Kind.{Kind}
use Rattle.sg_layout.specs.declared.shape.Kind.TheVariants.{Dense, Bitmasked, Pointer, Hash, Dynamic}
use Rattle.sg_layout.specs.declared.shape.NodeShape.{NodeShape}
use Rattle.sg_layout.specs.declared.shape.Shape.{Shape}
use Rattle.sg_layout.specs.Axes.{count_of, size_of}
use Rattle.sg_layout.specs.Accepted.{IsAccepted}
use Rattle.sg_layout.specs.StorageWords.{power_for, words_of_shape, most_words}
use Rattle.sg_layout.specs.Slots.{IsSlot}
use Rattle.sg_hash.specs.Tables.{IsTable, AreBeside, beside}
use Rattle.sg_links.specs.Lists.{list_of}
use Rattle.sg_dynamic.specs.Chunks.{chunks_of, IsExact}
use Rattle.sg_pool.specs.Numbers.{place_count, is_live_number, live_count, IsParted}
use Rattle.sg_store.specs.declared.node.NodeWords.{NodeWords}
use Rattle.sg_store.specs.StoreWords.{StoreWords}
use Rattle.sg_store.specs.Slots.{mask_bit, links_by_slot, below_length}
use Rattle.sg_store.specs.Walks.{cell_along}

-- a pointer node with so many slots, of which those that `live` tells are in live containers: it has a link word for
-- each slot; its pool has a number for each container of its cap, and one spare for each of 16 workers and one more; a
-- number is live exactly when some link has it, no two links have the same, and each stands in a live container
pub record IsPointerNode (node : NodeShape) (kept : NodeWords) (slots : ℕ) (live : ℕ → Bool) : Type 0 where
  pub link_count : length kept.links ≡ slots
  pub places : place_count kept.pool ≡ count_of node.cap + 17
  pub live_linked : (number : ℕ) → IsTrue (is_live_number kept.pool number) ↔ Contains kept.links (suc number)
  pub once : (x y : ℕ) → slice_index kept.links x ≢ 0 → slice_index kept.links x ≡ slice_index kept.links y → x ≡ y
  pub in_live : (slot : ℕ) → slice_index kept.links slot ≢ 0 → IsTrue (live slot)

-- a bitmasked node: it has a bit for each slot, and each set bit stands in a live container
pub record IsMaskNode (kept : NodeWords) (slots : ℕ) (live : ℕ → Bool) : Type 0 where
  pub word_count : length kept.masks ≡ div_ceil slots 64
  pub in_live : (slot : ℕ) → IsTrue (mask_bit kept.masks slot) → IsTrue (live slot)

-- the words of a hash node with so many slots as those of a pointer node: with a link word for each slot
abbrev pub by_slots : NodeWords → ℕ → NodeWords
by_slots kept slots = record kept { links = links_by_slot kept.keys kept.links slots }

-- a hash node: a table of keys with links beside them, of the least power of two places that is at least twice the cap;
-- each key is the number of a slot; and by its slots the node is as a pointer node
pub record IsHashNode (node : NodeShape) (kept : NodeWords) (slots : ℕ) (live : ℕ → Bool) : Type 0 where
  pub key_count : length kept.keys ≡ power_for (2 * count_of node.cap)
  pub table : IsTable kept.keys
  pub links_beside : AreBeside kept.keys kept.links
  pub few_slots : slots ≤ 2 ^ 32
  pub keys_are_slots : (key : ℕ) → IsTrue (is_some (beside kept.keys kept.links key)) → key < slots
  pub as_pointer : IsPointerNode node (by_slots kept slots) slots live

-- a dynamic node: it has a length for each place above it, none past the node's extent, and a chain of so many chunks as
-- the length needs; its pool has a number for each chunk of its cap, of which those are live that stand in a chain, each in
-- one and once; and each slot below a length stands in a live container
pub record IsDynamicNode (node : NodeShape) (kept : NodeWords) (slots : ℕ) (live : ℕ → Bool) : Type 0 where
  pub length_count : length kept.lengths * size_of node.sizes ≡ slots
  pub short : (parent : ℕ) → slice_index kept.lengths parent ≤ size_of node.sizes
  pub chain_count : length kept.chains.lists ≡ length kept.lengths
  pub chains_fit : (parent : ℕ) → parent < length kept.lengths →
      length (list_of kept.chains parent) ≡ chunks_of (count_of node.chunk) (slice_index kept.lengths parent)
  pub places : place_count kept.pool ≡ count_of node.cap
  pub exact : IsExact kept.chains kept.pool
  pub some_chunk : 1 ≤ count_of node.chunk
  pub in_live : (slot : ℕ) → IsTrue (below_length kept.lengths (size_of node.sizes) slot) → IsTrue (live slot)

-- a node of each kind
abbrev pub IsNode : Kind → NodeShape → NodeWords → ℕ → (ℕ → Bool) → Type 0
IsNode Dense node kept slots live = Unit {0}
IsNode Bitmasked node kept slots live = IsMaskNode kept slots live
IsNode Pointer node kept slots live = IsPointerNode node kept slots live
IsNode Hash node kept slots live = IsHashNode node kept slots live
IsNode Dynamic node kept slots live = IsDynamicNode node kept slots live

-- how many places stand below a node with so many slots: its pool's numbers if it has child containers, the cells of
-- its chunks if it is dynamic, else its slots
abbrev pub places_below : Kind → NodeShape → ℕ → ℕ
places_below Dense node slots = slots
places_below Bitmasked node slots = slots
places_below Pointer node slots = count_of node.cap + 17
places_below Hash node slots = count_of node.cap + 17
places_below Dynamic node slots = count_of node.cap * count_of node.chunk

-- whether such a place is live: its number is, or else the slot is in a live container; below a dynamic node stands no
-- other, so that it isn't asked
abbrev pub live_below : Kind → NodeWords → (ℕ → Bool) → ℕ → Bool
live_below Dense kept live number = live number
live_below Bitmasked kept live number = live number
live_below Pointer kept live number = is_live_number kept.pool number
live_below Hash kept live number = is_live_number kept.pool number
live_below Dynamic kept live number = false

-- whether a slot of a node is in a live container, where `live` tells it of the places above the node
abbrev pub live_slot : NodeShape → (ℕ → Bool) → ℕ → Bool
live_slot node live number = live (number / size_of node.sizes)

-- the words of nodes under so many places, of which `live` tells the live ones; a dynamic node is the last
abbrev pub AreNodes : List NodeShape → List NodeWords → ℕ → (ℕ → Bool) → Type 0
AreNodes [] [] places live = Unit {0}
AreNodes [] (kept ∷ words) places live = ⊥
AreNodes (node ∷ later) [] places live = ⊥
AreNodes (node ∷ later) (kept ∷ words) places live =
    (places * size_of node.sizes ≤ 2 ^ 47)
    × IsNode node.kind node kept (places * size_of node.sizes) (live_slot node live)
    × AreNodes later words (places_below node.kind node (places * size_of node.sizes))
    (live_below node.kind kept (live_slot node live))
    × (node.kind ≡ Dynamic → later ≡ [])

-- the root is the one place above the first node
abbrev pub is_root : ℕ → Bool
is_root place = nat_lt place 1

-- a node of this kind has a cap, and a pool
abbrev pub kind_has_cap : Kind → Bool
kind_has_cap Dense = false
kind_has_cap Bitmasked = false
kind_has_cap Pointer = true
kind_has_cap Hash = true
kind_has_cap Dynamic = true

-- at most as many containers are live as the node's cap
abbrev pub IsWithinCap : Kind → NodeShape → NodeWords → Type 0
IsWithinCap Dense node kept = Unit {0}
IsWithinCap Bitmasked node kept = Unit {0}
IsWithinCap Pointer node kept = live_count kept.pool ≤ count_of node.cap
IsWithinCap Hash node kept = live_count kept.pool ≤ count_of node.cap
IsWithinCap Dynamic node kept = live_count kept.pool ≤ count_of node.cap

-- how many cells stand below nodes under so many places
abbrev pub cells_below : List NodeShape → ℕ → ℕ
cells_below [] places = places
cells_below (node ∷ later) places = cells_below later (places_below node.kind node (places * size_of node.sizes))

-- how many cells a layout's store has, live or not
abbrev pub cell_count : Shape → ℕ
cell_count shape = cells_below shape.nodes 1

-- a cell is reached: links and bits lead to it along some slot of the last node
pub record IsReached (store : StoreWords) (cell : ℕ) : Type 0 where
  pub slot : List ℕ
  pub is_slot : IsSlot store.shape.nodes slot
  pub leads : cell_along store slot ≡ Some cell

-- the values of a field: a word for each cell, and 0 in each that isn't reached
pub record IsFieldRow (store : StoreWords) (row : List ℕ) : Type 0 where
  pub cells : length row ≡ cell_count store.shape
  pub only_reached : (cell : ℕ) → slice_index row cell ≢ 0 → IsReached store cell

-- a well-formed store
pub record IsWellFormed (store : StoreWords) : Type 0 where
  pub accepted : IsAccepted store.shape
  pub nodes_fit : AreNodes store.shape.nodes store.nodes 1 is_root
  pub within_caps : AllZip (λ node kept. IsWithinCap node.kind node kept) store.shape.nodes store.nodes
  pub numbers_parted : All (λ kept. IsParted kept.pool) store.nodes
  pub few_words : words_of_shape store.shape ≤ most_words
  pub few_cells : cell_count store.shape ≤ 2 ^ 22
  pub field_count : length store.fields ≡ length store.shape.fields
  pub rows_fit : All (IsFieldRow store) store.fields
