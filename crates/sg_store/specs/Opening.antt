-- A store whose nodes are opened one after the other for wanted coordinates: the words that a node may be given, and
-- when the store is open through it afterwards. Nodes are numbered from 1.
use Rattle.std.specs.Prelude.{◌≡◌, ◌≢◌, ℕ, suc, ◌+◌, ◌-◌, ◌<◌, ◌≤◌, not, ◌==◌, IsTrue, false, List, [], ◌++◌, length, take, Contains, Option, Some, None, slice_index, slice_get}
use Rattle.sg_words.specs.Counts.{one, total}
use Rattle.sg_coord.specs.declared.coord.Coord.{Coord}
use Rattle.sg_layout.specs.declared.shape.NodeShape.{NodeShape}
use Rattle.sg_layout.specs.Axes.{count_of, sizes_of}
use Rattle.sg_layout.specs.Path.{offsets}
use Rattle.sg_layout.specs.NeedLaws.{IsNumberedNode}
use Rattle.sg_layout.specs.Slots.{IsSlot}
use Rattle.sg_hash.specs.Tables.{IsTable, AreBeside}
use Rattle.sg_pool.specs.Numbers.{PoolNumbers, live_count, CanSettle}
use Rattle.sg_store.specs.declared.node.NodeWords.{NodeWords}
use Rattle.sg_store.specs.StoreWords.{StoreWords}
use Rattle.sg_store.specs.Slots.{mask_bit}
use Rattle.sg_store.specs.Walks.{word_along, place_in}
use Rattle.sg_store.specs.Reaching.{IsOpenThrough}

-- ── The words of a node ──

-- the slot words of a node, its key words, its mask words and its lengths; none if there is no such node
abbrev pub links_or_none : Option NodeWords → List ℕ
links_or_none None = []
links_or_none (Some kept) = kept.links

-- the link words of the node with this number, from 1; none past the last node
abbrev pub link_words_of : StoreWords → ℕ → List ℕ
link_words_of store number = links_or_none (slice_get store.nodes (number - 1))

-- the key words of a hash node's table, each 0 or one more than a slot's number; none if there is no such node
abbrev pub keys_or_none : Option NodeWords → List ℕ
keys_or_none None = []
keys_or_none (Some kept) = kept.keys

-- the key words of the node with this number, from 1; none past the last node
abbrev pub keys_of : StoreWords → ℕ → List ℕ
keys_of store number = keys_or_none (slice_get store.nodes (number - 1))

-- the mask words of a bitmasked node, 64 bits in each, one for each slot; none if there is no such node
abbrev pub masks_or_none : Option NodeWords → List ℕ
masks_or_none None = []
masks_or_none (Some kept) = kept.masks

-- the mask words of the node with this number, from 1; none past the last node
abbrev pub masks_of : StoreWords → ℕ → List ℕ
masks_of store number = masks_or_none (slice_get store.nodes (number - 1))

-- the lengths of a dynamic node, one for each place above it, in slots; none if there is no such node
abbrev pub lengths_or_none : Option NodeWords → List ℕ
lengths_or_none None = []
lengths_or_none (Some kept) = kept.lengths

-- the lengths of the node with this number, from 1; none past the last node
abbrev pub lengths_of : StoreWords → ℕ → List ℕ
lengths_of store number = lengths_or_none (slice_get store.nodes (number - 1))

-- the pool of the numbers of its child containers or chunks
abbrev pub pool_or_none : Option NodeWords → PoolNumbers
pool_or_none None = record { live = []; free = []; mark = 0 }
pool_or_none (Some kept) = kept.pool

-- the pool of the node with this number, from 1; one without numbers past the last node
abbrev pub pool_of : StoreWords → ℕ → PoolNumbers
pool_of store number = pool_or_none (slice_get store.nodes (number - 1))

-- how many words aren't 0
abbrev pub filled_count : List ℕ → ℕ
filled_count words = total (λ word. one (not (word == 0))) words

-- ── The words of a node, by their numbers ──

-- the word stands in a live container: links lead from the root to a slot whose word it is
pub record IsInLive (store : StoreWords) (number place : ℕ) : Type 0 where
  pub path : List ℕ
  pub is_slot : IsSlot (take number store.shape.nodes) path
  pub has_number : word_along store number path ≡ Some place

-- it is that of one of these coordinates
pub record IsPlaceOf (store : StoreWords) (number : ℕ) (coords : List Coord) (place : ℕ) : Type 0 where
  pub at : Coord
  pub is_of : Contains coords at
  pub has_place : place_in store number at ≡ Some place

-- ── The words that it may be given ──

-- links of a pointer node: each old link stays, each new one stands in a live container and is one more than a number
-- of `taken`, and each of these numbers is of the stock and in one slot
pub record CanSettleSlots (store : StoreWords) (number : ℕ) (links taken : List ℕ) : Type 0 where
  pub as_many : length links ≡ length (link_words_of store number)
  pub stays : (slot : ℕ) → slice_index (link_words_of store number) slot ≢ 0 → slice_index links slot ≡ slice_index (link_words_of store number) slot
  pub in_live : (slot : ℕ) → slice_index (link_words_of store number) slot ≡ 0 → slice_index links slot ≢ 0 → IsInLive store number slot
  pub of_taken : (slot taking : ℕ) → slice_index (link_words_of store number) slot ≡ 0 → slice_index links slot ≡ suc taking → Contains taken taking
  pub all_taken : (taking : ℕ) → Contains taken taking → Contains links (suc taking)
  pub once : (x y taking : ℕ) → Contains taken taking → slice_index links x ≡ suc taking → slice_index links y ≡ suc taking → x ≡ y
  pub free : CanSettle (pool_of store number) taken

-- and at most as many containers as the cap are live afterwards
abbrev pub FitsCap : StoreWords → ℕ → List ℕ → Type 0
FitsCap store number taken =
    (node : NodeShape) → IsNumberedNode store.shape number node →
    live_count (pool_of store number) + length taken ≤ count_of node.cap

-- keys and links of a hash node, which is the first: a table with a link beside each key; each old key and link stays, each
-- new key stands in a live container, each new link is one more than a number of `taken`, and each of these numbers is of
-- the stock and in one place
pub record CanSettleHash (store : StoreWords) (keys links taken : List ℕ) : Type 0 where
  pub key_count : length keys ≡ length (keys_of store 1)
  pub table : IsTable keys
  pub links_beside : AreBeside keys links
  pub keys_stay : (place : ℕ) → slice_index (keys_of store 1) place ≢ 0 → slice_index keys place ≡ slice_index (keys_of store 1) place
  pub links_stay : (place : ℕ) → slice_index (link_words_of store 1) place ≢ 0 → slice_index links place ≡ slice_index (link_words_of store 1) place
  pub in_live : (place key : ℕ) → slice_index (keys_of store 1) place ≡ 0 → slice_index keys place ≡ suc key → IsInLive store 1 key
  pub of_taken : (place taking : ℕ) → slice_index (link_words_of store 1) place ≡ 0 → slice_index links place ≡ suc taking → Contains taken taking
  pub all_taken : (taking : ℕ) → Contains taken taking → Contains links (suc taking)
  pub once : (x y taking : ℕ) → Contains taken taking → slice_index links x ≡ suc taking → slice_index links y ≡ suc taking → x ≡ y
  pub free : CanSettle (pool_of store 1) taken

-- masks of a bitmasked node: as many words, each set bit stays, and each new one stands in a live container
pub record CanSettleBits (store : StoreWords) (number : ℕ) (masks : List ℕ) : Type 0 where
  pub as_many : length masks ≡ length (masks_of store number)
  pub stays : (slot : ℕ) → IsTrue (mask_bit (masks_of store number) slot) → IsTrue (mask_bit masks slot)
  pub in_live : (slot : ℕ) → mask_bit (masks_of store number) slot ≡ false → IsTrue (mask_bit masks slot) → IsInLive store number slot

-- lengths of a dynamic node: as many, none falls, none is past the node's size, and each that rises stands in a live
-- container
pub record CanSettleLengths (store : StoreWords) (number : ℕ) (lengths : List ℕ) : Type 0 where
  pub as_many : length lengths ≡ length (lengths_of store number)
  pub rise : (parent : ℕ) → slice_index (lengths_of store number) parent ≤ slice_index lengths parent
  pub short : (parent : ℕ) → slice_index lengths parent ≤ slice_index (sizes_of store.shape.nodes) (number - 1)
  pub in_live : (parent : ℕ) → slice_index (lengths_of store number) parent < slice_index lengths parent → IsInLive store number parent

-- ── Wanted coordinates ──

-- each wanted coordinate's slot has a link, and a link that is new is in such a slot
abbrev pub WantedHaveLinks : StoreWords → ℕ → List ℕ → List Coord → Type 0
WantedHaveLinks store number links wanted =
    (at : Coord) → Contains wanted at → (slot : ℕ) → place_in store number at ≡ Some slot → slice_index links slot ≢ 0

-- each slot that has a link only now is the slot of a wanted coordinate
abbrev pub NewLinksAreWanted : StoreWords → ℕ → List ℕ → List Coord → Type 0
NewLinksAreWanted store number links wanted =
    (slot : ℕ) → slice_index (link_words_of store number) slot ≡ 0 → slice_index links slot ≢ 0 →
    IsPlaceOf store number wanted slot

-- each wanted coordinate's key stands in the table, and a key that is new is one of these
abbrev pub WantedHaveKeys : StoreWords → List ℕ → List Coord → Type 0
WantedHaveKeys store keys wanted =
    (at : Coord) → Contains wanted at → (key : ℕ) → place_in store 1 at ≡ Some key → Contains keys (suc key)

-- each key at a place of the table that was free is the number of a wanted coordinate's slot
abbrev pub NewKeysAreWanted : StoreWords → List ℕ → List Coord → Type 0
NewKeysAreWanted store keys wanted =
    (place key : ℕ) → slice_index (keys_of store 1) place ≡ 0 → slice_index keys place ≡ suc key →
    IsPlaceOf store 1 wanted key

-- each wanted coordinate's bit is set, and a bit that is new is one of these
abbrev pub WantedHaveBits : StoreWords → ℕ → List ℕ → List Coord → Type 0
WantedHaveBits store number masks wanted =
    (at : Coord) → Contains wanted at → (slot : ℕ) → place_in store number at ≡ Some slot → IsTrue (mask_bit masks slot)

-- each bit that is set only now is the bit of a wanted coordinate
abbrev pub NewBitsAreWanted : StoreWords → ℕ → List ℕ → List Coord → Type 0
NewBitsAreWanted store number masks wanted =
    (slot : ℕ) → mask_bit (masks_of store number) slot ≡ false → IsTrue (mask_bit masks slot) →
    IsPlaceOf store number wanted slot

-- each wanted coordinate's offset at a dynamic node is below the length of its parent, and a length that is new is one more
-- than such an offset
abbrev pub offset_in : StoreWords → ℕ → Coord → ℕ
offset_in store number at = slice_index (offsets store.shape.nodes at) (number - 1)

-- each wanted coordinate to whose parent links lead has its offset at the node below the parent's length
abbrev pub WantedAreBelow : StoreWords → ℕ → List ℕ → List Coord → Type 0
WantedAreBelow store number lengths wanted =
    (at : Coord) → Contains wanted at → (parent : ℕ) → place_in store number at ≡ Some parent →
    offset_in store number at < slice_index lengths parent

-- under this parent the length ends right after one of these coordinates: it is one more than its offset
pub record IsLengthOf (store : StoreWords) (number : ℕ) (coords : List Coord) (parent long : ℕ) : Type 0 where
  pub at : Coord
  pub is_of : Contains coords at
  pub has_place : place_in store number at ≡ Some parent
  pub reaches : long ≡ suc (offset_in store number at)

-- each length that has risen is one more than the offset of a wanted coordinate under its parent
abbrev pub NewLengthsAreWanted : StoreWords → ℕ → List ℕ → List Coord → Type 0
NewLengthsAreWanted store number lengths wanted =
    (parent : ℕ) → slice_index (lengths_of store number) parent < slice_index lengths parent →
    IsLengthOf store number wanted parent (slice_index lengths parent)

-- whatever was active before: where a store was open through the nodes before this one for it and the wanted
-- coordinates, it has become one that is open through this one too
abbrev pub OpensNode : StoreWords → StoreWords → ℕ → List Coord → Type 0
OpensNode store now number wanted =
    (old : List Coord) → IsOpenThrough store old (old ++ wanted) (number - 1) →
    IsOpenThrough now old (old ++ wanted) number
