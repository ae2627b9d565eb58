-- New words for one node: under which conditions they may be settled, and what of a node stays.
use Rattle.std.specs.Prelude.{◌≡◌, ◌≢◌, ℕ, suc, ◌+◌, ◌≤◌, Bool, false, IsTrue, List, length, Contains, Some, None, slice_index, slice_get, slice_set}
use Rattle.sg_layout.specs.declared.shape.Kind.TheVariants.{Pointer, Bitmasked}
use Rattle.sg_layout.specs.declared.shape.NodeShape.{NodeShape}
use Rattle.sg_layout.specs.Axes.{count_of}
use Rattle.sg_pool.specs.Numbers.{live_count}
use Rattle.sg_pool.specs.Numbers.{CanSettle, IsSettled}
use Rattle.sg_store.specs.declared.node.NodeWords.{NodeWords}
use Rattle.sg_store.specs.Slots.{mask_bit, is_set, place_below}
use Rattle.sg_store.specs.WellFormed.{IsNode, live_below}
pub use Rattle.sg_store.specs.Changes.{IsRelinked, IsRemasked, ChangesNode}

-- links that a pointer node may get: each old link stays, each new one stands in a live container and is one more than
-- a number of `taken`, and each of these numbers is of the stock and in one slot
pub record CanLink (links taken : List ℕ) (node : NodeShape) (kept : NodeWords) (slots : ℕ) (live : ℕ → Bool) : Type 0 where
  pub is_pointer : node.kind ≡ Pointer
  pub as_many : length links ≡ slots
  pub stays : (slot : ℕ) → slice_index kept.links slot ≢ 0 → slice_index links slot ≡ slice_index kept.links slot
  pub of_taken : (slot number : ℕ) → slice_index kept.links slot ≡ 0 → slice_index links slot ≡ suc number → Contains taken number
  pub in_live : (slot : ℕ) → slice_index kept.links slot ≡ 0 → slice_index links slot ≢ 0 → IsTrue (live slot)
  pub all_taken : (number : ℕ) → Contains taken number → Contains links (suc number)
  pub once : (x y number : ℕ) → Contains taken number → slice_index links x ≡ suc number → slice_index links y ≡ suc number → x ≡ y
  pub free : CanSettle kept.pool taken

-- and at most as many containers as the cap are live afterwards
pub record CanSettleLinks (links taken : List ℕ) (node : NodeShape) (kept : NodeWords) (slots : ℕ) (live : ℕ → Bool) : Type 0 where
  pub can : CanLink links taken node kept slots live
  pub within_cap : live_count kept.pool + length taken ≤ count_of node.cap

-- a node has other links, whose numbers of `taken` have become live
pub record HasLinks (links taken : List ℕ) (kept after : NodeWords) : Type 0 where
  pub new_links : after.links ≡ links
  pub pool : IsSettled kept.pool after.pool taken

-- links that a node's words have room for, and numbers that its pool can make live
pub record CanRelink (links taken : List ℕ) (kept : NodeWords) : Type 0 where
  pub as_many : length links ≡ length kept.links
  pub free : CanSettle kept.pool taken

-- masks that a bitmasked node may get: as many words, each set bit stays, and each new one stands in a live container
pub record CanSettleMasks (masks : List ℕ) (node : NodeShape) (kept : NodeWords) (slots : ℕ) (live : ℕ → Bool) : Type 0 where
  pub is_masked : node.kind ≡ Bitmasked
  pub as_many : length masks ≡ length kept.masks
  pub stays : (slot : ℕ) → IsTrue (mask_bit kept.masks slot) → IsTrue (mask_bit masks slot)
  pub in_live : (slot : ℕ) → IsTrue (mask_bit masks slot) → IsTrue (live slot)

-- the words of the node with this index have become others, and those of all other nodes stay
pub record ChangesAt (Change : NodeWords → NodeWords → Type 0) (old now : List NodeWords) (index : ℕ) : Type 0 where
  pub kept : NodeWords
  pub was : slice_get old index ≡ Some kept
  pub after : NodeWords
  pub change : Change kept after
  pub now_is : now ≡ slice_set old index after

-- a node whose words have become others and which is well-formed again: what was active and linked stays, and a slot
-- that leads on now and didn't before leads to a place that wasn't live
pub record NodeGrows (after : NodeWords) (node : NodeShape) (kept : NodeWords) (slots : ℕ) (live : ℕ → Bool) : Type 0 where
  pub is_node : IsNode node.kind node after slots live
  pub set_stays : (slot : ℕ) → IsTrue (is_set node.kind node kept slot) → IsTrue (is_set node.kind node after slot)
  pub leads_stays : (slot place : ℕ) → place_below node.kind node kept slot ≡ Some place → place_below node.kind node after slot ≡ Some place
  pub fresh : (slot place : ℕ) → place_below node.kind node kept slot ≡ None → place_below node.kind node after slot ≡ Some place → live_below node.kind kept live place ≡ false
  pub live_stays : (place : ℕ) → IsTrue (live_below node.kind kept live place) → IsTrue (live_below node.kind after live place)
