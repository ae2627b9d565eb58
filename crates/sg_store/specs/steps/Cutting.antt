-- What of a node's words stays when it is trimmed, kind by kind.
use Rattle.std.specs.Prelude.{◌≡◌, ◌≢◌, ◌↔◌, ℕ, suc, ◌≤◌, take, Bool, true, ◌&&◌, cond, List, length, Some, None, IsTrue, slice_index}
use Rattle.sg_layout.specs.declared.shape.NodeShape.{NodeShape}
use Rattle.sg_layout.specs.declared.shape.Kind.TheVariants.{Bitmasked, Pointer, Hash, Dynamic}
use Rattle.sg_layout.specs.Axes.{count_of, size_of}
use Rattle.sg_hash.specs.Tables.{IsTable, AreBeside, beside}
use Rattle.sg_links.specs.Lists.{list_of}
use Rattle.sg_dynamic.specs.Chunks.{chunks_of, IsExact}
use Rattle.sg_pool.specs.Numbers.{place_count, is_live_number}
use Rattle.sg_store.specs.declared.node.NodeWords.{NodeWords}
use Rattle.sg_store.specs.Slots.{mask_bit, below_length, links_by_slot}
use Rattle.sg_store.specs.WellFormed.{IsPointerNode, IsDynamicNode}
use Rattle.sg_store.specs.steps.Trimming.{TrimsNode}

-- the number stands in a slot that is kept
pub record IsInKept (keep : ℕ → Bool) (links : List ℕ) (number : ℕ) : Type 0 where
  pub slot : ℕ
  pub is_kept : keep slot ≡ true
  pub holds : slice_index links slot ≡ suc number

-- a pointer node's links in slots that are kept stay, the others are 0, and the numbers in kept slots alone are live
pub record TrimsLinks (keep : ℕ → Bool) (kept after : NodeWords) : Type 0 where
  pub links : (slot : ℕ) → slice_index after.links slot ≡ cond (keep slot) (slice_index kept.links slot) 0
  pub as_many : length after.links ≡ length kept.links
  pub places : place_count after.pool ≡ place_count kept.pool
  pub live : (number : ℕ) → IsTrue (is_live_number after.pool number) ↔ IsInKept keep kept.links number

-- so the node trims, and is a pointer node again where slots that are kept are in live containers
pub record LinksTrim (keep : ℕ → Bool) (node : NodeShape) (kept after : NodeWords) : Type 0 where
  pub trims : node.kind ≡ Pointer → TrimsLinks keep kept after → TrimsNode keep node kept after
  pub is_node : TrimsLinks keep kept after → (slots : ℕ) (live now : ℕ → Bool) → IsPointerNode node kept slots live →
      ((slot : ℕ) → keep slot ≡ true → slice_index kept.links slot ≢ 0 → IsTrue (now slot)) → IsPointerNode node after slots now

-- ── A dynamic node ──

-- the slots below the lengths
abbrev pub below_lengths : NodeShape → NodeWords → ℕ → Bool
below_lengths node words slot = below_length words.lengths (size_of node.sizes) slot

-- lengths that fall or stay, and each chain the front of what it was that its length needs
pub record TrimsLengths (node : NodeShape) (kept after : NodeWords) : Type 0 where
  pub some_chunk : 1 ≤ count_of node.chunk
  pub fall : (parent : ℕ) → slice_index after.lengths parent ≤ slice_index kept.lengths parent
  pub chains : (parent : ℕ) → list_of after.chains parent ≡
      take (chunks_of (count_of node.chunk) (slice_index after.lengths parent)) (list_of kept.chains parent)

-- so the node trims, by its new lengths
abbrev pub LengthsTrim : NodeShape → NodeWords → NodeWords → Type 0
LengthsTrim node kept after =
    node.kind ≡ Dynamic → TrimsLengths node kept after → TrimsNode (below_lengths node after) node kept after

-- ── A hash node, and a bitmasked one ──

-- a table in which the keys that are kept, and no others, have the numbers that they had
abbrev pub TrimsKeys : (ℕ → Bool) → NodeWords → NodeWords → Type 0
TrimsKeys keep kept after =
    (key : ℕ) → beside after.keys after.links key ≡ cond (keep key) (beside kept.keys kept.links key) None

-- the number stands beside a key that is kept
pub record IsBesideKept (keep : ℕ → Bool) (kept : NodeWords) (number : ℕ) : Type 0 where
  pub key : ℕ
  pub is_kept : keep key ≡ true
  pub holds : beside kept.keys kept.links key ≡ Some number

-- so the node trims, and by its slots its links are those of a pointer node that trims
pub record KeysTrim (keep : ℕ → Bool) (node : NodeShape) (kept after : NodeWords) : Type 0 where
  pub trims : node.kind ≡ Hash → TrimsKeys keep kept after → TrimsNode keep node kept after
  pub links : TrimsKeys keep kept after → (slots slot : ℕ) → slice_index (links_by_slot after.keys after.links slots) slot
      ≡ cond (keep slot) (slice_index (links_by_slot kept.keys kept.links slots) slot) 0

-- masks of which the bits that are kept stay
abbrev pub BitsTrim : (ℕ → Bool) → NodeShape → NodeWords → NodeWords → Type 0
BitsTrim keep node kept after =
    node.kind ≡ Bitmasked → ((slot : ℕ) → mask_bit after.masks slot ≡ (mask_bit kept.masks slot && keep slot)) → TrimsNode keep node kept after

-- as many lengths and chains, over the same numbers, and the pool's live numbers are those in chains
pub record TrimsChains (node : NodeShape) (kept after : NodeWords) : Type 0 where
  pub trims : TrimsLengths node kept after
  pub as_many : length after.lengths ≡ length kept.lengths
  pub chain_count : length after.chains.lists ≡ length kept.chains.lists
  pub places : place_count after.pool ≡ place_count kept.pool
  pub exact : IsExact after.chains after.pool

-- so it is a dynamic node again, where its new lengths are in live containers
abbrev pub ChainsTrim : NodeShape → NodeWords → NodeWords → Type 0
ChainsTrim node kept after =
    TrimsChains node kept after → (slots : ℕ) (live now : ℕ → Bool) → IsDynamicNode node kept slots live →
    ((slot : ℕ) → below_lengths node after slot ≡ true → IsTrue (now slot)) → IsDynamicNode node after slots now

-- a table with those keys alone, and a pool of which the numbers beside them alone are live
pub record TrimsTable (keep : ℕ → Bool) (kept after : NodeWords) : Type 0 where
  pub keys : TrimsKeys keep kept after
  pub as_many : length after.keys ≡ length kept.keys
  pub table : IsTable after.keys
  pub links_beside : AreBeside after.keys after.links
  pub places : place_count after.pool ≡ place_count kept.pool
  pub live : (number : ℕ) → IsTrue (is_live_number after.pool number) ↔ IsBesideKept keep kept number

-- lengths so that exactly those slots are below them that are kept, and chains that fit them
pub record TrimsParents (keep : ℕ → Bool) (node : NodeShape) (kept after : NodeWords) : Type 0 where
  pub chains : TrimsChains node kept after
  pub below : (slot : ℕ) → below_lengths node after slot ≡ (below_lengths node kept slot && keep slot)
  pub only_below : (slot : ℕ) → keep slot ≡ true → below_lengths node kept slot ≡ true
