-- Lengths of a dynamic node that are raised, and chains that are made to fit them.
use Rattle.std.specs.Prelude.{◌≡◌, ℕ, ◌/◌, ◌%◌, ◌≤◌, ◌^◌, Bool, ◌&&◌, ◌||◌, ◌==◌, IsTrue, nat_le, List, length, Some, Result, slice_get, slice_index}
use Rattle.std.specs.List.{list_any, All}
use Rattle.sg_layout.specs.declared.shape.Kind.TheVariants.{Dynamic}
use Rattle.sg_layout.specs.declared.shape.NodeShape.{NodeShape}
use Rattle.sg_layout.specs.Axes.{count_of, size_of}
use Rattle.sg_pool.specs.Numbers.{place_count}
use Rattle.sg_dynamic.specs.declared.chunks.ChunkFull.{ChunkFull}
use Rattle.sg_dynamic.specs.Chunks.{fit, IsExact, HaveRoom}
use Rattle.sg_store.specs.declared.node.NodeWords.{NodeWords}
pub use Rattle.sg_store.specs.Changes.{IsRefitted}
use Rattle.sg_store.specs.Slots.{below_length}

-- with parents of so many slots, a slot that is kept keeps this one too: it is that one, or stands before it under the same
-- parent
abbrev pub keeps_too : ℕ → ℕ → ℕ → Bool
keeps_too size kept slot = (slot / size == kept / size) && nat_le (slot % size) (kept % size)

-- the lengths after one slot has become kept: none falls, and none gets past the number of slots under a parent
pub record IsRaised (before after : List ℕ) (size slot : ℕ) : Type 0 where
  pub as_many : length after ≡ length before
  pub below : (other : ℕ) → below_length after size other ≡ (below_length before size other || keeps_too size slot other)
  pub rise : (parent : ℕ) → slice_index before parent ≤ slice_index after parent
  pub short : (parent : ℕ) → slice_index before parent ≤ size → slice_index after parent ≤ size

-- and after many have
pub record RiseByMany (before after : List ℕ) (size : ℕ) (slots : List ℕ) : Type 0 where
  pub as_many : length after ≡ length before
  pub below : (other : ℕ) → below_length after size other ≡ (below_length before size other || list_any (λ slot. keeps_too size slot other) slots)
  pub rise : (parent : ℕ) → slice_index before parent ≤ slice_index after parent
  pub short : (parent : ℕ) → slice_index before parent ≤ size → slice_index after parent ≤ size

-- lengths that the chains of a node's words can be made to fit
pub record CanFitLengths (lengths : List ℕ) (chunk : ℕ) (kept : NodeWords) : Type 0 where
  pub some : 1 ≤ chunk
  pub short : All (λ len. len ≤ 2 ^ 15) lengths
  pub room : HaveRoom kept.chains lengths chunk
  pub exact : IsExact kept.chains kept.pool
  pub as_many : length lengths ≡ length kept.lengths

-- lengths that a dynamic node may get: none falls, none is past the node's extent, and each slot below one stands in a live
-- container
pub record CanLengthen (lengths : List ℕ) (chunk : ℕ) (node : NodeShape) (kept : NodeWords) (slots : ℕ) (live : ℕ → Bool) : Type 0 where
  pub is_dynamic : node.kind ≡ Dynamic
  pub chunk_is : count_of node.chunk ≡ chunk
  pub few : size_of node.sizes ≤ 2 ^ 15
  pub as_many : length lengths ≡ length kept.lengths
  pub rise : (parent : ℕ) → slice_index kept.lengths parent ≤ slice_index lengths parent
  pub short : (parent : ℕ) → slice_index lengths parent ≤ size_of node.sizes
  pub in_live : (slot : ℕ) → IsTrue (below_length lengths (size_of node.sizes) slot) → IsTrue (live slot)

-- the answer is that of fitting the chains of the node with this index
abbrev pub AnswersFit : List ℕ → ℕ → List NodeWords → ℕ → Result Unit ChunkFull → Type 0
AnswersFit lengths chunk nodes index answer =
    (kept : NodeWords) → slice_get nodes index ≡ Some kept → answer ≡ fit chunk lengths (place_count kept.pool)

-- a dynamic node with this cap and this chunk
pub record IsDynamicOf (cap chunk : ℕ) (node : NodeShape) (kept : NodeWords) (slots : ℕ) (live : ℕ → Bool) : Type 0 where
  pub is_dynamic : node.kind ≡ Dynamic
  pub cap_is : count_of node.cap ≡ cap
  pub chunk_is : count_of node.chunk ≡ chunk
