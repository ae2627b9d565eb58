-- Slots that are written beside the numbers that they hold.
use Rattle.std.specs.Prelude.{◌≡◌, ◌≢◌, ◌↔◌, ℕ, suc, ◌+◌, ◌*◌, ◌<◌, Bool, List, length, Contains, AllPairs, Some, slice_get, slice_index}
use Rattle.sg_layout.specs.declared.shape.NodeShape.{NodeShape}
use Rattle.sg_links.specs.Lists.{Lists, list_of}
use Rattle.sg_pool.specs.Numbers.{place_count}
use Rattle.sg_store.specs.declared.node.NodeWords.{NodeWords}
use Rattle.sg_store.specs.declared.links.LinkAt.{LinkAt}
use Rattle.sg_store.specs.StoreWords.{StoreWords}
use Rattle.sg_store.specs.WellFormed.{IsNode}
use Rattle.sg_store.specs.Links.{IsLink, held_at}

-- no two links have the same number
abbrev pub IsLinkedOnce : List ℕ → Type 0
IsLinkedOnce links = (x y : ℕ) → slice_index links x ≢ 0 → slice_index links x ≡ slice_index links y → x ≡ y

-- the numbers of links are below a count
abbrev pub AreBelow : List ℕ → ℕ → Type 0
AreBelow links count = (place number : ℕ) → slice_index links place ≡ suc number → number < count

-- beside the number of a link, if there is one, stands its slot, and beside each other number what stood there
pub record IsNoted (link slot : ℕ) (old new : List ℕ) : Type 0 where
  pub as_many : length new ≡ length old
  pub here : (number : ℕ) → link ≡ suc number → slice_index new number ≡ slot
  pub elsewhere : (number : ℕ) → link ≢ suc number → slice_index new number ≡ slice_index old number

-- beside the numbers of the first so many links stand their slots, which the links' places tell
pub record HeldSoFar (slot_of : ℕ → ℕ) (links old new : List ℕ) (through : ℕ) : Type 0 where
  pub as_many : length new ≡ length old
  pub held : (place number : ℕ) → place < through → slice_index links place ≡ suc number → slice_index new number ≡ slot_of place

-- beside the numbers of the first so many places of a chain stand their slots, which follow one another from the first one on, and
-- beside each number that isn't there what stood there
pub record ChainNoted (chain : List ℕ) (first through : ℕ) (old new : List ℕ) : Type 0 where
  pub as_many : length new ≡ length old
  pub here : (place number : ℕ) → place < through → slice_get chain place ≡ Some number → slice_index new number ≡ first + place
  pub elsewhere : (number : ℕ) → ((place : ℕ) → slice_get chain place ≢ Some number) → slice_index new number ≡ slice_index old number

-- so it is with the first so many chains, whose slots follow one another, as many for each
pub record ChainsNoted (chains : Lists) (full through : ℕ) (old new : List ℕ) : Type 0 where
  pub as_many : length new ≡ length old
  pub here : (head place number : ℕ) → head < through → slice_get (list_of chains head) place ≡ Some number → slice_index new number ≡ head * full + place

-- a node's words are as they are somewhere in a well-formed store
abbrev pub IsSomeNode : NodeShape → NodeWords → Type 0
IsSomeNode node kept = (slots : ℕ) × (live : ℕ → Bool) × IsNode node.kind node kept slots live

-- beside each number that a slot holds stands that slot
pub record HasSlots (node : NodeShape) (kept : NodeWords) (slots : List ℕ) : Type 0 where
  pub as_many : length slots ≡ place_count kept.pool
  pub held : (slot number : ℕ) → held_at node.kind node kept slot ≡ Some number → slice_index slots number ≡ slot

-- the links of the numbers below one, rising
pub record LinksBelow (store : StoreWords) (index number : ℕ) (links : List LinkAt) : Type 0 where
  pub members : (link : LinkAt) → Contains links link ↔ (IsLink store index link × (link.number < number))
  pub rising : AllPairs (λ x y. x.number < y.number) links
