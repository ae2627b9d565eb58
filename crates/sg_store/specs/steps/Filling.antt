-- Slots of one node that are given links from a stock, one after the other.
use Rattle.std.specs.Prelude.{◌≡◌, ◌≢◌, ℕ, suc, ◌+◌, ◌<◌, ◌≤◌, List, length, take, Contains, AllPairs, slice_index, ◌⊎◌}
use Rattle.sg_pool.specs.Numbers.{live_count, CanSettle}
use Rattle.sg_store.specs.declared.node.NodeWords.{NodeWords}
use Rattle.sg_store.specs.declared.pointer.Plan.{Plan}

-- links after those slots have been filled that were empty, with the numbers of `taken`, each in one slot
pub record IsFill (before after taken slots : List ℕ) : Type 0 where
  pub as_many : length after ≡ length before
  pub stays : (slot : ℕ) → slice_index before slot ≢ 0 → slice_index after slot ≡ slice_index before slot
  pub of_taken : (slot number : ℕ) → slice_index before slot ≡ 0 → slice_index after slot ≡ suc number → Contains taken number
  pub all_taken : (number : ℕ) → Contains taken number → Contains after (suc number)
  pub once : (x y number : ℕ) → Contains taken number → slice_index after x ≡ suc number → slice_index after y ≡ suc number → x ≡ y
  pub filled : (slot : ℕ) → Contains slots slot → slice_index after slot ≢ 0
  pub of_slots : (slot : ℕ) → slice_index before slot ≡ 0 → slice_index after slot ≢ 0 → Contains slots slot

-- the stock's numbers are each there once, and no link has one of them
pub record IsUnlinkedStock (links stock : List ℕ) : Type 0 where
  pub once : AllPairs (λ x y. x ≢ y) stock
  pub unlinked : (number : ℕ) → Contains stock number → Contains links (suc number) → ⊥

-- a front of a stock has a number for each of the slots, or one more than the room
abbrev pub HasEnough : List ℕ → ℕ → List ℕ → Type 0
HasEnough stock room slots = (length slots ≤ length stock) ⊎ (room < length stock)

-- the slots have been filled with the first `taken` numbers of the stock: all of them, or as far as one past the room
pub record FilledTo (before after stock : List ℕ) (room taken : ℕ) (slots : List ℕ) : Type 0 where
  pub through : ℕ
  pub within : through ≤ length slots
  pub fill : IsFill before after (take taken stock) (take through slots)
  pub enough : taken ≤ length stock
  pub most : taken ≤ room + 1
  pub all : taken ≤ room → through ≡ length slots

-- what filling a node's slots comes to, before it is settled
pub record IsPlan (kept : NodeWords) (cap : ℕ) (slots : List ℕ) (plan : Plan) : Type 0 where
  pub room : plan.room + live_count kept.pool ≡ cap
  pub free : CanSettle kept.pool plan.stock
  pub filled : FilledTo kept.links plan.links plan.stock plan.room plan.taken slots
