-- Links that are cut, and the pool of their numbers.
use Rattle.std.specs.Prelude.{◌≡◌, ◌≢◌, ◌↔◌, ℕ, suc, ◌<◌, ◌≤◌, List, length, take, IsTrue, slice_index}
use Rattle.std.specs.List.{Contains}
use Rattle.sg_links.specs.Lists.{Lists, list_of}
use Rattle.sg_dynamic.specs.Chunks.{chunks_of}
use Rattle.sg_pool.specs.Numbers.{PoolNumbers, place_count, is_live_number, live_count}

-- the live numbers are those that a link has
abbrev pub HasLinks : PoolNumbers → List ℕ → Type 0
HasLinks pool links = (number : ℕ) → IsTrue (is_live_number pool number) ↔ Contains links (suc number)

-- no two links have the same number
abbrev pub IsLinkedOnce : List ℕ → Type 0
IsLinkedOnce links = (x y : ℕ) → slice_index links x ≢ 0 → slice_index links x ≡ slice_index links y → x ≡ y

-- the number of a link is live no longer if none stands in its place now, and all else is as before
pub record IsCut (link now : ℕ) (old new : PoolNumbers) : Type 0 where
  pub places : place_count new ≡ place_count old
  pub still : (number : ℕ) → IsTrue (is_live_number new number) → IsTrue (is_live_number old number) × (link ≡ suc number → now ≢ 0)
  pub stays : (number : ℕ) → IsTrue (is_live_number old number) → (link ≡ suc number → now ≢ 0) → IsTrue (is_live_number new number)
  pub fewer : live_count new ≤ live_count old

-- of the first so many links those are given back whose place is empty now
pub record IsCutThrough (links now : List ℕ) (through : ℕ) (old new : PoolNumbers) : Type 0 where
  pub places : place_count new ≡ place_count old
  pub still : (number : ℕ) → IsTrue (is_live_number new number) →
      IsTrue (is_live_number old number) × ((slot : ℕ) → slot < through → slice_index links slot ≡ suc number → slice_index now slot ≢ 0)
  pub stays : (number : ℕ) → IsTrue (is_live_number old number) →
      ((slot : ℕ) → slot < through → slice_index links slot ≡ suc number → slice_index now slot ≢ 0) → IsTrue (is_live_number new number)
  pub fewer : live_count new ≤ live_count old

-- the first so many chains are the fronts that their lengths need of what they were, and the others are as before
pub record CutSoFar (old new : Lists) (lengths : List ℕ) (chunk done : ℕ) : Type 0 where
  pub numbers : new.numbers ≡ old.numbers
  pub many : length new.lists ≡ length old.lists
  pub cut : (i : ℕ) → i < done → list_of new i ≡ take (chunks_of chunk (slice_index lengths i)) (list_of old i)
  pub later : (i : ℕ) → done ≤ i → list_of new i ≡ list_of old i
