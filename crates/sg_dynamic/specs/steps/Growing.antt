-- One chain grows, and the chains so far.
use Rattle.std.specs.Prelude.{◌≡◌, ℕ, ◌<◌, ◌≤◌, List, length, take, slice_index}
use Rattle.sg_links.specs.Lists.{Lists, list_of, with_list}
use Rattle.sg_pool.specs.Numbers.{PoolNumbers}
use Rattle.sg_dynamic.specs.Chunks.{chunks_of, IsExact}

-- the list of one head has become so long, at its end, and the others are as before
pub record Grew (old new : Lists) (head size : ℕ) : Type 0 where
  pub others : new ≡ with_list old head (list_of new head)
  pub front : take (length (list_of old head)) (list_of new head) ≡ list_of old head
  pub long : length (list_of new head) ≡ size

-- the first so many chains fit, and the others are as before
pub record FitSoFar (old new : Lists) (pool : PoolNumbers) (lengths : List ℕ) (chunk done : ℕ) : Type 0 where
  pub many : length new.lists ≡ length old.lists
  pub numbers : new.numbers ≡ old.numbers
  pub front : (i : ℕ) → i < done → take (length (list_of old i)) (list_of new i) ≡ list_of old i
  pub long : (i : ℕ) → i < done → length (list_of new i) ≡ chunks_of chunk (slice_index lengths i)
  pub later : (i : ℕ) → done ≤ i → list_of new i ≡ list_of old i
  pub exact : IsExact new pool
