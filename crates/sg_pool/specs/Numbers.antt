-- The numbers of a pool: which of them are live, the free list and the mark, the stock, and what becomes of them when some are taken
-- or given back.
use Rattle.std.specs.Prelude.{◌≡◌, ◌≢◌, ℕ, ◌+◌, ◌-◌, ◌<◌, ◌≤◌, nat_le, Bool, false, cond, not, ◌&&◌, ◌||◌, ◌==◌, List, [], ◌∷◌, ◌++◌, length, count_by, slice_index_or, ◌↔◌, Option, Some, None}
use Rattle.std.specs.List.{All, AllPairs, Contains, list_any, range_with_len}
use Rattle.sg_links.specs.Lists.{times}

-- for each number of the pool, from 0 on, whether it is live; the free list, in order; and the high water mark
pub record PoolNumbers : Type 0 where
  pub live : List Bool
  pub free : List ℕ
  pub mark : ℕ

-- how many numbers the pool has: they are those from 0 to below it
abbrev pub place_count : PoolNumbers → ℕ
place_count pool = length pool.live

-- the number is one of the pool, and live
abbrev pub is_live_number : PoolNumbers → ℕ → Bool
is_live_number pool number = slice_index_or pool.live number false

-- how many numbers are live
abbrev pub live_count : PoolNumbers → ℕ
live_count pool = count_by (λ live. live) pool.live

-- each number is exactly one of: live, once on the free list, at or past the mark
pub record IsParted (pool : PoolNumbers) : Type 0 where
  pub within : pool.mark ≤ place_count pool
  pub one_of : (number : ℕ) →
      cond (is_live_number pool number) 1 0 + times number pool.free + cond (nat_le pool.mark number) 1 0 ≡ 1

-- the number is one of the pool, and not live
pub record IsFree (pool : PoolNumbers) (number : ℕ) : Type 0 where
  pub below : number < place_count pool
  pub not_live : is_live_number pool number ≡ false

-- the list has exactly the numbers of the pool that are not live, each once, in any order
pub record IsStock (pool : PoolNumbers) (stock : List ℕ) : Type 0 where
  pub members : (number : ℕ) → Contains stock number ↔ IsFree pool number
  pub once : AllPairs (λ x y. x ≢ y) stock

-- the stock in the order in which numbers are taken: the free list, and then from the mark on
abbrev pub stock_in_order : PoolNumbers → List ℕ
stock_in_order pool = pool.free ++ range_with_len pool.mark (place_count pool - pool.mark)

-- the list has numbers of the stock alone, each once, in any order
pub record CanSettle (pool : PoolNumbers) (taken : List ℕ) : Type 0 where
  pub free : All (IsFree pool) taken
  pub once : AllPairs (λ x y. x ≢ y) taken

-- the numbers taken became live, no other number became live or ceased to be, and of as many numbers as before as many
-- more are live as were taken
pub record IsSettled (old new : PoolNumbers) (taken : List ℕ) : Type 0 where
  pub places : place_count new ≡ place_count old
  pub live : (number : ℕ) → is_live_number new number ≡ (is_live_number old number || list_any (λ n. n == number) taken)
  pub count : live_count new ≡ live_count old + length taken

-- the least mark that isn't below the old one and is past all numbers taken
pub record IsRaised (old : ℕ) (taken : List ℕ) (new : ℕ) : Type 0 where
  pub rises : old ≤ new
  pub past : All (λ number. number < new) taken
  pub least : (mark : ℕ) → old ≤ mark → All (λ number. number < mark) taken → new ≤ mark

-- a number that wasn't live became live, and no other; or all were live, and nothing changed
abbrev pub IsDrawn : PoolNumbers → PoolNumbers → Option ℕ → Type 0
IsDrawn old new (Some number) = IsFree old number × IsSettled old new (number ∷ [])
IsDrawn old new None = (live_count old ≡ place_count old) × (new ≡ old)

-- a number that was live is the first of the free list, and all others are as before
pub record IsGivenBack (old new : PoolNumbers) (number : ℕ) : Type 0 where
  pub places : place_count new ≡ place_count old
  pub live : (other : ℕ) → is_live_number new other ≡ (is_live_number old other && not (other == number))
  pub count : live_count new + 1 ≡ live_count old
  pub free : new.free ≡ number ∷ old.free
  pub mark : new.mark ≡ old.mark
