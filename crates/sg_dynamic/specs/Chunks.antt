-- Chains of chunks: how many chunks lengths need, and chains that fit them.
use Rattle.std.specs.Prelude.{◌≡◌, ℕ, ◌+◌, ◌-◌, ◌<◌, ◌≤◌, ◌/◌, cond, nat_lt, if◌then◌else◌, Result, Ok, Err, List, ◌++◌, length, replicate, take, sum_by, slice_index}
use Rattle.sg_links.specs.Lists.{Lists, list_of, times_in_lists}
use Rattle.sg_pool.specs.Numbers.{PoolNumbers, place_count, is_live_number}
use Rattle.sg_dynamic.specs.declared.chunks.ChunkFull.{ChunkFull}

-- a length divided by the chunk, rounded up
abbrev pub chunks_of : ℕ → ℕ → ℕ
chunks_of chunk len = (len + (chunk - 1)) / chunk

-- how many chunks all lengths need together
abbrev pub chunk_need : ℕ → List ℕ → ℕ
chunk_need chunk lengths = sum_by (λ len. chunks_of chunk len) lengths

-- refused exactly when they need more chunks than there are places
abbrev pub fit : ℕ → List ℕ → ℕ → Result Unit ChunkFull
fit chunk lengths places =
    if nat_lt places (chunk_need chunk lengths) then Err (record { need = chunk_need chunk lengths; cap = places }) else Ok tt

-- so many lengths, of which the first are these and all others are 0
abbrev pub lengths_from : List ℕ → ℕ → List ℕ
lengths_from front many = front ++ replicate (many - length front) 0

-- the chains are over the numbers of the pool, and what stands in them, once, is exactly what is live
pub record IsExact (chains : Lists) (pool : PoolNumbers) : Type 0 where
  pub places : chains.numbers ≡ place_count pool
  pub live : (x : ℕ) → times_in_lists x chains.lists ≡ cond (is_live_number pool x) 1 0

-- there is a chain for each length, and none is longer than its length needs
pub record HaveRoom (chains : Lists) (lengths : List ℕ) (chunk : ℕ) : Type 0 where
  pub many : length chains.lists ≡ length lengths
  pub within : (i : ℕ) → i < length lengths → length (list_of chains i) ≤ chunks_of chunk (slice_index lengths i)

-- each chain begins with the numbers that it had, in their order, and is as long as its length needs
pub record AreFitted (old new : Lists) (lengths : List ℕ) (chunk : ℕ) : Type 0 where
  pub many : length new.lists ≡ length old.lists
  pub numbers : new.numbers ≡ old.numbers
  pub front : (i : ℕ) → i < length lengths → take (length (list_of old i)) (list_of new i) ≡ list_of old i
  pub long : (i : ℕ) → i < length lengths → length (list_of new i) ≡ chunks_of chunk (slice_index lengths i)
