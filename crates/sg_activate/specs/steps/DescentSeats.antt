-- What a seat of a descent keeps beside its view.
use Rattle.std.specs.Prelude.{◌≡◌, ℕ, ◌+◌, ◌-◌, ◌<◌, Bool, false, nat_lt, List, slice_index, slice_index_or}
use Rattle.sg_words.specs.declared.race.Worker.{Worker}
use Rattle.sg_words.specs.Counts.{pairs, firsts, times_in}

-- at each pointer node the seat has a spare, as one more than its ticket, or 0
pub record AreSpares (spares : List ℕ) (v : Worker) : Type 0 where
  pub stand : (l : ℕ) → 0 < slice_index spares l → 0 < pairs l (slice_index spares l - 1) v.spare
  pub listed : (l t : ℕ) → 0 < pairs l t v.spare → slice_index spares l ≡ t + 1

-- and it tells whether it holds a ticket past the node's stock
abbrev pub AreDry : List Bool → Worker → Type 0
AreDry dry v = (l : ℕ) → slice_index_or dry l false ≡ nat_lt 0 (firsts l v.past)

-- each bit that it remembers, as one more than the bit, is one that it marked
abbrev pub AreRemembered : List ℕ → Worker → Type 0
AreRemembered bits v = (k : ℕ) → 0 < slice_index bits k → 0 < times_in (slice_index bits k - 1) v.marked
