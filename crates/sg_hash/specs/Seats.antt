-- A seat and its pass, as clauses speak of them.
use Rattle.std.specs.Prelude.{◌≡◌, ℕ, ◌<◌, Bool, true, List, [], ◌∷◌, length}
use Rattle.sg_words.specs.declared.race.Worker.{Worker}
use Rattle.sg_words.specs.Counts.{pairs}
use Rattle.sg_words.specs.RaceMachine.{HasOthersBefore}
use Rattle.sg_hash.specs.Asking.{HasLinkedBesideKeys, HasLinkedItsKeys}
use Rattle.sg_hash.specs.declared.seat.HashSeat.{HashSeat}
use Rattle.sg_hash.specs.declared.seat.HashPass.{HashPass}

-- the slot words and the stock with which a pass started
abbrev pub old_links : HashPass → List ℕ
old_links p = p.start.links

-- the numbers for new links with which a pass started: ticket t stands for the one at place t
abbrev pub stock_of : HashPass → List ℕ
stock_of p = p.start.stock

-- what a seat has done and seen, as a worker of the race
abbrev pub worker_of : HashSeat → Worker
worker_of s = s.seat.me.0

-- the key words with which a pass started: 0 if a place was empty, else one more than its key
abbrev pub old_keys : HashPass → List ℕ
old_keys p = p.start.keys

-- whether it found another key in every place
abbrev pub is_full : HashSeat → Bool
is_full s = s.full

-- a seat of this table, told how long the stock is and how many places there are, with a spare of the stock if any
pub record IsSeatAt (p : HashPass) (s : HashSeat) : Type 0 where
  pub table : s.seat.table_id ≡ p.table.shared.table_id
  pub told : (worker_of s).told ≡ length (stock_of p) ∷ length (old_links p) ∷ []
  pub spare : (t : ℕ) → 0 < pairs 0 t (worker_of s).spare → t < length (stock_of p)

-- a seat of this pass: if it is full, it found another key in every place of some key's order; its links stand beside keys, and links stand
-- beside the keys that it put unless it is dry
pub record IsSeatOf (p : HashPass) (s : HashSeat) : Type 0 where
  pub at : IsSeatAt p s
  pub others : is_full s ≡ true → (k : ℕ) × HasOthersBefore (length (old_links p)) k (length (old_links p)) (worker_of s)
  pub beside : HasLinkedBesideKeys (worker_of s)
  pub linked : HasLinkedItsKeys (worker_of s)
