-- A seat and its pass, as clauses speak of them.
use Rattle.std.specs.Prelude.{◌≡◌, ℕ, ◌<◌, List, [], ◌∷◌, length}
use Rattle.sg_words.specs.declared.race.Worker.{Worker}
use Rattle.sg_words.specs.Counts.{pairs}
use Rattle.sg_pointer.specs.declared.seat.AskSeat.{AskSeat}
use Rattle.sg_pointer.specs.declared.seat.PointerPass.{PointerPass}

-- the slot words and the stock with which a pass started
abbrev pub old_links : PointerPass → List ℕ
old_links p = p.start.links

-- the numbers for new links with which a pass started: ticket t stands for the one at place t
abbrev pub stock_of : PointerPass → List ℕ
stock_of p = p.start.stock

-- what a seat has done and seen, as a worker of the race
abbrev pub worker_of : AskSeat → Worker
worker_of s = s.seat.me.0

-- a seat of this pass: of its table, told how long the stock is, with a spare of the stock if any
pub record IsSeatOf (p : PointerPass) (s : AskSeat) : Type 0 where
  pub table : s.seat.table_id ≡ p.table.shared.table_id
  pub told : (worker_of s).told ≡ length (stock_of p) ∷ []
  pub spare : (t : ℕ) → 0 < pairs 0 t (worker_of s).spare → t < length (stock_of p)
