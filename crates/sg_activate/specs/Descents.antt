-- A seat and its descent, as clauses speak of them.
use Rattle.std.specs.Prelude.{◌≡◌, ℕ, ◌<◌, length}
use Rattle.sg_words.specs.declared.race.Worker.{Worker}
use Rattle.sg_words.specs.Counts.{pairs, times_in}
use Rattle.sg_coord.specs.declared.coord.Coord.{Coord}
use Rattle.sg_coord.specs.Coord.{Inside}
use Rattle.sg_layout.specs.Axes.{bounds_of_shape}
use Rattle.sg_activate.specs.declared.descent.rule.Start.{Start}
use Rattle.sg_activate.specs.declared.descent.seat.DescentPass.{DescentPass}
use Rattle.sg_activate.specs.declared.descent.seat.DescentSeat.{DescentSeat}
use Rattle.sg_activate.specs.DescentRace.{stock_at, told_at}
use Rattle.sg_activate.specs.Descending.{IsSlotFor, IsBitFor}

-- what a descent started with
abbrev pub start_of : DescentPass → Start
start_of p = p.start

-- what a seat has done and seen, as a worker of the race
abbrev pub worker_of : DescentSeat → Worker
worker_of s = s.seat.me.0

-- a seat of this table, told what its workers are told, with spares of the stocks if any
pub record IsSeatAt (p : DescentPass) (s : DescentSeat) : Type 0 where
  pub table : s.seat.table_id ≡ p.table.shared.table_id
  pub told : (worker_of s).told ≡ told_at p.start
  pub spare : (l t : ℕ) → 0 < pairs l t (worker_of s).spare → t < length (stock_at p.start l)

-- whatever a worker made and marked is of some coordinate inside
pub record AreInside (start : Start) (v : Worker) : Type 0 where
  pub made : (i t : ℕ) → 0 < pairs i t v.made → (at : Coord) × Inside (bounds_of_shape start.layout) at × IsSlotFor start v at i
  pub marked : (b : ℕ) → 0 < times_in b v.marked → (at : Coord) × Inside (bounds_of_shape start.layout) at × IsBitFor start v at b

-- a seat of this descent
pub record IsSeatOf (p : DescentPass) (s : DescentSeat) : Type 0 where
  pub at : IsSeatAt p s
  pub inside : AreInside p.start (worker_of s)
