-- The iterations of a worker at points, over the stores as they were.
use Rattle.std.specs.Prelude.{◌≡◌, List, map, Contains}
use Rattle.sg_coord.specs.declared.coord.Coord.{Coord}
use Rattle.sg_flat.specs.declared.effects.Turn.{Turn}
use Rattle.sg_flat.specs.declared.effects.Write.{Write}
use Rattle.sg_flat.specs.declared.state.FlatState.{FlatState}
use Rattle.sg_flat.specs.Effects.{writes_of}
use Rattle.sg_store.specs.StoreWords.{StoreWords}
use Rattle.sg_ir.specs.declared.code.Inst.{Inst}
use Rattle.sg_flat.specs.declared.effects.Way.TheVariants.{Own}
use Rattle.sg_ir.specs.Apt.{Writes, uses_in}
use Rattle.sg_exec.specs.declared.lanes.cell_write.CellWrite.{CellWrite}
use Rattle.sg_exec.specs.declared.results.shared.Accumulated.{Accumulated}
use Rattle.sg_exec.specs.declared.results.shared.Owned.{Owned}
use Rattle.sg_exec.specs.declared.workers.state.Hand.{Hand}
use Rattle.sg_exec.specs.steps.Machines.{Sees, AreCells}
use Rattle.sg_exec.specs.steps.Moments.{AreNamedAt}
use Rattle.sg_exec.specs.steps.Landing.{landing, AreTurnsOf, Lands}
use Rattle.sg_exec.specs.steps.Racing.{wrote, AreSeats, HasRun}
use Rattle.sg_exec.specs.steps.Passes.{WritesOneWay, AreWhole, GaveReached, AreGiven, passed}
use Rattle.sg_exec.specs.steps.Puts.{kept_writes}

-- the stores have the values of a state, at which the code goes where its registers say at all points of a run
abbrev pub RunsAt : List StoreWords → List Inst → List Coord → FlatState → Type 0
RunsAt stores code points state = Sees stores state × AreNamedAt stores state code points

-- a hand after the code's iterations at some of a run's points
abbrev pub HasRunAt : List StoreWords → List Inst → List Coord → List Coord → List Accumulated → List Owned → Hand → Hand → Type 0
HasRunAt stores code points mine accumulated owned =
    HasRun stores accumulated owned (RunsAt stores code points) (λ state. map (wrote stores state code) mine)

-- What a hand has given and put is that of these turns: where the passes' fields have landed, and then what it has put, all has landed.
pub record HasTurns (stores : List StoreWords) (accumulated : List Accumulated) (turn : Coord → Turn) (points : List Coord) (after : Hand) : Type 0 where
  pub given : AreGiven stores accumulated after.seats.items (writes_of (map turn points))
  pub lands : (mids news : List StoreWords) → Lands stores mids (passed accumulated (writes_of (map turn points))) →
      ((made : List Write) → (kept_writes after.puts) ≡ map (landing stores) made → Lands mids news made) → Lands stores news (writes_of (map turn points))

-- a hand after all iterations
pub record HasRaced (stores : List StoreWords) (code : List Inst) (points : List Coord) (accumulated : List Accumulated) (after : Hand) : Type 0 where
  pub seats : AreSeats accumulated after.seats.items
  pub cells : AreCells stores (kept_writes after.puts)
  pub used : (write : CellWrite) → Contains (kept_writes after.puts) write → Contains (uses_in code) (Writes write.layout write.place Own)
  pub whole : AreWhole after.seats.items
  pub reached : GaveReached stores accumulated after.seats.items
  pub turns : WritesOneWay (uses_in code) → (state : FlatState) → Sees stores state → AreNamedAt stores state code points →
      (turn : Coord → Turn) → AreTurnsOf stores state code points turn → HasTurns stores accumulated turn points after
