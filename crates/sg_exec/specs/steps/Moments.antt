-- How the executor's rows are those of how far runs of code have come, side by side.
use Rattle.std.specs.Prelude.{◌≡◌, ℕ, ◌<◌, ◌≤◌, Bool, ℤ, false, List, [], get_or, map, fold, length, slice_get, Option, None, Some, All, Contains}
use Rattle.sg_words.specs.Words.{word_of}
use Rattle.sg_coord.specs.declared.coord.Coord.{Coord}
use Rattle.sg_flat.specs.declared.effects.Turn.{Turn}
use Rattle.sg_flat.specs.declared.effects.Write.{Write}
use Rattle.sg_flat.specs.declared.state.FlatState.{FlatState}
use Rattle.sg_store.specs.StoreWords.{StoreWords}
use Rattle.sg_ir.specs.declared.code.Inst.{Inst}
use Rattle.sg_ir.specs.Runs.{Seen, Moved, set_var_word, runs, iteration, iteration_start}
use Rattle.sg_ir.specs.Named.{AreNamed}
use Rattle.sg_exec.specs.declared.lanes.batch.Batch.{Batch}
use Rattle.sg_exec.specs.declared.lanes.held.Held.{Held}
use Rattle.sg_exec.specs.declared.lanes.moment.Moment.{Moment}
use Rattle.sg_exec.specs.Standing.{shapes_of}
use Rattle.sg_exec.specs.steps.Machines.{seen_in, Sees, CellsMade, ArePlaces, cell_write, IsAtLoop, want_write}
use Rattle.sg_exec.specs.steps.Rows.{item_in}

-- ---- one iteration

-- what is in a column: the words of registers and variables and what place registers hold, by their numbers, and the moment
pub record Column : Type 0 where
  pub lacks : Bool
  pub stores : List StoreWords
  pub regs : ℕ → ℕ
  pub vars : ℕ → ℕ
  pub held : ℕ → Option Held
  pub cells : CellsMade
  pub wants : List Write

-- a column of a batch, with its moment
abbrev pub column : Batch → ℕ → Moment → Column
column batch k moment = record {
  lacks = batch.lacks;
  stores = batch.places.stores;
  regs = item_in batch.regs.items 0 k;
  vars = item_in batch.vars.items 0 k;
  held = item_in batch.places.list None k;
  cells = moment.cells;
  wants = moment.wants.items;
}

-- a column is that of a run of code at a coordinate that has come so far, and each own write of the run is at the coordinate
pub record IsMoved (stores : List StoreWords) (at : Coord) (it : Column) (now : Moved) : Type 0 where
  pub stores_are : it.stores ≡ stores
  pub regs_are : (number : ℕ) → it.regs number ≡ now.regs number
  pub vars_are : (number : ℕ) → it.vars number ≡ now.vars number
  pub places_are : ArePlaces stores it.held now.places
  pub cells_over : it.cells.stores ≡ stores
  pub at_is : it.cells.at ≡ at
  pub writes_are : it.cells.writes ≡ map (cell_write stores) now.writes
  pub own_at : All (IsAtLoop at) now.writes
  pub wants_are : it.wants ≡ map want_write now.wants

-- the same where memory wasn't wanting, and what was read and contributed to so far went where its index registers said
abbrev pub Follows : List StoreWords → Coord → Column → Moved → Type 0
Follows stores at it now = it.lacks ≡ false → AreNamed (shapes_of stores) now.accesses → IsMoved stores at it now

-- a column has become another as an action says, over any stores that have the state's values
pub record Moves (act : Seen → Moved → Moved) (old new : Column) : Type 0 where
  pub kept : new.lacks ≡ false → old.lacks ≡ false
  pub follows : (stores : List StoreWords) (state : FlatState) (at : Coord) → Sees stores state → (now : Moved) →
      Follows stores at old now → Follows stores at new (act (seen_in stores state at) now)

-- ---- a batch

-- all goes over these stores, in 32 columns
pub record IsOver (stores : List StoreWords) (batch : Batch) : Type 0 where
  pub places : batch.places.stores ≡ stores
  pub whole : length batch.moments.items ≡ 32
  pub moments : (k : ℕ) (moment : Moment) → slice_get batch.moments.items k ≡ Some moment → moment.cells.stores ≡ stores

-- the moments of a column
pub record AreAt (k : ℕ) (old new : Batch) (before after : Moment) : Type 0 where
  pub before_is : slice_get old.moments.items k ≡ Some before
  pub after_is : slice_get new.moments.items k ≡ Some after

-- Some columns have become others as one relation says, and the rest as another.
pub record AllBecome (Among Others : Column → Column → Type 0) (on : ℕ → Type 0) (old new : Batch) : Type 0 where
  pub over : (stores : List StoreWords) → IsOver stores old → IsOver stores new
  pub long : length new.moments.items ≡ length old.moments.items
  pub among : (k : ℕ) (before after : Moment) → AreAt k old new before after → k < 32 → on k →
      Among (column old k before) (column new k after)
  pub others : (k : ℕ) (before after : Moment) → AreAt k old new before after → k < 32 → (on k → ⊥) →
      Others (column old k before) (column new k after)

-- a column is as it was
abbrev pub Stays : Column → Column → Type 0
Stays = Moves (λ seen now. now)

-- In these columns a batch has moved as an action says, and the rest is as it was.
abbrev pub AllMove : (Seen → Moved → Moved) → (ℕ → Type 0) → Batch → Batch → Type 0
AllMove act = AllBecome (Moves act) Stays

-- rows have at most become longer, and memory may be wanting
pub record KeepsRows (old new : Batch) : Type 0 where
  pub moments : new.moments ≡ old.moments
  pub stores : new.places.stores ≡ old.places.stores
  pub kept : new.lacks ≡ false → old.lacks ≡ false
  pub regs : (place : ℕ) → get_or new.regs.items place 0 ≡ get_or old.regs.items place 0
  pub vars : (place : ℕ) → get_or new.vars.items place 0 ≡ get_or old.vars.items place 0
  pub held : (place : ℕ) → get_or new.places.list place None ≡ get_or old.places.list place None

-- a column is that of a whole iteration of a block
abbrev pub Iterated : List StoreWords → FlatState → Coord → List Inst → Batch → ℕ → Type 0
Iterated stores state at block batch k = (moment : Moment) → slice_get batch.moments.items k ≡ Some moment →
    AreNamed (shapes_of stores) (iteration (seen_in stores state at) block).accesses →
    IsMoved stores at (column batch k moment) (iteration (seen_in stores state at) block)

-- nothing is made at a coordinate, over the same stores
pub record IsFresh (at : Coord) (old new : Moment) : Type 0 where
  pub stores : new.cells.stores ≡ old.cells.stores
  pub at_is : new.cells.at ≡ at
  pub writes : new.cells.writes ≡ []
  pub wants : new.wants.items ≡ []

-- so it is at each of the points, and the rest are as they were
pub record AreFresh (points : List Coord) (old new : List Moment) : Type 0 where
  pub long : length new ≡ length old
  pub each : (k : ℕ) (at : Coord) (before after : Moment) → slice_get points k ≡ Some at → slice_get old k ≡ Some before → slice_get new k ≡ Some after →
      IsFresh at before after
  pub rest : (k : ℕ) → length points ≤ k → slice_get new k ≡ slice_get old k

-- each column of a point is that of the start of the iteration there
pub record AreStarted (points : List Coord) (old new : Batch) : Type 0 where
  pub over : (stores : List StoreWords) → IsOver stores old → IsOver stores new
  pub start : (stores : List StoreWords) (state : FlatState) → IsOver stores old → (k : ℕ) (at : Coord) (moment : Moment) →
      slice_get points k ≡ Some at → slice_get new.moments.items k ≡ Some moment →
      Follows stores at (column new k moment) (iteration_start (seen_in stores state at))

-- ---- points and turns

-- at each of these points what a block reads and contributes to goes where its index registers say
abbrev pub AreNamedAt : List StoreWords → FlatState → List Inst → List Coord → Type 0
AreNamedAt stores state block points = (at : Coord) → Contains points at →
    AreNamed (shapes_of stores) (iteration (seen_in stores state at) block).accesses

-- the turn in which a slice wants at a coordinate
abbrev pub slice_turn : List StoreWords → FlatState → List Inst → Coord → Turn
slice_turn stores state block at =
    record { at = at; writes = map want_write (iteration (seen_in stores state at) block).wants }

-- the turns of an inner loop, one after the other: its variable gets the turn's number, and the body runs
abbrev pub run_turns : Seen → ℕ → List Inst → Moved → List ℤ → Moved
run_turns seen var body now turns = fold (λ reached turn. runs seen body (set_var_word var (word_of turn) reached)) now turns
