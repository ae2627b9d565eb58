-- What instructions that read, write and want make of iterations side by side.
use Rattle.std.specs.Prelude.{◌≡◌, ◌==◌, ℕ, Bool, true, false, not, List, [], ◌∷◌, ◌++◌, map, length, slice_get, Option, Some}
use Rattle.std.specs.List.{AllZip}
use Rattle.sg_words.specs.declared.operators.AccOp.{AccOp}
use Rattle.sg_words.specs.Words.{flag}
use Rattle.sg_coord.specs.declared.coord.Coord.{Coord}
use Rattle.sg_flat.specs.declared.effects.Way.TheVariants.{Own, Acc}
use Rattle.sg_flat.specs.declared.state.FlatState.{FlatState}
use Rattle.sg_flat.specs.State.{value_of}
use Rattle.sg_store.specs.StoreWords.{StoreWords}
use Rattle.sg_store.specs.StandsFor.{StandsFor}
use Rattle.sg_ir.specs.Runs.{CodeWant, Place, at_of, cell_value, is_active_place, coord_of}
use Rattle.sg_ir.specs.Places.{place_at}
use Rattle.sg_exec.specs.declared.lanes.cell_write.CellWrite.{CellWrite}
use Rattle.sg_exec.specs.declared.lanes.held.Held.{Held}
use Rattle.sg_exec.specs.declared.lanes.moment.Moment.{Moment}
use Rattle.sg_exec.specs.Standing.{shapes_of}
use Rattle.sg_exec.specs.steps.Machines.{seen_in, HoldsPlace, cell_there, want_write}
use Rattle.sg_exec.specs.steps.Rows.{item_in}
use Rattle.sg_exec.specs.steps.Written.{own_write, last_or}

-- ---- values

-- a word is the value of a field at each place which a place register holds
abbrev pub IsValueAt : List StoreWords → Option Held → ℕ → ℕ → Type 0
IsValueAt stores held field word = (state : FlatState) → AllZip StandsFor stores state.layouts →
    (there : Option Place) → HoldsPlace stores held there → (layout : ℕ) (at loop : Coord) →
    there ≡ place_at (shapes_of stores) layout at →
    word ≡ cell_value (seen_in stores state loop) layout field (at_of (shapes_of stores) there)

-- a word tells whether a place which a place register holds is active in what the stores stand for
abbrev pub TellsActive : List StoreWords → Option Held → ℕ → Type 0
TellsActive stores held word = (state : FlatState) → AllZip StandsFor stores state.layouts →
    (there : Option Place) → HoldsPlace stores held there → (layout : ℕ) (at loop : Coord) →
    there ≡ place_at (shapes_of stores) layout at →
    word ≡ flag (is_active_place (seen_in stores state loop) (at_of (shapes_of stores) there) there)

-- a word is the value of a field in the own cell of the moment of a column: the last own value, or else the stores'
abbrev pub IsOwnValue : List StoreWords → List Moment → ℕ → ℕ → ℕ → ℕ → Type 0
IsOwnValue stores moments layout field k word = (moment : Moment) → slice_get moments k ≡ Some moment →
    (state : FlatState) → AllZip StandsFor stores state.layouts →
    word ≡ last_or (own_write layout field moment.cells.writes) (value_of (shapes_of stores) state layout field moment.cells.at)

-- ---- one moment

-- a moment has one write more
pub record IsWritten (write : CellWrite) (before after : Moment) : Type 0 where
  pub cells : after.cells ≡ record before.cells { writes = before.cells.writes ++ write ∷ [] }
  pub wants : after.wants ≡ before.wants

-- a moment has one want more
pub record IsWanted (want : CodeWant) (before after : Moment) : Type 0 where
  pub cells : after.cells ≡ before.cells
  pub wants : after.wants.items ≡ before.wants.items ++ want_write want ∷ []

-- an own write of a value, in the cell of the moment's coordinate
abbrev pub own_write_at : ℕ → ℕ → ℕ → Moment → CellWrite
own_write_at layout field value moment = record {
  layout = layout;
  place = field;
  cell = cell_there moment.cells.stores layout (Some moment.cells.at);
  way = Own;
  value = value;
}

-- a contribution of a value in a cell, which may be there
abbrev pub contribution : AccOp → ℕ → ℕ → ℕ → Option ℕ → CellWrite
contribution op layout field value cell = record { layout = layout; place = field; cell = cell; way = Acc op; value = value }

-- the coordinate that index registers name in a column
abbrev pub coord_in : List ℕ → ℕ → List ℕ → Coord
coord_in regs k index = coord_of (map (item_in regs 0 k) index)

-- the cell is that of each place of a layout which a place register holds
abbrev pub IsCellAt : List StoreWords → ℕ → Option Held → Option ℕ → Type 0
IsCellAt stores layout held cell = (there : Option Place) → HoldsPlace stores held there → (at : Coord) → there ≡ place_at (shapes_of stores) layout at →
    cell ≡ cell_there stores layout (at_of (shapes_of stores) there)

-- a moment has one contribution more, in the cell of a place
pub record IsContributed (stores : List StoreWords) (held : Option Held) (op : AccOp) (layout field value : ℕ) (before after : Moment) : Type 0 where
  pub cell : Option ℕ
  pub is : IsCellAt stores layout held cell
  pub written : IsWritten (contribution op layout field value cell) before after

-- ---- several moments

-- the cells of all go over these stores
abbrev pub AreCellsOver : List StoreWords → List Moment → Type 0
AreCellsOver stores moments = (k : ℕ) (moment : Moment) → slice_get moments k ≡ Some moment → moment.cells.stores ≡ stores

-- the cells of each go over the stores of before
pub record KeepStores (old new : List Moment) : Type 0 where
  pub long : length new ≡ length old
  pub same : (k : ℕ) (before after : Moment) → slice_get old k ≡ Some before → slice_get new k ≡ Some after → after.cells.stores ≡ before.cells.stores

-- The moments of some columns have become others, each as a relation says of its number. All others are as they were.
pub record AreMade (Becomes : ℕ → Moment → Moment → Type 0) (on : ℕ → Type 0) (old new : List Moment) : Type 0 where
  pub among : (k : ℕ) (before after : Moment) → slice_get old k ≡ Some before → slice_get new k ≡ Some after → on k → Becomes k before after
  pub others : (k : ℕ) → (on k → ⊥) → slice_get new k ≡ slice_get old k

-- a moment has become another if its lane isn't 0, and is as it was if it is
pub record BecomesIf (Becomes : Moment → Moment → Type 0) (lane : ℕ) (before after : Moment) : Type 0 where
  pub set : not (lane == 0) ≡ true → Becomes before after
  pub zero : not (lane == 0) ≡ false → after ≡ before
