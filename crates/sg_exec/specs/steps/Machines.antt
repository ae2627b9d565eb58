-- What the executor keeps: places, cells, what an iteration wrote, and the words of registers and variables.
use Rattle.std.specs.Prelude.{◌≡◌, ℕ, true, List, ◌++◌, get_or, All, IfSome, Option, Some, None, option_and_then, slice_get}
use Rattle.std.specs.List.{AllZip}
use Rattle.sg_words.specs.declared.operators.Ty.TheVariants as ty
use Rattle.sg_words.specs.Words.{number}
use Rattle.sg_coord.specs.declared.coord.Coord.{Coord}
use Rattle.sg_layout.specs.Path.{offsets}
use Rattle.sg_flat.specs.declared.effects.Way.TheVariants.{Own}
use Rattle.sg_flat.specs.declared.effects.Write.{Write}
use Rattle.sg_flat.specs.declared.state.FlatState.{FlatState}
use Rattle.sg_store.specs.StoreWords.{StoreWords}
use Rattle.sg_store.specs.StandsFor.{StandsFor}
use Rattle.sg_store.specs.Spots.{LeadsAlong}
use Rattle.sg_store.specs.Walks.{cell_in}
use Rattle.sg_store.specs.WellFormed.{IsReached}
use Rattle.sg_ir.specs.Runs.{Seen, Place, CodeWrite, CodeWant, is_own, down}
use Rattle.sg_exec.specs.declared.lanes.held.Held.{Held}
use Rattle.sg_exec.specs.declared.lanes.own_cell.OwnCell.{OwnCell}
use Rattle.sg_exec.specs.declared.lanes.cell_write.CellWrite.{CellWrite}
use Rattle.sg_exec.specs.Standing.{shapes_of}
use Rattle.sg_exec.specs.Running.{seen_at}
use Rattle.sg_exec.specs.steps.Stepping.{IsIdle}

-- ---- what is seen

-- what an iteration sees, where these stores stand for the state
abbrev pub seen_in : List StoreWords → FlatState → Coord → Seen
seen_in stores state at = seen_at (shapes_of stores) state at

-- The stores stand for a state.
pub record Sees (stores : List StoreWords) (state : FlatState) : Type 0 where
  pub stand : AllZip StandsFor stores state.layouts

-- ---- places

-- each coordinate whose path goes on from the place is idle
abbrev pub IsDead : List StoreWords → Option Place → Type 0
IsDead stores None = Unit {0}
IsDead stores (Some place) = (store : StoreWords) → slice_get stores place.layout ≡ Some store →
    (at : Coord) (more : List ℕ) → offsets store.shape.nodes at ≡ place.path ++ more → IsIdle store at

-- the spot leads along the path of the place
pub record LeadsTo (stores : List StoreWords) (held : Held) (place : Option Place) : Type 0 where
  pub path : List ℕ
  pub store : StoreWords
  pub is_place : place ≡ Some (record { layout = held.layout; path = path })
  pub there : slice_get stores held.layout ≡ Some store
  pub leads : LeadsAlong store held.spot path

-- what a place register holds, for a place
abbrev pub HoldsPlace : List StoreWords → Option Held → Option Place → Type 0
HoldsPlace stores None place = IsDead stores place
HoldsPlace stores (Some held) place = LeadsTo stores held place

-- the spot is one of its layout's store
pub record IsHeld (stores : List StoreWords) (held : Held) : Type 0 where
  pub path : List ℕ
  pub store : StoreWords
  pub there : slice_get stores held.layout ≡ Some store
  pub leads : LeadsAlong store held.spot path

-- each spot in a list is one of a store
abbrev pub AreHeld : List StoreWords → List (Option Held) → Type 0
AreHeld stores list = (place : ℕ) → IfSome (get_or list place None) (IsHeld stores)

-- a step down leads from what a register holds, for each place that this may be, to what holds the place below
pub record StepsDown (stores : List StoreWords) (node offset : ℕ) (held below : Option Held) : Type 0 where
  pub held_below : IfSome below (IsHeld stores)
  pub holds : (there : Option Place) → HoldsPlace stores held there → HoldsPlace stores below (down (shapes_of stores) node offset there)

-- ---- cells and writes

-- the cell of a coordinate that may be there, in a layout's store; none if it has none
abbrev pub cell_there : List StoreWords → ℕ → Option Coord → Option ℕ
cell_there stores layout at =
    option_and_then (λ (there : Coord). option_and_then (λ (store : StoreWords). cell_in store there) (slice_get stores layout)) at

-- links and bits lead to the cell in a layout's store
pub record IsCellOf (stores : List StoreWords) (layout cell : ℕ) : Type 0 where
  pub store : StoreWords
  pub there : slice_get stores layout ≡ Some store
  pub reached : IsReached store cell

-- what was found is the cell of the iteration's coordinate
pub record IsOwnCell (stores : List StoreWords) (at : Coord) (own : OwnCell) : Type 0 where
  pub is : own.cell ≡ cell_there stores own.layout (Some at)
  pub reached : IfSome own.cell (IsCellOf stores own.layout)

-- each that was found is the cell of the iteration's coordinate in its layout's store, or none if the coordinate has none there
abbrev pub AreOwnCells : List StoreWords → Coord → List OwnCell → Type 0
AreOwnCells stores at found = All (IsOwnCell stores at) found

-- a write of code, with the cell of its coordinate
abbrev pub cell_write : List StoreWords → CodeWrite → CellWrite
cell_write stores write = record {
  layout = write.layout;
  place = write.field;
  cell = cell_there stores write.layout write.at;
  way = write.way;
  value = write.value;
}

-- an own write is at the loop's coordinate
abbrev pub IsAtLoop : Coord → CodeWrite → Type 0
IsAtLoop at write = is_own write.way ≡ true → write.at ≡ Some at

-- each cell that a write has is one of its layout's store
abbrev pub AreCells : List StoreWords → List CellWrite → Type 0
AreCells stores writes = All (λ (write : CellWrite). IfSome write.cell (IsCellOf stores write.layout)) writes

-- the store of a layout
abbrev pub IsStoreOf : List StoreWords → ℕ → StoreWords → Type 0
IsStoreOf stores layout store = slice_get stores layout ≡ Some store

-- ---- the places of iterations side by side

-- the stores, and what place registers hold, in rows
pub record PlaceRows : Type 0 where
  pub stores : List StoreWords
  pub list : List (Option Held)

-- this is what place registers hold, for these places
abbrev pub ArePlaces : List StoreWords → (ℕ → Option Held) → (ℕ → Option Place) → Type 0
ArePlaces stores held places = (p : ℕ) → HoldsPlace stores (held p) (places p)

-- ---- the cells of an iteration

-- the stores, the iteration's coordinate, and what was written
pub record CellsMade : Type 0 where
  pub stores : List StoreWords
  pub at : Coord
  pub writes : List CellWrite

-- each cell that was found is the coordinate's, and each that was written is one of its layout's store
pub record AreCellsMade (made : CellsMade) (found : List OwnCell) : Type 0 where
  pub own : AreOwnCells made.stores made.at found
  pub cells : AreCells made.stores made.writes

-- ---- wants

-- a want as a write that names no field and no value
abbrev pub want_write : CodeWant → Write
want_write want = record { layout = want.layout; place = 0; stmt = want.stmt; at = want.at; way = Own; value = 0 }

-- ---- words

-- the coordinate of these words, each read as I32
abbrev pub coord_from : ℕ → ℕ → ℕ → ℕ → Coord
coord_from n a b c = record { n = n; a = number ty.I32 a; b = number ty.I32 b; c = number ty.I32 c }
