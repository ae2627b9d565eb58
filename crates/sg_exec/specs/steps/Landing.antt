-- Copies in the places of stores, and the writes that land in them.
use Rattle.std.specs.Prelude.{◌≡◌, ℕ, suc, true, List, [], ◌∷◌, map, All, Contains, Option, Some, None, Result, Ok, Err, unwrap_or, slice_get, slice_set, if◌then◌else◌}
use Rattle.std.specs.List.{AllZip}
use Rattle.std.specs.Result.{IsOkAnd}
use Rattle.sg_words.specs.declared.memory.Stop.{Stop}
use Rattle.sg_words.specs.declared.memory.Stop.TheVariants as stop
use Rattle.sg_words.specs.declared.operators.Ty.{Ty}
use Rattle.sg_coord.specs.Bounds.{Bounds}
use Rattle.sg_coord.specs.Coord.{is_inside}
use Rattle.sg_layout.specs.declared.shape.Shape.{Shape}
use Rattle.sg_layout.specs.Axes.{bounds_of_shape}
use Rattle.sg_coord.specs.declared.coord.Coord.{Coord}
use Rattle.sg_flat.specs.declared.effects.Turn.{Turn}
use Rattle.sg_flat.specs.declared.effects.Write.{Write}
use Rattle.sg_flat.specs.declared.effects.RunFault.{RunFault}
use Rattle.sg_flat.specs.declared.state.FlatLayout.{FlatLayout}
use Rattle.sg_flat.specs.declared.state.FlatState.{FlatState}
use Rattle.sg_flat.specs.Kernel.{field_after, is_inside_of}
use Rattle.sg_store.specs.StoreWords.{StoreWords}
use Rattle.sg_store.specs.StandsFor.{StandsFor}
use Rattle.sg_store.specs.Walks.{cell_in}
use Rattle.sg_ir.specs.declared.code.Inst.{Inst}
use Rattle.sg_ir.specs.Runs.{CodeWrite, is_own, iteration}
use Rattle.sg_exec.specs.declared.lanes.cell_write.CellWrite.{CellWrite}
use Rattle.sg_exec.specs.Standing.{shapes_of, StandForState}
use Rattle.sg_exec.specs.steps.Machines.{seen_in, cell_write, IsAtLoop}

-- the stores, with each copy in the place of the store that it was made of
abbrev pub current : List (Option StoreWords) → List StoreWords → List StoreWords
current [] stores = stores
current (copy ∷ copies) [] = []
current (copy ∷ copies) (store ∷ stores) = unwrap_or copy store ∷ current copies stores

-- a copy that was made has a number of which something holds
abbrev pub CopiesInto : (ℕ → Type 0) → List (Option StoreWords) → Type 0
CopiesInto P copies = (layout : ℕ) (copy : StoreWords) → slice_get copies layout ≡ Some (Some copy) → P layout

-- the stores with a copy in the place of one of them, if there is one
abbrev pub with_copied_store : List StoreWords → ℕ → Option StoreWords → List StoreWords
with_copied_store stores number None = stores
with_copied_store stores number (Some store) = slice_set stores number store

-- the fields of a layout, from the given place on, after writes
abbrev pub fields_landed : Bounds → ℕ → ℕ → List Ty → List (List (ℕ × ℕ)) → List Write → List (List (ℕ × ℕ))
fields_landed bounds layout place [] fields writes = []
fields_landed bounds layout place (ty ∷ types) [] writes = []
fields_landed bounds layout place (ty ∷ types) (words ∷ fields) writes =
    field_after bounds layout place ty words writes ∷ fields_landed bounds layout (suc place) types fields writes

-- a layout after writes, with what is active as before
abbrev pub landed_layout : ℕ → Shape → FlatLayout → List Write → FlatLayout
landed_layout layout shape flat writes =
    record { active = flat.active; fields = fields_landed (bounds_of_shape shape) layout 0 shape.fields flat.fields writes }

-- the layouts, from the given number on, after writes
abbrev pub landed_layouts : ℕ → List Shape → List FlatLayout → List Write → List FlatLayout
landed_layouts layout [] flats writes = []
landed_layouts layout (shape ∷ shapes) [] writes = []
landed_layouts layout (shape ∷ shapes) (flat ∷ flats) writes =
    landed_layout layout shape flat writes ∷ landed_layouts (suc layout) shapes flats writes

-- each write into a layout is at an active coordinate
abbrev pub AreActive : List FlatLayout → List Write → Type 0
AreActive flats writes = (number : ℕ) (flat : FlatLayout) (write : Write) → slice_get flats number ≡ Some flat →
    Contains writes write → write.layout ≡ number → Contains flat.active write.at

-- the writes landed in the stores
pub record Lands (old now : List StoreWords) (writes : List Write) : Type 0 where
  pub same_shapes : shapes_of now ≡ shapes_of old
  pub stand : (flats : List FlatLayout) → AllZip StandsFor old flats → AreActive flats writes →
      AllZip StandsFor now (landed_layouts 0 (shapes_of old) flats writes)

-- What copies were made is what a meaning says.
abbrev pub CopiesRan : {A : Type 0} → (A → List StoreWords) → List Shape → Result A (Stop RunFault) → Result FlatState RunFault → Type 0
CopiesRan view shapes (Ok copies) meaning = IsOkAnd meaning (StandForState shapes (view copies))
CopiesRan view shapes (Err stop.Memory) meaning = Unit {0}
CopiesRan view shapes (Err (stop.Refused fault)) meaning = meaning ≡ Err fault

-- ---- landing by cells

-- a write as the executor keeps it, at the coordinate where code writes it
abbrev pub code_write : List Shape → Write → CodeWrite
code_write shapes write = record {
  layout = write.layout;
  field = write.place;
  stmt = write.stmt;
  at = if is_own write.way then Some write.at else if is_inside_of (slice_get shapes write.layout) write.at then Some write.at else None;
  way = write.way;
  value = write.value;
}

-- a write with the cell of its coordinate
abbrev pub landing : List StoreWords → Write → CellWrite
landing stores write = cell_write stores (code_write (shapes_of stores) write)

-- these are the turns in which a block writes
abbrev pub AreTurnsOf : List StoreWords → FlatState → List Inst → List Coord → (Coord → Turn) → Type 0
AreTurnsOf stores state block points turn = (at : Coord) → Contains points at →
    All (IsAtLoop at) (iteration (seen_in stores state at) block).writes →
    (iteration (seen_in stores state at) block).writes ≡ map (code_write (shapes_of stores)) (turn at).writes

-- a store is another except for its fields
abbrev pub HasTree : StoreWords → StoreWords → Type 0
HasTree store copy = copy ≡ record store { fields = copy.fields }

-- what the executor keeps is a write, with the cell that its coordinate has if it is inside
pub record IsLanding (store : StoreWords) (write : CellWrite) (made : Write) : Type 0 where
  pub place : write.place ≡ made.place
  pub way : write.way ≡ made.way
  pub value : write.value ≡ made.value
  pub cell : is_inside (bounds_of_shape store.shape) made.at ≡ true → write.cell ≡ cell_in store made.at
