-- The coordinates that are wanted in each layout beside its active ones.
use Rattle.std.specs.Prelude.{◌≡◌, ◌↔◌, ℕ, suc, Bool, not, ◌&&◌, List, [], ◌∷◌, ◌++◌, map, filter, ◌==◌, All, Contains, Option, Some, None, Result, Ok, Err, unwrap_or, slice_get}
use Rattle.std.specs.List.{AllZip}
use Rattle.sg_words.specs.declared.memory.Stop.{Stop}
use Rattle.sg_words.specs.declared.memory.Stop.TheVariants as stop
use Rattle.sg_coord.specs.declared.coord.Coord.{Coord}
use Rattle.sg_coord.specs.Coord.{Inside}
use Rattle.sg_layout.specs.declared.shape.Shape.{Shape}
use Rattle.sg_layout.specs.Axes.{bounds_of_shape}
use Rattle.sg_layout.specs.Closure.{closure}
use Rattle.sg_layout.specs.Need.{first_full}
use Rattle.sg_flat.specs.declared.effects.Domain.{Domain}
use Rattle.sg_flat.specs.declared.effects.Way.TheVariants.{Own}
use Rattle.sg_flat.specs.declared.effects.Write.{Write}
use Rattle.sg_flat.specs.declared.effects.Turn.{Turn}
use Rattle.sg_flat.specs.declared.effects.RunFault.{RunFault}
use Rattle.sg_flat.specs.declared.state.FlatLayout.{FlatLayout}
use Rattle.sg_flat.specs.Effects.{writes_of, written_in}
use Rattle.sg_flat.specs.Kernel.{outside_among, first_outside, full_fault, first_full_layout}
use Rattle.sg_store.specs.StoreWords.{StoreWords}
use Rattle.sg_ir.specs.Runs.{is_own}
use Rattle.sg_ir.specs.Apt.{walks}
use Rattle.sg_store.specs.StandsFor.{StandsFor}

-- a write without its field and its value
abbrev pub bare : Write → Write
bare write = record { layout = write.layout; place = 0; stmt = write.stmt; at = write.at; way = Own; value = 0 }

-- a write may activate unless it is an own write into the layout that the loop walks
abbrev pub acts : Domain → Write → Bool
acts domain write = not (is_own write.way && walks domain write.layout)

-- the coordinates of the writes into a layout
abbrev pub coords_in : ℕ → List Write → List Coord
coords_in layout writes = map (λ write. write.at) (filter (λ write. write.layout == layout) writes)

-- two lists have the same members
abbrev pub SameMembers : List Coord → List Coord → Type 0
SameMembers left right = (at : Coord) → Contains left at ↔ Contains right at

-- a list has the members of another and one more, which may be among them already
abbrev pub HasOneMore : List Coord → List Coord → Coord → Type 0
HasOneMore old now at = SameMembers now (old ++ at ∷ [])

-- beside the active coordinates of each layout the wanted ones are those of the writes
abbrev pub AreWants : List FlatLayout → List (List Coord) → List Write → Type 0
AreWants flats wants writes = (number : ℕ) (flat : FlatLayout) (list : List Coord) →
    slice_get flats number ≡ Some flat → slice_get wants number ≡ Some list →
    SameMembers (flat.active ++ list) (flat.active ++ coords_in number writes)

-- the wanted coordinates are inside the extents of their layouts
abbrev pub AreInside : List StoreWords → List (List Coord) → Type 0
AreInside stores wants = AllZip (λ store list. All (Inside (bounds_of_shape store.shape)) list) stores wants

-- What one turn adds to the wants, or that a write of it is outside.
abbrev pub TurnWanted : List Shape → List FlatLayout → List (List Coord) → List (List Coord) → Coord → List Write → Result Unit (Stop RunFault) → Type 0
TurnWanted shapes flats old now at writes (Ok done) = (outside_among shapes at writes ≡ None)
    × ((earlier : List Write) → AreWants flats old earlier → AreWants flats now (earlier ++ writes))
TurnWanted shapes flats old now at writes (Err stop.Memory) = Unit {0}
TurnWanted shapes flats old now at writes (Err (stop.Refused fault)) = outside_among shapes at writes ≡ Some fault

-- What all turns want, or the first write outside.
abbrev pub AllWanted : {A : Type 0} → (A → List (List Coord)) → List Shape → List FlatLayout → List Turn → Result A (Stop RunFault) → Type 0
AllWanted view shapes flats turns (Ok wants) = (first_outside shapes turns ≡ None) × AreWants flats (view wants) (writes_of turns)
AllWanted view shapes flats turns (Err stop.Memory) = Unit {0}
AllWanted view shapes flats turns (Err (stop.Refused fault)) = first_outside shapes turns ≡ Some fault

-- ---- reaching them

-- a layout in which what these coordinates make active is active too
abbrev pub reached_layout : Shape → FlatLayout → List Coord → FlatLayout
reached_layout shape flat coords = record { active = closure shape (flat.active ++ coords); fields = flat.fields }

-- the layouts, from the given number on, in which what turns write is active
abbrev pub reached_layouts : ℕ → List Shape → List FlatLayout → List Turn → List FlatLayout
reached_layouts layout [] flats turns = []
reached_layouts layout (shape ∷ shapes) [] turns = []
reached_layouts layout (shape ∷ shapes) (flat ∷ flats) turns =
    reached_layout shape flat (written_in layout turns) ∷ reached_layouts (suc layout) shapes flats turns

-- One store with its wanted coordinates reached, or the node of its layout that is too full.
abbrev pub StoreReached : {A : Type 0} → (A → StoreWords) → ℕ → Shape → FlatLayout → List Coord → Result A (Stop RunFault) → Type 0
StoreReached view number shape flat wanted (Ok copy) =
    (first_full shape (flat.active ++ wanted) ≡ None) × StandsFor (view copy) (reached_layout shape flat wanted)
StoreReached view number shape flat wanted (Err stop.Memory) = Unit {0}
StoreReached view number shape flat wanted (Err (stop.Refused fault)) =
    full_fault number (first_full shape (flat.active ++ wanted)) ≡ Some fault

-- the stores of which there are copies so far, each with its wanted coordinates reached
abbrev pub AreReached : List StoreWords → List (List Coord) → List (Option StoreWords) → Type 0
AreReached stores wants copies = (number : ℕ) (store : StoreWords) (list : List Coord) (copy : Option StoreWords) →
    slice_get stores number ≡ Some store → slice_get wants number ≡ Some list → slice_get copies number ≡ Some copy →
    (flat : FlatLayout) → StandsFor store flat →
    (first_full store.shape (flat.active ++ list) ≡ None) × StandsFor (unwrap_or copy store) (reached_layout store.shape flat list)

-- All stores with what is wanted reached, or the first layout that is too full.
abbrev pub AllReached : {A : Type 0} → (A → List StoreWords) → List Shape → List FlatLayout → List Turn → Result A (Stop RunFault) → Type 0
AllReached view shapes flats turns (Ok copies) =
    (first_full_layout 0 shapes flats turns ≡ None) × AllZip StandsFor (view copies) (reached_layouts 0 shapes flats turns)
AllReached view shapes flats turns (Err stop.Memory) = Unit {0}
AllReached view shapes flats turns (Err (stop.Refused fault)) = first_full_layout 0 shapes flats turns ≡ Some fault
