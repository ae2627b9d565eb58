-- What a run's refusals and its active coordinates depend on: where its writes are, and not what they write.
use Rattle.std.specs.Prelude.{◌≡◌, ◌↔◌, ℕ, Bool, true, false, List, ◌++◌, map, filter, All, Contains, Some, Result, slice_get}
use Rattle.std.specs.Result.{result_map_both}
use Rattle.std.specs.List.{AllByRecursion}
use Rattle.sg_coord.specs.declared.coord.Coord.{Coord}
use Rattle.sg_layout.specs.declared.shape.Shape.{Shape}
use Rattle.sg_flat.specs.declared.effects.Write.{Write}
use Rattle.sg_flat.specs.declared.effects.Turn.{Turn}
use Rattle.sg_flat.specs.declared.effects.RunFault.{RunFault}
use Rattle.sg_flat.specs.declared.state.FlatLayout.{FlatLayout}
use Rattle.sg_flat.specs.declared.state.FlatState.{FlatState}
use Rattle.sg_flat.specs.Effects.{writes_of, written_in}
use Rattle.sg_flat.specs.State.{IsFlatLayout}
use Rattle.sg_flat.specs.Kernel.{is_inside_of, first_outside, layout_after, kernel_meaning}

-- the active coordinates of each layout
abbrev pub actives_of : FlatState → List (List Coord)
actives_of state = map (λ layout. layout.active) state.layouts

-- the active coordinates after a run of these iterations, or its refusal
abbrev pub actives_after : List Shape → FlatState → List Turn → Result (List (List Coord)) RunFault
actives_after shapes state turns = result_map_both actives_of (λ fault. fault) (kernel_meaning shapes state (record { turns = turns }))

-- Over a state some iterations want what others write: their first write outside is the same, and in each layout the active and the
-- written coordinates are together the same.
pub record WantWhatIsWritten (shapes : List Shape) (state : FlatState) (wants turns : List Turn) : Type 0 where
  pub outside : first_outside shapes wants ≡ first_outside shapes turns
  pub members : (number : ℕ) (layout : FlatLayout) → slice_get state.layouts number ≡ Some layout → (at : Coord)
      → Contains (layout.active ++ written_in number wants) at ↔ Contains (layout.active ++ written_in number turns) at

-- then their runs are refused alike, and leave the same active coordinates
abbrev pub MeaningIsOfWants : Type 0
MeaningIsOfWants = (shapes : List Shape) (state : FlatState) (wants turns : List Turn) → WantWhatIsWritten shapes state wants turns
    → actives_after shapes state wants ≡ actives_after shapes state turns

-- an iteration with those of its writes alone that pass a test
abbrev pub turn_with : (Write → Bool) → Turn → Turn
turn_with keep turn = record { at = turn.at; writes = filter keep turn.writes }

-- a write that doesn't pass a test is inside
abbrev pub IsKeptOrInside : List Shape → (Write → Bool) → Write → Type 0
IsKeptOrInside shapes keep write = keep write ≡ false → is_inside_of (slice_get shapes write.layout) write.at ≡ true

-- if all writes that don't pass a test are inside, the first write outside is that of those that pass
abbrev pub OutsideIsWanted : Type 0
OutsideIsWanted = (shapes : List Shape) (keep : Write → Bool) (turns : List Turn)
    → AllByRecursion (λ turn. AllByRecursion (IsKeptOrInside shapes keep) turn.writes) turns
    → first_outside shapes (map (turn_with keep) turns) ≡ first_outside shapes turns

-- a layout into which no write goes is after the run as it was
abbrev pub UnwrittenStays : Type 0
UnwrittenStays = (layout : ℕ) (shape : Shape) (flat : FlatLayout) (turns : List Turn) → IsFlatLayout shape flat
    → All (λ write. ¬ (write.layout ≡ layout)) (writes_of turns) → layout_after layout shape flat turns ≡ flat
