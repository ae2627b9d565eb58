use Rattle.std.specs.Prelude.{ℕ, suc, Bool, false, List, [], ◌∷◌, ◌++◌, if◌then◌else◌, Option, Some, None, Result, Ok, slice_get}
use Rattle.sg_coord.specs.declared.coord.Coord.{Coord}
use Rattle.sg_coord.specs.Bounds.{Bounds, volume}
use Rattle.sg_coord.specs.Coord.{is_inside}
use Rattle.sg_words.specs.Results.{fault_or}
use Rattle.sg_words.specs.declared.operators.Ty.{Ty}
use Rattle.sg_layout.specs.declared.shape.Shape.{Shape}
use Rattle.sg_layout.specs.Axes.{bounds_of_shape}
use Rattle.sg_layout.specs.Closure.{closure}
use Rattle.sg_layout.specs.Need.{FullNode, first_full}
use Rattle.std.specs.Option.{option_or}
use Rattle.sg_flat.specs.declared.effects.Write.{Write}
use Rattle.sg_flat.specs.declared.effects.Turn.{Turn}
use Rattle.sg_flat.specs.declared.effects.Effects.{Effects}
use Rattle.sg_flat.specs.declared.effects.RunFault.{RunFault}
use Rattle.sg_flat.specs.declared.effects.RunFault.TheVariants.{WriteOutside, PoolFull}
use Rattle.sg_flat.specs.declared.state.FlatLayout.{FlatLayout}
use Rattle.sg_flat.specs.declared.state.FlatState.{FlatState}
use Rattle.sg_flat.specs.Words.{word_at, words_of}
use Rattle.sg_flat.specs.Effects.{writes_of, writes_to, written_in, landed}

-- the coordinate is inside the extents of a layout that may be there; it is not if there is none
abbrev pub is_inside_of : Option Shape → Coord → Bool
is_inside_of None at = false
is_inside_of (Some shape) at = is_inside (bounds_of_shape shape) at

-- the first write outside among those of an iteration, as the statement that made it and the iteration's coordinate
abbrev pub outside_among : List Shape → Coord → List Write → Option RunFault
outside_among shapes at [] = None
outside_among shapes at (write ∷ writes) =
    if is_inside_of (slice_get shapes write.layout) write.at then outside_among shapes at writes else Some (WriteOutside write.stmt at)

-- the first write outside of the first iteration that has one, in the order of the list of iterations, which is row order
-- where a kernel made it
abbrev pub first_outside : List Shape → List Turn → Option RunFault
first_outside shapes [] = None
first_outside shapes (turn ∷ turns) = option_or (outside_among shapes turn.at turn.writes) (first_outside shapes turns)

-- the fault of a layout with this number, where a node of it has no room
abbrev pub full_fault : ℕ → Option FullNode → Option RunFault
full_fault layout None = None
full_fault layout (Some full) = Some (PoolFull layout full.node full.cap)

-- the first layout, from the given number on, with a node whose need for the active and the written coordinates passes its cap
abbrev pub first_full_layout : ℕ → List Shape → List FlatLayout → List Turn → Option RunFault
first_full_layout layout [] flats turns = None
first_full_layout layout (shape ∷ shapes) [] turns = None
first_full_layout layout (shape ∷ shapes) (flat ∷ flats) turns =
    option_or (full_fault layout (first_full shape (flat.active ++ written_in layout turns))) (first_full_layout (suc layout) shapes flats turns)

-- a field after writes: in each cell what the writes to it make of its word
abbrev pub field_after : Bounds → ℕ → ℕ → Ty → List (ℕ × ℕ) → List Write → List (ℕ × ℕ)
field_after bounds layout place ty words writes =
    words_of (volume bounds) (λ row. landed ty (word_at words row) (writes_to bounds layout place row writes))

-- the fields of a layout after the writes of iterations, from the given place on, each with its type
abbrev pub fields_after : Bounds → ℕ → ℕ → List Ty → List (List (ℕ × ℕ)) → List Turn → List (List (ℕ × ℕ))
fields_after bounds layout place [] fields turns = []
fields_after bounds layout place (ty ∷ types) [] turns = []
fields_after bounds layout place (ty ∷ types) (words ∷ fields) turns =
    field_after bounds layout place ty words (writes_of turns) ∷ fields_after bounds layout (suc place) types fields turns

-- a layout after the run: the closure of its active and its written coordinates, and its fields
abbrev pub layout_after : ℕ → Shape → FlatLayout → List Turn → FlatLayout
layout_after layout shape flat turns =
    record { active = closure shape (flat.active ++ written_in layout turns); fields = fields_after (bounds_of_shape shape) layout 0 shape.fields flat.fields turns }

-- the layouts after the run, from the given number on
abbrev pub layouts_after : ℕ → List Shape → List FlatLayout → List Turn → List FlatLayout
layouts_after layout [] flats turns = []
layouts_after layout (shape ∷ shapes) [] turns = []
layouts_after layout (shape ∷ shapes) (flat ∷ flats) turns =
    layout_after layout shape flat turns ∷ layouts_after (suc layout) shapes flats turns

-- a kernel run of these effects: refused if some write is outside, else where some node has no room, else each
-- layout is as after the run
abbrev pub kernel_meaning : List Shape → FlatState → Effects → Result FlatState RunFault
kernel_meaning shapes state effects =
    fault_or (first_outside shapes effects.turns)
    (fault_or (first_full_layout 0 shapes state.layouts effects.turns)
    (Ok (record { layouts = layouts_after 0 shapes state.layouts effects.turns })))
