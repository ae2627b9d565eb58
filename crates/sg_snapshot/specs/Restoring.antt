-- What bytes are as a snapshot: the flat state whose image they are, or the first fault.
use Rattle.std.specs.Prelude.{ℕ, suc, Bool, ◌==◌, List, [], ◌∷◌, map, Option, Some, None, Result, Ok, Err, if◌then◌else◌}
use Rattle.std.specs.Option.{option_or}
use Rattle.std.specs.Str.{bytes_eq}
use Rattle.sg_words.specs.Results.{fault_or}
use Rattle.sg_coord.specs.declared.coord.Coord.{Coord}
use Rattle.sg_coord.specs.Bounds.{volume}
use Rattle.sg_coord.specs.Coord.{point_at, row_of}
use Rattle.sg_layout.specs.declared.shape.Shape.{Shape}
use Rattle.sg_layout.specs.Axes.{bounds_of_shape}
use Rattle.sg_layout.specs.Closure.{closure}
use Rattle.sg_layout.specs.Need.{FullNode, first_full}
use Rattle.sg_flat.specs.declared.state.FlatLayout.{FlatLayout}
use Rattle.sg_flat.specs.declared.state.FlatState.{FlatState}
use Rattle.sg_flat.specs.Words.{words_of}
use Rattle.sg_snapshot.specs.declared.part.Part.{Part}
use Rattle.sg_snapshot.specs.declared.fault.SnapFault.{SnapFault}
use Rattle.sg_snapshot.specs.declared.fault.SnapFault.TheVariants.{NotSnapshot, NotClosed, Full}
use Rattle.sg_snapshot.specs.Parts.{frames_of, parts_in}

-- ---- the state
-- the active coordinates of a part
abbrev pub points_in : Shape → Part → List Coord
points_in shape part = map (point_at (bounds_of_shape shape)) part.rows

-- the word that stands beside a row; 0 where the row isn't there
abbrev pub word_beside : List ℕ → List ℕ → ℕ → ℕ
word_beside [] words row = 0
word_beside (other ∷ rows) [] row = 0
word_beside (other ∷ rows) (word ∷ words) row = if other == row then word else word_beside rows words row

-- the flat layout of a part
abbrev pub layout_of : Shape → Part → FlatLayout
layout_of shape part = record {
  active = points_in shape part;
  fields = map (λ words. words_of (volume (bounds_of_shape shape)) (word_beside part.rows words)) part.words;
}

-- the flat layouts of parts
abbrev pub layouts_of : List Shape → List Part → List FlatLayout
layouts_of [] parts = []
layouts_of (shape ∷ shapes) [] = []
layouts_of (shape ∷ shapes) (part ∷ parts) = layout_of shape part ∷ layouts_of shapes parts

-- ---- the faults
-- the coordinates of a part are their own closure
abbrev pub is_closed : Shape → Part → Bool
is_closed shape part = bytes_eq (map (row_of (bounds_of_shape shape)) (closure shape (points_in shape part))) part.rows

-- the first layout, from a number on, whose coordinates aren't their own closure
abbrev pub first_open : ℕ → List Shape → List Part → Option SnapFault
first_open layout [] parts = None
first_open layout (shape ∷ shapes) [] = None
first_open layout (shape ∷ shapes) (part ∷ parts) = if is_closed shape part then first_open (suc layout) shapes parts else Some (NotClosed layout)

-- the fault of a layout in which a node has no room
abbrev pub full_fault : ℕ → Option FullNode → Option SnapFault
full_fault layout None = None
full_fault layout (Some full) = Some (Full layout full.node full.cap)

-- the first layout, from a number on, with a node whose need passes its cap
abbrev pub first_too_full : ℕ → List Shape → List Part → Option SnapFault
first_too_full layout [] parts = None
first_too_full layout (shape ∷ shapes) [] = None
first_too_full layout (shape ∷ shapes) (part ∷ parts) = option_or (full_fault layout (first_full shape (points_in shape part))) (first_too_full (suc layout) shapes parts)

-- the state of parts, or their first fault: first whether all coordinates are closed, then whether there is room for all
abbrev pub state_of : List Shape → Option (List Part) → Result FlatState SnapFault
state_of shapes None = Err NotSnapshot
state_of shapes (Some parts) =
    fault_or (first_open 0 shapes parts) (fault_or (first_too_full 0 shapes parts) (Ok (record { layouts = layouts_of shapes parts })))

-- what bytes are as a snapshot of layouts of these shapes
abbrev pub restored : List Shape → List ℕ → Result FlatState SnapFault
restored shapes bytes = state_of shapes (parts_in (frames_of shapes) bytes)
