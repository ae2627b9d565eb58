use Rattle.std.specs.Prelude.{◌≡◌, ℕ, List, [], ◌∷◌, map, length, if◌then◌else◌, Option, Some, None, All, Contains, IsTrue, slice_get}
use Rattle.sg_coord.specs.declared.coord.Coord.{Coord}
use Rattle.sg_coord.specs.Bounds.{Bounds, volume}
use Rattle.sg_coord.specs.Coord.{is_inside, row_of, point_at}
use Rattle.sg_layout.specs.declared.shape.Shape.{Shape}
use Rattle.sg_layout.specs.Axes.{bounds_of_shape}
use Rattle.sg_layout.specs.Closure.{closure}
use Rattle.sg_flat.specs.declared.state.FlatLayout.{FlatLayout}
use Rattle.sg_flat.specs.declared.state.FlatState.{FlatState}
use Rattle.sg_flat.specs.Words.{are_words, word_at, words_of}

-- the words of a field: their rows are rows of the layout and rise, no word is 0, each is below 2 ^ 32 (the code's words are
-- u32), and each row with a word is that of an active coordinate
pub record IsFlatField (shape : Shape) (active : List Coord) (words : List (ℕ × ℕ)) : Type 0 where
  pub canonical : words ≡ words_of (volume (bounds_of_shape shape)) (word_at words)
  pub in_range : IsTrue (are_words words)
  pub active_rows : All (λ entry. Contains active (point_at (bounds_of_shape shape) entry.0)) words

-- the active coordinates are their own closure (so each is inside, once, in row order), and each field of the shape has its words,
-- all of them at active coordinates; so the value at a coordinate that isn't active is 0
pub record IsFlatLayout (shape : Shape) (layout : FlatLayout) : Type 0 where
  pub closed : layout.active ≡ closure shape layout.active
  pub field_count : length layout.fields ≡ length shape.fields
  pub fields_fit : All (IsFlatField shape layout.active) layout.fields

-- these are flat layouts of these shapes: as many, and each is one of its shape
abbrev pub AreFlatLayouts : List Shape → List FlatLayout → Type 0
AreFlatLayouts [] [] = Unit {0}
AreFlatLayouts [] (layout ∷ layouts) = ⊥
AreFlatLayouts (shape ∷ shapes) [] = ⊥
AreFlatLayouts (shape ∷ shapes) (layout ∷ layouts) = IsFlatLayout shape layout × AreFlatLayouts shapes layouts

-- the state is one that these layouts can have
abbrev pub IsFlat : List Shape → FlatState → Type 0
IsFlat shapes state = AreFlatLayouts shapes state.layouts

-- the word of a field at a coordinate; 0 outside the extents
abbrev pub value_in : Bounds → List (ℕ × ℕ) → Coord → ℕ
value_in bounds words at = if is_inside bounds at then word_at words (row_of bounds at) else 0

-- the words of a field that may be there; no words if it isn't
abbrev pub words_or_none : Option (List (ℕ × ℕ)) → List (ℕ × ℕ)
words_or_none None = []
words_or_none (Some words) = words

-- the value of a field of a layout, numbered from 0, at a coordinate: 0 outside the extents, and if there is no such field
abbrev pub value_at : Shape → FlatLayout → ℕ → Coord → ℕ
value_at shape layout place at = value_in (bounds_of_shape shape) (words_or_none (slice_get layout.fields place)) at

-- the value of a field of a layout that may be there, and 0 if it isn't
abbrev pub value_or_zero : Option Shape → Option FlatLayout → ℕ → Coord → ℕ
value_or_zero None flat place at = 0
value_or_zero (Some shape) None place at = 0
value_or_zero (Some shape) (Some flat) place at = value_at shape flat place at

-- the value of a field of a state at a coordinate, if both the layout and the field are numbered from 0: 0 outside the
-- layout's extents, and if there is no such layout or field
abbrev pub value_of : List Shape → FlatState → ℕ → ℕ → Coord → ℕ
value_of shapes state layout place at = value_or_zero (slice_get shapes layout) (slice_get state.layouts layout) place at

-- at the start a layout's active coordinates are the closure of no coordinate, and all words are 0
abbrev pub opening_layout : Shape → FlatLayout
opening_layout shape = record { active = closure shape []; fields = map (λ _. []) shape.fields }

-- the state at the start
abbrev pub opening : List Shape → FlatState
opening shapes = record { layouts = map opening_layout shapes }
