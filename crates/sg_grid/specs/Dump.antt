-- The rows of a field of a flat layout, and the text that dumps them.
use Rattle.std.specs.Prelude.{ℕ, List, map, Option, Some, None, slice_get}
use Rattle.sg_words.specs.declared.operators.Ty.{Ty}
use Rattle.sg_words.specs.declared.operators.Ty.TheVariants as ty
use Rattle.sg_layout.specs.declared.shape.Shape.{Shape}
use Rattle.sg_flat.specs.declared.state.FlatLayout.{FlatLayout}
use Rattle.sg_flat.specs.State.{value_at}
use Rattle.sg_grid.specs.declared.grid.GridRow.{GridRow}
use Rattle.sg_grid.specs.GridText.{grid_text}

-- a row for each active coordinate, with the field's value there
abbrev pub field_rows : Shape → FlatLayout → ℕ → List GridRow
field_rows shape flat place = map (λ at. record { at = at; word = value_at shape flat place at }) flat.active

-- a type that may be there
abbrev pub type_or : Option Ty → Ty
type_or None = ty.I32
type_or (Some type) = type

-- the type of a field, from 0; it is there
abbrev pub field_type : Shape → ℕ → Ty
field_type shape place = type_or (slice_get shape.fields place)

-- the text that dumps a field
abbrev pub dump_text : Shape → FlatLayout → ℕ → List ℕ
dump_text shape flat place = grid_text shape.axes (field_type shape place) (field_rows shape flat place)
