-- The image of a field of a flat layout.
use Rattle.std.specs.Prelude.{ℕ, ℤ, pos, List, Option, Some, None, slice_get}
use Rattle.sg_words.specs.declared.operators.Ty.{Ty}
use Rattle.sg_words.specs.declared.operators.Ty.TheVariants as ty
use Rattle.sg_words.specs.Words.{number}
use Rattle.sg_coord.specs.Coord.{plane_point}
use Rattle.sg_layout.specs.declared.shape.Shape.{Shape}
use Rattle.sg_layout.specs.Axes.{bounds_of_shape}
use Rattle.sg_flat.specs.declared.state.FlatLayout.{FlatLayout}
use Rattle.sg_flat.specs.State.{value_at}
use Rattle.sg_image.specs.Grey.{grey_of}
use Rattle.sg_image.specs.Pgm.{pgm_text}

-- a type that may be there
abbrev pub type_or : Option Ty → Ty
type_or None = ty.I32
type_or (Some type) = type

-- the type of a field, from 0; it is there
abbrev pub type_of_field : Shape → ℕ → Ty
type_of_field shape place = type_or (slice_get shape.fields place)

-- the grey of a field at the point in a row and a column: that of the number for which its value stands in the field's type
abbrev pub grey_at : Shape → FlatLayout → ℕ → (lo hi : ℤ) → (row column : ℕ) → ℕ
grey_at shape flat place lo hi row column =
    grey_of lo hi (number (type_of_field shape place) (value_at shape flat place (plane_point (pos row) (pos column))))

-- the image of a field of a layout with 2 axes: as high as the first axis, as wide as the second
abbrev pub image_text : Shape → FlatLayout → ℕ → (lo hi : ℤ) → List ℕ
image_text shape flat place lo hi =
    pgm_text (bounds_of_shape shape).b (bounds_of_shape shape).a (grey_at shape flat place lo hi)
