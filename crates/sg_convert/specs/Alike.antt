-- Layouts between which values can move.
use Rattle.std.specs.Prelude.{◌≡◌, ℕ, ◌<◌, Bool, true, false, ◌&&◌, ◌==◌, List, [], ◌∷◌, length, Some, slice_get}
use Rattle.sg_words.specs.declared.operators.Ty.{Ty}
use Rattle.sg_words.specs.declared.operators.Ty.TheVariants.{I32, U32, Bool as Truth}
use Rattle.sg_coord.specs.Bounds.{Bounds}
use Rattle.sg_layout.specs.declared.shape.Shape.{Shape}
use Rattle.sg_layout.specs.Axes.{bounds_of_shape}

-- as many axes, of the same extents, and the same types of fields
pub record AreAlike (one other : Shape) : Type 0 where
  pub bounds : bounds_of_shape one ≡ bounds_of_shape other
  pub fields : one.fields ≡ other.fields

-- of these layouts that of the second number is there, and alike to that of the first
pub record IsAlikeTo (shapes : List Shape) (number other : ℕ) : Type 0 where
  pub there : other < length shapes
  pub alike : (one two : Shape) → slice_get shapes number ≡ Some one → slice_get shapes other ≡ Some two → AreAlike one two

-- ── The test ──

abbrev pub same_bounds : Bounds → Bounds → Bool
same_bounds one other = (one.n == other.n) && ((one.a == other.a) && ((one.b == other.b) && (one.c == other.c)))

abbrev pub same_type : Ty → Ty → Bool
same_type I32 I32 = true
same_type U32 U32 = true
same_type Truth Truth = true
same_type _ _ = false

abbrev pub same_types : List Ty → List Ty → Bool
same_types [] [] = true
same_types [] (y ∷ ys) = false
same_types (x ∷ xs) [] = false
same_types (x ∷ xs) (y ∷ ys) = same_type x y && same_types xs ys

-- whether two layouts are alike
abbrev pub are_alike : Shape → Shape → Bool
are_alike one other = same_bounds (bounds_of_shape one) (bounds_of_shape other) && same_types one.fields other.fields
