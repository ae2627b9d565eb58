-- What stands at the front of the bytes of a grid text: stages, each of which finds something and leaves what comes after it.
-- The code has the same stages over slices.
use Rattle.std.specs.Prelude.{ℕ, zero, suc, ◌-◌, ◌+◌, ◌*◌, ◌^◌, min, Bool, not, ◌&&◌, ◌||◌, ◌==◌, nat_eq, nat_lt, nat_le, if◌then◌else◌, ℤ, pos, negsuc, int_le, int_lt, List, length, drop, slice_index, fold, take_while, Option, Some, None, codes}
use Rattle.std.specs.List.{starts_with}
use Rattle.std.specs.Char.{is_ascii_digit}
use Rattle.sg_coord.specs.declared.coord.Coord.{Coord}
use Rattle.sg_words.specs.Options.{◌>>=◌, only_if}
use Rattle.sg_words.specs.declared.operators.Ty.{Ty}
use Rattle.sg_words.specs.declared.operators.Ty.TheVariants as ty
use Rattle.sg_words.specs.Words.{word_of}
use Rattle.sg_coord.specs.Coord.{count_of}
use Rattle.sg_grid.specs.declared.grid.GridRun.{GridRun}
use Rattle.sg_grid.specs.declared.grid.Version.{Version}
use Rattle.sg_grid.specs.declared.grid.Version.TheVariants.{One, Two}
use Rattle.sg_grid.specs.GridText.{head_text}

-- what a stage finds, with the bytes after it
abbrev pub AtFront : Type 0 → Type 0
AtFront A = Option (A × List ℕ)

-- ---- numbers

-- what stands after this text, where the bytes begin with it
unfoldable pub rest_after : List ℕ → List ℕ → Option (List ℕ)
rest_after text bytes = only_if (starts_with nat_eq bytes text) (Some (drop (length text) bytes))

-- the number that digits spell
abbrev pub number_of_digits : List ℕ → ℕ
number_of_digits digits = fold (λ v d. 10 * v + (d - 48)) 0 digits

-- digits are a numeral: `0`, or some without a leading zero
abbrev pub is_numeral : List ℕ → Bool
is_numeral digits = nat_lt 0 (length digits) && (length digits == 1 || not (slice_index digits 0 == 48))

-- A number without a sign, of any number of digits. One past 2 ^ 32 counts as 2 ^ 32: in a grid text every number is smaller.
unfoldable pub count_at : List ℕ → AtFront ℕ
count_at bytes =
    let digits = take_while is_ascii_digit bytes in
    only_if (is_numeral digits) (Some (min (number_of_digits digits) (2 ^ 32), drop (length digits) bytes))

-- the negative of a number other than 0
abbrev pub negative : ℕ → List ℕ → AtFront ℤ
negative zero rest = None
negative (suc k) rest = Some (negsuc k, rest)

-- a number after `-`, if that stands there, or else one without a sign
abbrev pub signed_at : List ℕ → Option (List ℕ) → AtFront ℤ
signed_at bytes None = count_at bytes >>= (λ c. Some (pos c.0, c.1))
signed_at bytes (Some rest) = count_at rest >>= (λ c. negative c.0 c.1)

-- a number
unfoldable pub number_at : List ℕ → AtFront ℤ
number_at bytes = signed_at bytes (rest_after (codes "-") bytes)

-- a number that words of the type stand for
abbrev pub is_of_type : Ty → ℤ → Bool
is_of_type ty.I32 z = int_le (negsuc 2147483647) z && int_lt z (pos (2 ^ 31))
is_of_type ty.U32 z = int_le (pos 0) z && int_lt z (pos (2 ^ 32))
is_of_type ty.Bool z = int_le (pos 0) z && int_lt z (pos (2 ^ 32))

-- a number of the type, with this text after it
unfoldable pub number_before : Ty → List ℕ → List ℕ → AtFront ℤ
number_before type text bytes = do
  z ← number_at bytes
  rest ← rest_after text z.1
  only_if (is_of_type type z.0) (Some (z.0, rest))

-- ---- lines

-- a part of a coordinate, with a space after it
abbrev pub coordinate_part_at : List ℕ → AtFront ℤ
coordinate_part_at bytes = number_before ty.I32 (codes " ") bytes

-- the part of a further axis, or 0 if there are fewer axes
unfoldable pub further_part_at : ℕ → ℕ → List ℕ → AtFront ℤ
further_part_at axis n bytes = if nat_le axis n then coordinate_part_at bytes else Some (pos 0, bytes)

-- a coordinate of n axes, with a space after each part
unfoldable pub coordinate_at : ℕ → List ℕ → AtFront Coord
coordinate_at n bytes = do
  a ← coordinate_part_at bytes
  b ← further_part_at 2 n a.1
  c ← further_part_at 3 n b.1
  Some (record { n = n; a = a.0; b = b.0; c = c.0 }, c.1)

-- the length of a line's run: in version 1 it is 1, in version 2 it stands there, with a space after it
unfoldable pub length_at : Version → List ℕ → AtFront ℕ
length_at One bytes = Some (1, bytes)
length_at Two bytes = number_before ty.I32 (codes " ") bytes >>= (λ z. only_if (int_le (pos 1) z.0) (Some (count_of z.0, z.1)))

-- a whole line: a coordinate, the length of a run and a value of the field's type
unfoldable pub line_at : Version → ℕ → Ty → List ℕ → AtFront GridRun
line_at version n type bytes = do
  at ← coordinate_at n bytes
  len ← length_at version at.1
  value ← number_before type (codes "\n") len.1
  Some (record { at = at.0; len = len.0; word = word_of value.0 }, value.1)

-- the number of lines in the first line
unfoldable pub head_at : Version → ℕ → List ℕ → AtFront ℕ
head_at version axes bytes = do
  counted ← rest_after (head_text version axes) bytes
  count ← count_at counted
  rest ← rest_after (codes "\n") count.1
  Some (count.0, rest)
