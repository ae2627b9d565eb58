-- What the bytes of a journal are: the texts of its lines, and what each of them says.
use Rattle.std.specs.Prelude.{ℕ, ◌-◌, ◌+◌, ◌*◌, ◌^◌, Bool, true, false, not, ◌&&◌, ◌||◌, ◌==◌, nat_eq, nat_lt, if◌then◌else◌, List, [], ◌∷◌, length, drop, map, slice_index, fold, take_while, Option, Some, None, codes}
use Rattle.std.specs.List.{starts_with}
use Rattle.std.specs.Str.{bytes_eq}
use Rattle.std.specs.Char.{is_ascii_digit}
use Rattle.sg_words.specs.Options.{◌>>=◌, only_if}
use Rattle.sg_journal.specs.declared.lines.Line.{Line}
use Rattle.sg_journal.specs.declared.lines.Line.TheVariants.{Take, Free}
use Rattle.sg_journal.specs.Lines.{link, end_line}
use Rattle.sg_audit.specs.declared.reading.Entry.{Entry}
use Rattle.sg_audit.specs.declared.reading.Entry.TheVariants.{Written, End, Bad}
use Rattle.sg_audit.specs.declared.reading.Numbered.{Numbered}

-- ---- the texts of lines, each with its newline, if it has one: what stands behind the last newline has none

abbrev pub before_first : ℕ → List (List ℕ) → List (List ℕ)
before_first byte [] = (byte ∷ []) ∷ []
before_first byte (text ∷ later) = (byte ∷ text) ∷ later

abbrev pub texts_of : List ℕ → List (List ℕ)
texts_of [] = []
texts_of (byte ∷ bytes) = if byte == 10 then (byte ∷ []) ∷ texts_of bytes else before_first byte (texts_of bytes)

-- ---- numbers at the front of a text. What a stage finds stands with the bytes behind it.

abbrev pub AtFront : Type 0 → Type 0
AtFront A = Option (A × List ℕ)

-- what stands behind this text, where the bytes begin with it
unfoldable pub rest_after : List ℕ → List ℕ → Option (List ℕ)
rest_after text bytes = only_if (starts_with nat_eq bytes text) (Some (drop (length text) bytes))

-- the number that digits spell
abbrev pub number_of_digits : List ℕ → ℕ
number_of_digits digits = fold (λ v d. 10 * v + (d - 48)) 0 digits

-- digits are a numeral below 2 ^ 32: `0`, or some without a leading zero
abbrev pub is_numeral : List ℕ → Bool
is_numeral digits =
    nat_lt 0 (length digits)
    && ((length digits == 1 || not (slice_index digits 0 == 48)) && nat_lt (number_of_digits digits) (2 ^ 32))

-- the number of a numeral
unfoldable pub numeral_at : List ℕ → AtFront ℕ
numeral_at bytes =
    let digits = take_while is_ascii_digit bytes in
    only_if (is_numeral digits) (Some (number_of_digits digits, drop (length digits) bytes))

-- a number with a space before it
unfoldable pub number_at : List ℕ → AtFront ℕ
number_at bytes = rest_after (codes " ") bytes >>= numeral_at

-- ---- lines

-- the layout, the node and the number with which each line begins
unfoldable pub numbered_at : List ℕ → AtFront Numbered
numbered_at bytes = do
  layout ← number_at bytes
  node ← number_at layout.1
  number ← number_at node.1
  Some (record { layout = layout.0; node = node.0; number = number.0 }, number.1)

-- a take behind its first word, to its newline
unfoldable pub take_at : List ℕ → Option Line
take_at bytes = do
  named ← numbered_at bytes
  parent ← number_at named.1
  slot ← number_at parent.1
  only_if (bytes_eq slot.1 (codes "\n")) (Some (Take (link named.0.layout named.0.node named.0.number parent.0 slot.0)))

-- a free behind its first word, to its newline
unfoldable pub free_at : List ℕ → Option Line
free_at bytes = do
  named ← numbered_at bytes
  only_if (bytes_eq named.1 (codes "\n")) (Some (Free named.0.layout named.0.node named.0.number))

abbrev pub written_or_bad : Option Line → Entry
written_or_bad None = Bad
written_or_bad (Some line) = Written line

-- by what stands behind `take` and behind `free`, and whether it is the end
abbrev pub entry_by : Option (List ℕ) → Option (List ℕ) → Bool → Entry
entry_by (Some rest) freed end = written_or_bad (take_at rest)
entry_by None (Some rest) end = written_or_bad (free_at rest)
entry_by None None true = End
entry_by None None false = Bad

-- what the text of a line says
abbrev pub entry_of : List ℕ → Entry
entry_of text = entry_by (rest_after (codes "take") text) (rest_after (codes "free") text) (bytes_eq text end_line)

-- what bytes say, line by line
abbrev pub entries_of : List ℕ → List Entry
entries_of bytes = map entry_of (texts_of bytes)
