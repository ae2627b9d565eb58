-- What a store keeps of a field at a coordinate, and the grey of it, whatever the store stands for.
use Rattle.std.specs.Prelude.{ℕ, ℤ, pos, Option, Some, None}
use Rattle.sg_coord.specs.declared.coord.Coord.{Coord}
use Rattle.sg_coord.specs.Coord.{plane_point}
use Rattle.sg_words.specs.declared.operators.Ty.{Ty}
use Rattle.sg_words.specs.Words.{number}
use Rattle.sg_store.specs.StoreWords.{StoreWords, word_in}
use Rattle.sg_store.specs.Walks.{cell_in}
use Rattle.sg_image.specs.Grey.{grey_of}

-- the word in a cell; 0 if there is none
abbrev pub word_or_zero : StoreWords → ℕ → Option ℕ → ℕ
word_or_zero store place None = 0
word_or_zero store place (Some cell) = word_in store place cell

-- the word at a coordinate
abbrev pub kept_word : StoreWords → ℕ → Coord → ℕ
kept_word store place at = word_or_zero store place (cell_in store at)

-- the grey in a row and a column
abbrev pub kept_grey : StoreWords → ℕ → Ty → (lo hi : ℤ) → (row column : ℕ) → ℕ
kept_grey store place type lo hi row column = grey_of lo hi (number type (kept_word store place (plane_point (pos row) (pos column))))
