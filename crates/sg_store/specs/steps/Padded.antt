-- Rows that end before their last cells, which are 0.
use Rattle.std.specs.Prelude.{ℕ, ◌-◌, List, ◌++◌, length, replicate}
use Rattle.sg_store.specs.declared.field_row.Words.{Words}
use Rattle.sg_store.specs.declared.field_row.Words.TheVariants.{Lent, Made}

-- words, and then zeros up to so many cells
abbrev pub padded : List ℕ → ℕ → List ℕ
padded words cells = words ++ replicate (cells - length words) 0

-- words that are lent or made
abbrev pub words_of : Words → List ℕ
words_of (Lent words) = words.now
words_of (Made words) = words
