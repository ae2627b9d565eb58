-- What a store keeps of a field at a coordinate, whatever it stands for.
use Rattle.std.specs.Prelude.{ℕ, Option, Some, None}
use Rattle.sg_coord.specs.declared.coord.Coord.{Coord}
use Rattle.sg_store.specs.StoreWords.{StoreWords, word_in}
use Rattle.sg_store.specs.Walks.{cell_in}
use Rattle.sg_grid.specs.declared.grid.GridRow.{GridRow}

-- the word in a cell; 0 if there is none
abbrev pub word_or_zero : StoreWords → ℕ → Option ℕ → ℕ
word_or_zero store place None = 0
word_or_zero store place (Some cell) = word_in store place cell

-- a coordinate with the word that the store keeps there
abbrev pub kept_row : StoreWords → ℕ → Coord → GridRow
kept_row store place at = record { at = at; word = word_or_zero store place (cell_in store at) }
