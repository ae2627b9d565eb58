-- Rows that are made one after the other.
use Rattle.std.specs.Prelude.{ℕ, zero, suc, List, [], ◌∷◌, replicate, slice_index_or}

-- those at so many places from one on: the row that stands there, and past the last one zeros for so many cells
abbrev pub rows_from : List (List ℕ) → ℕ → ℕ → ℕ → List (List ℕ)
rows_from rows cells place zero = []
rows_from rows cells place (suc more) = slice_index_or rows place (replicate cells 0) ∷ rows_from rows cells (suc place) more
