-- What is there once each point, by its row number, was asked for its cell.
use Rattle.std.specs.Prelude.{ℕ, zero, suc, List, [], ◌∷◌, ◌++◌, Option, Some, None}

-- a row, if there is a cell
abbrev pub row_if : Option ℕ → ℕ → List ℕ
row_if None row = []
row_if (Some cell) row = row ∷ []

-- the cell, if there is one
abbrev pub cell_if : Option ℕ → List ℕ
cell_if None = []
cell_if (Some cell) = cell ∷ []

-- the rows below a number that have cells
abbrev pub rows_with : (ℕ → Option ℕ) → ℕ → List ℕ
rows_with cell_of zero = []
rows_with cell_of (suc row) = rows_with cell_of row ++ row_if (cell_of row) row

-- the cells of the rows below a number
abbrev pub cells_with : (ℕ → Option ℕ) → ℕ → List ℕ
cells_with cell_of zero = []
cells_with cell_of (suc row) = cells_with cell_of row ++ cell_if (cell_of row)
