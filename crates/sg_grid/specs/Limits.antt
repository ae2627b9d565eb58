-- The limits of a grid text that is read.
use Rattle.std.specs.Prelude.{ℕ, ◌^◌}

-- the most bytes
abbrev pub most_grid_bytes : ℕ
most_grid_bytes = 2 ^ 24

-- the most rows
abbrev pub most_grid_rows : ℕ
most_grid_rows = 2 ^ 20
