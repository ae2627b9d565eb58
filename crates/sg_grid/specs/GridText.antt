-- The text of a grid. In version 1 a line `grid AXES COUNT`, then a line for each row with the parts of its coordinate and its value. In
-- version 2 a line `grid2 AXES COUNT`, then a line for each run, which has the run's length before the value.
use Rattle.std.specs.Prelude.{◌≡◌, ℕ, ℤ, List, [], ◌∷◌, ◌++◌, length, if◌then◌else◌, nat_le, codes}
use Rattle.std.specs.List.{flat_map}
use Rattle.std.specs.Fmt.{decimal, signed_decimal}
use Rattle.sg_coord.specs.declared.coord.Coord.{Coord}
use Rattle.sg_words.specs.declared.operators.Ty.{Ty}
use Rattle.sg_words.specs.Words.{number}
use Rattle.sg_grid.specs.declared.grid.GridRow.{GridRow}
use Rattle.sg_grid.specs.declared.grid.GridRun.{GridRun}
use Rattle.sg_grid.specs.declared.grid.Version.{Version}
use Rattle.sg_grid.specs.declared.grid.Version.TheVariants.{One, Two}

-- a text goes on from another: that one stands at its front
abbrev pub GoesOn : List ℕ → List ℕ → Type 0
GoesOn old new = (more : List ℕ) × (new ≡ old ++ more)

-- a further part of a coordinate, after a space, where the axis is there
abbrev pub further_part : ℕ → Coord → ℤ → List ℕ
further_part axis at part = if nat_le axis at.n then 32 ∷ signed_decimal part else []

-- the parts of a coordinate with a space between them
abbrev pub coordinate_text : Coord → List ℕ
coordinate_text at = signed_decimal at.a ++ further_part 2 at at.b ++ further_part 3 at at.c

-- the line of a row: its coordinate, a space, the number that its word stands for in the field's type, a newline
abbrev pub row_text : Ty → GridRow → List ℕ
row_text type row = coordinate_text row.at ++ 32 ∷ signed_decimal (number type row.word) ++ 10 ∷ []

-- the lines of rows
abbrev pub rows_text : Ty → List GridRow → List ℕ
rows_text type rows = flat_map (row_text type) rows

-- the first line up to the number of rows
abbrev pub grid_head : ℕ → List ℕ
grid_head axes = codes "grid " ++ decimal axes ++ 32 ∷ []

-- the text of rows over so many axes
abbrev pub grid_text : ℕ → Ty → List GridRow → List ℕ
grid_text axes type rows = grid_head axes ++ decimal (length rows) ++ 10 ∷ rows_text type rows

-- ---- either version

-- the first line up to the number of lines
abbrev pub head_text : Version → ℕ → List ℕ
head_text One axes = grid_head axes
head_text Two axes = codes "grid2 " ++ decimal axes ++ 32 ∷ []

-- the length of a run after a space; in version 1 it isn't written
abbrev pub length_text : Version → ℕ → List ℕ
length_text One len = []
length_text Two len = 32 ∷ decimal len

-- the line of a run
abbrev pub line_text : Version → Ty → GridRun → List ℕ
line_text version type run =
    coordinate_text run.at ++ (length_text version run.len ++ (32 ∷ signed_decimal (number type run.word) ++ 10 ∷ []))

-- the lines of runs
abbrev pub lines_text : Version → Ty → List GridRun → List ℕ
lines_text version type runs = flat_map (line_text version type) runs

-- the text of runs over so many axes
abbrev pub text_of_runs : Version → ℕ → Ty → List GridRun → List ℕ
text_of_runs version axes type runs = head_text version axes ++ decimal (length runs) ++ 10 ∷ lines_text version type runs
