-- Which bytes are a grid text of either version, and of which rows.
use Rattle.std.specs.Prelude.{◌≡◌, ℕ, ◌<◌, ◌≤◌, ◌^◌, Bool, ◌&&◌, ◌==◌, nat_le, nat_lt, IsTrue, List, [], ◌∷◌, length, Option, Some, None}
use Rattle.sg_coord.specs.declared.coord.Coord.{Coord}
use Rattle.sg_coord.specs.Bounds.{Bounds}
use Rattle.sg_coord.specs.Coord.{is_inside}
use Rattle.sg_words.specs.declared.operators.Ty.{Ty}
use Rattle.sg_grid.specs.declared.grid.GridRow.{GridRow}
use Rattle.sg_grid.specs.declared.grid.GridRun.{GridRun}
use Rattle.sg_grid.specs.declared.grid.Version.{Version}
use Rattle.sg_grid.specs.declared.grid.Version.TheVariants.{One, Two}
use Rattle.sg_grid.specs.Limits.{most_grid_bytes, most_grid_rows}
use Rattle.sg_grid.specs.Runs.{end_of, rows_of_runs}
use Rattle.sg_grid.specs.GridText.{grid_text, text_of_runs}
use Rattle.sg_grid.specs.Reading.{follows, is_run_inside}

-- ---- version 1

-- rows of words at coordinates inside, which rise strictly in row order, after a coordinate if there is one
abbrev pub AreRows : Bounds → Option Coord → List GridRow → Type 0
AreRows bounds last [] = Unit {0}
AreRows bounds last (row ∷ rows) =
    IsTrue (is_inside bounds row.at) × IsTrue (follows last row.at) × (row.word < 2 ^ 32) × AreRows bounds (Some row.at) rows

-- the bytes are the grid text of these rows, within the limits
pub record IsGridText (bounds : Bounds) (type : Ty) (rows : List GridRow) (bytes : List ℕ) : Type 0 where
  pub are_rows : AreRows bounds None rows
  pub few_rows : length rows ≤ most_grid_rows
  pub text : bytes ≡ grid_text bounds.n type rows
  pub few_bytes : length bytes ≤ most_grid_bytes

-- ---- runs, as lines of either version

-- the lengths that a line can say
abbrev pub is_length : Version → ℕ → Bool
is_length One len = len == 1
is_length Two len = nat_le 1 len && nat_lt len (2 ^ 31)

-- runs of words whose rows are inside and rise strictly in row order, after a coordinate if there is one
abbrev pub AreRuns : Version → Bounds → Option Coord → List GridRun → Type 0
AreRuns version bounds last [] = Unit {0}
AreRuns version bounds last (run ∷ runs) =
    IsTrue (is_length version run.len) × IsTrue (is_run_inside bounds run) × IsTrue (follows last run.at) × (run.word < 2 ^ 32)
    × AreRuns version bounds (Some (end_of run)) runs

-- the bytes are the text of these runs, within the limits
pub record IsTextOf (version : Version) (bounds : Bounds) (type : Ty) (runs : List GridRun) (bytes : List ℕ) : Type 0 where
  pub are_runs : AreRuns version bounds None runs
  pub few_rows : length (rows_of_runs runs) ≤ most_grid_rows
  pub text : bytes ≡ text_of_runs version bounds.n type runs
  pub few_bytes : length bytes ≤ most_grid_bytes

-- the bytes are a grid text of version 2 with these rows: of some runs that have them
abbrev pub IsRunText : Bounds → Ty → List GridRow → List ℕ → Type 0
IsRunText bounds type rows bytes = (runs : List GridRun) × (rows ≡ rows_of_runs runs) × IsTextOf Two bounds type runs bytes
