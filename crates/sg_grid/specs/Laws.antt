-- Reading and writing are inverse to each other, and a fault is the first.
use Rattle.std.specs.Prelude.{◌≡◌, ◌↔◌, ◌⊎◌, ℕ, ◌≤◌, List, length, Option, None, Ok, Err}
use Rattle.sg_coord.specs.declared.coord.Coord.{Coord}
use Rattle.sg_coord.specs.Bounds.{Bounds, IsBounds}
use Rattle.sg_words.specs.declared.operators.Ty.{Ty}
use Rattle.sg_layout.specs.declared.shape.Shape.{Shape}
use Rattle.sg_layout.specs.Axes.{bounds_of_shape}
use Rattle.sg_flat.specs.declared.state.FlatLayout.{FlatLayout}
use Rattle.sg_flat.specs.State.{IsFlatLayout}
use Rattle.sg_grid.specs.declared.grid.GridRow.{GridRow}
use Rattle.sg_grid.specs.declared.grid.GridRun.{GridRun}
use Rattle.sg_grid.specs.declared.grid.GridFault.{GridFault}
use Rattle.sg_grid.specs.declared.grid.Version.{Version}
use Rattle.sg_grid.specs.Limits.{most_grid_bytes, most_grid_rows}
use Rattle.sg_grid.specs.Runs.{rows_of_runs}
use Rattle.sg_grid.specs.GridText.{grid_text}
use Rattle.sg_grid.specs.Reading.{rows_of}
use Rattle.sg_grid.specs.Accepted.{AreRows, AreRuns, IsGridText, IsRunText}
use Rattle.sg_grid.specs.Faults.{IsGridFault}
use Rattle.sg_grid.specs.Dump.{field_rows, field_type, dump_text}

-- exactly the grid texts of both versions are read, each with its rows
abbrev pub AcceptsGridTexts : Bounds → Ty → Type 0
AcceptsGridTexts bounds type =
    (rows : List GridRow) (bytes : List ℕ) → (rows_of bounds type bytes ≡ Ok rows) ↔ (IsGridText bounds type rows bytes ⊎ IsRunText bounds type rows bytes)

-- The rows of runs are inside, and they rise strictly in row order, also within a run: of a run's rows its first and its last are asked alone.
abbrev pub RunsAreRows : Version → Bounds → Type 0
RunsAreRows version bounds =
    (last : Option Coord) (runs : List GridRun) → AreRuns version bounds last runs → AreRows bounds last (rows_of_runs runs)

-- the rows of a text that is read, of either version, are inside and rise strictly in row order
abbrev pub ReadsRows : Bounds → Ty → Type 0
ReadsRows bounds type = (rows : List GridRow) (bytes : List ℕ) → rows_of bounds type bytes ≡ Ok rows → AreRows bounds None rows

-- reading the text of rows gives the rows again
abbrev pub ReadsWritten : Bounds → Ty → Type 0
ReadsWritten bounds type = (rows : List GridRow) → AreRows bounds None rows → length rows ≤ most_grid_rows
    → length (grid_text bounds.n type rows) ≤ most_grid_bytes → rows_of bounds type (grid_text bounds.n type rows) ≡ Ok rows

-- reading a dump of a field of a layout gives its rows again
abbrev pub ReadsDump : Shape → Type 0
ReadsDump shape =
    IsBounds (bounds_of_shape shape) → (flat : FlatLayout) → IsFlatLayout shape flat → (place : ℕ) → length flat.active ≤ most_grid_rows
    → length (dump_text shape flat place) ≤ most_grid_bytes
    → rows_of (bounds_of_shape shape) (field_type shape place) (dump_text shape flat place) ≡ Ok (field_rows shape flat place)

-- a text that is refused has the fault, and all before it is well
abbrev pub FaultsAreFirst : Bounds → Ty → Type 0
FaultsAreFirst bounds type = (bytes : List ℕ) (found : GridFault) → rows_of bounds type bytes ≡ Err found → IsGridFault bounds type bytes found
