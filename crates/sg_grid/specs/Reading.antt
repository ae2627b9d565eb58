-- The rows of a grid text, or its first fault. The code has a loop over the lines instead of the recursion.
use Rattle.std.specs.Prelude.{ℕ, zero, suc, ◌+◌, Bool, true, ◌&&◌, nat_lt, IsTrue, if◌then◌else◌, List, [], ◌∷◌, length, Option, Some, None, Result, Ok, Err}
use Rattle.sg_coord.specs.declared.coord.Coord.{Coord}
use Rattle.sg_coord.specs.Bounds.{Bounds}
use Rattle.sg_coord.specs.Coord.{is_inside, comes_before}
use Rattle.sg_words.specs.Results.{◌>>=◌}
use Rattle.sg_words.specs.declared.operators.Ty.{Ty}
use Rattle.sg_grid.specs.declared.grid.GridRow.{GridRow}
use Rattle.sg_grid.specs.declared.grid.GridRun.{GridRun}
use Rattle.sg_grid.specs.declared.grid.LineStart.{LineStart}
use Rattle.sg_grid.specs.declared.grid.GridFault.{GridFault}
use Rattle.sg_grid.specs.declared.grid.GridFault.TheVariants as fault
use Rattle.sg_grid.specs.declared.grid.Version.{Version}
use Rattle.sg_grid.specs.declared.grid.Version.TheVariants.{One, Two}
use Rattle.sg_grid.specs.Limits.{most_grid_bytes, most_grid_rows}
use Rattle.sg_grid.specs.Runs.{end_of, rows_of_runs}
use Rattle.sg_grid.specs.Fronts.{AtFront, line_at, head_at}

-- ---- one line

-- all rows of a run are inside: the first and the last
abbrev pub is_run_inside : Bounds → GridRun → Bool
is_run_inside bounds run = is_inside bounds run.at && is_inside bounds (end_of run)

-- the same as a statement
abbrev pub IsRunInside : Bounds → GridRun → Type 0
IsRunInside bounds run = IsTrue (is_run_inside bounds run)

-- a coordinate comes after the last one of the line before, if there is one
abbrev pub follows : Option Coord → Coord → Bool
follows None at = true
follows (Some last) at = comes_before last at

-- the tests of a line, in their order
abbrev pub run_tested : Bounds → LineStart → AtFront GridRun → Result (GridRun × List ℕ) GridFault
run_tested bounds start None = Err (fault.BadText start.line)
run_tested bounds start (Some r) =
    if is_run_inside bounds r.0
    then (if follows start.last r.0.at then (if nat_lt most_grid_rows (start.rows + r.0.len) then Err fault.TooManyRows else Ok r) else Err (fault.NotRising start.line))
    else Err (fault.Outside start.line)

-- the run of a line that starts here, or the line's fault
unfoldable pub run_in : Version → Bounds → Ty → LineStart → List ℕ → Result (GridRun × List ℕ) GridFault
run_in version bounds type start bytes = run_tested bounds start (line_at version bounds.n type bytes)

-- ---- the whole

-- where the first line below the first one starts
abbrev pub first_start : LineStart
first_start = record { line = 2; rows = 0; last = None }

-- where the line after a run starts
abbrev pub after_run : LineStart → GridRun → LineStart
after_run start run = record { line = start.line + 1; rows = start.rows + run.len; last = Some (end_of run) }

-- The runs of so many lines, of which the first starts here. A missing line is one that has no run; bytes after the last line are a fault of
-- the line that would follow.
abbrev pub runs_from : Version → Bounds → Ty → (count : ℕ) → LineStart → List ℕ → Result (List GridRun) GridFault
runs_from version bounds type zero start [] = Ok []
runs_from version bounds type zero start (b ∷ bytes) = Err (fault.BadText start.line)
runs_from version bounds type (suc count) start bytes = do
  run ← run_in version bounds type start bytes
  runs ← runs_from version bounds type count (after_run start run.0) run.1
  Ok (run.0 ∷ runs)

-- the runs below a first line
abbrev pub runs_below : Version → Bounds → Ty → ℕ × List ℕ → Result (List GridRun) GridFault
runs_below version bounds type head =
    if nat_lt most_grid_rows head.0 then Err fault.TooManyRows else runs_from version bounds type head.0 first_start head.1

-- the runs below a first line of version 1, or else of version 2
abbrev pub runs_below_either : Bounds → Ty → AtFront ℕ → AtFront ℕ → Result (List GridRun) GridFault
runs_below_either bounds type (Some first) second = runs_below One bounds type first
runs_below_either bounds type None (Some second) = runs_below Two bounds type second
runs_below_either bounds type None None = Err (fault.BadText 1)

-- the runs of a grid text of either version, or its first fault
unfoldable pub runs_of : Bounds → Ty → List ℕ → Result (List GridRun) GridFault
runs_of bounds type bytes =
    if nat_lt most_grid_bytes (length bytes) then Err fault.TooManyBytes
    else runs_below_either bounds type (head_at One bounds.n bytes) (head_at Two bounds.n bytes)

-- the rows of a grid text of either version, or its first fault
unfoldable pub rows_of : Bounds → Ty → List ℕ → Result (List GridRow) GridFault
rows_of bounds type bytes = do
  runs ← runs_of bounds type bytes
  Ok (rows_of_runs runs)
