-- What a fault of a text that is no grid text says: all before it is well, and it is there.
use Rattle.std.specs.Prelude.{◌≡◌, ◌≢◌, ◌⊎◌, ℕ, ◌+◌, ◌^◌, ◌<◌, ◌≤◌, true, false, IsTrue, pos, List, [], ◌∷◌, ◌++◌, length}
use Rattle.std.specs.Char.{is_ascii_digit}
use Rattle.std.specs.List.{list_all}
use Rattle.sg_coord.specs.Bounds.{Bounds}
use Rattle.sg_words.specs.declared.operators.Ty.{Ty}
use Rattle.sg_words.specs.declared.operators.Ty.TheVariants as ty
use Rattle.sg_grid.specs.declared.grid.GridRun.{GridRun}
use Rattle.sg_grid.specs.declared.grid.LineStart.{LineStart}
use Rattle.sg_grid.specs.declared.grid.GridFault.{GridFault}
use Rattle.sg_grid.specs.declared.grid.GridFault.TheVariants as fault
use Rattle.sg_grid.specs.declared.grid.Version.{Version}
use Rattle.sg_grid.specs.declared.grid.Version.TheVariants.{One, Two}
use Rattle.sg_grid.specs.Limits.{most_grid_bytes, most_grid_rows}
use Rattle.sg_grid.specs.Runs.{rows_of_runs}
use Rattle.sg_grid.specs.GridText.{head_text, line_text, lines_text}
use Rattle.sg_grid.specs.Fronts.{number_of_digits, is_numeral, is_of_type}
use Rattle.sg_grid.specs.Reading.{is_run_inside, follows, first_start, after_run}
use Rattle.sg_grid.specs.Accepted.{is_length, AreRuns}

-- the bytes begin with the line of a run over so many axes, wherever its coordinate is: its parts are numbers of I32, and 0 if there are
-- fewer axes
pub record BeginWithRun (version : Version) (n : ℕ) (type : Ty) (bytes : List ℕ) (run : GridRun) (rest : List ℕ) : Type 0 where
  pub axes : run.at.n ≡ n
  pub a : IsTrue (is_of_type ty.I32 run.at.a)
  pub b : IsTrue (is_of_type ty.I32 run.at.b)
  pub c : IsTrue (is_of_type ty.I32 run.at.c)
  pub b_unused : n < 2 → run.at.b ≡ pos 0
  pub c_unused : n < 3 → run.at.c ≡ pos 0
  pub len : IsTrue (is_length version run.len)
  pub word : run.word < 2 ^ 32
  pub text : bytes ≡ line_text version type run ++ rest

-- The fault of the line at the front of the bytes, which starts here: no run stands there; or not all of its rows are inside; or they are, and
-- the first doesn't come after the last row; or it does, and there are too many rows with them.
abbrev pub IsLineFault : Version → Bounds → Ty → LineStart → List ℕ → GridFault → Type 0
IsLineFault version bounds type start bytes (fault.BadText at) =
    (at ≡ start.line) × ((run : GridRun) (rest : List ℕ) → BeginWithRun version bounds.n type bytes run rest → ⊥)
IsLineFault version bounds type start bytes (fault.Outside at) =
    (at ≡ start.line) × ((run : GridRun) × (rest : List ℕ) × BeginWithRun version bounds.n type bytes run rest × (is_run_inside bounds run ≡ false))
IsLineFault version bounds type start bytes (fault.NotRising at) =
    (at ≡ start.line)
    × ((run : GridRun) × (rest : List ℕ) × BeginWithRun version bounds.n type bytes run rest × (is_run_inside bounds run ≡ true) × (follows start.last run.at ≡ false))
IsLineFault version bounds type start bytes fault.TooManyRows =
    (run : GridRun) × (rest : List ℕ) × BeginWithRun version bounds.n type bytes run rest × (is_run_inside bounds run ≡ true) × (follows start.last run.at ≡ true)
    × (most_grid_rows < start.rows + run.len)
IsLineFault version bounds type start bytes fault.TooManyBytes = ⊥

-- where the line after these runs starts
abbrev pub after_runs : LineStart → List GridRun → LineStart
after_runs start [] = start
after_runs start (run ∷ runs) = after_runs (after_run start run) runs

-- the first fault of so many lines, which are all that is left: runs without a fault, and after them a line with one, or further bytes
pub record IsFaultBelow (version : Version) (bounds : Bounds) (type : Ty) (count : ℕ) (start : LineStart) (bytes : List ℕ) (found : GridFault) : Type 0 where
  pub runs : List GridRun
  pub rest : List ℕ
  pub are_runs : AreRuns version bounds start.last runs
  pub few_rows : start.rows + length (rows_of_runs runs) ≤ most_grid_rows
  pub text : bytes ≡ lines_text version type runs ++ rest
  pub here : ((length runs < count) × IsLineFault version bounds type (after_runs start runs) rest found)
      ⊎ ((length runs ≡ count) × (rest ≢ []) × (found ≡ fault.BadText (after_runs start runs).line))

-- digits of the number in a first line
pub record HasHead (version : Version) (axes : ℕ) (bytes digits rest : List ℕ) : Type 0 where
  pub all_digits : list_all is_ascii_digit digits ≡ true
  pub numeral : is_numeral digits ≡ true
  pub text : bytes ≡ head_text version axes ++ (digits ++ 10 ∷ rest)

-- the bytes have no first line of this version
abbrev pub HasNoHead : Version → ℕ → List ℕ → Type 0
HasNoHead version axes bytes = (digits rest : List ℕ) → HasHead version axes bytes digits rest → ⊥

-- the fault under a first line of this version: too large a number in it, or the first fault below it
abbrev pub IsFaultUnder : Version → Bounds → Ty → List ℕ → GridFault → Type 0
IsFaultUnder version bounds type bytes found =
    (digits : List ℕ) × (rest : List ℕ) × HasHead version bounds.n bytes digits rest
    × (((found ≡ fault.TooManyRows) × (most_grid_rows < number_of_digits digits))
    ⊎ ((number_of_digits digits ≤ most_grid_rows) × IsFaultBelow version bounds type (number_of_digits digits) first_start rest found))

-- the fault of bytes that are few enough: no first line of either version, or the fault under the one that is there
abbrev pub IsFaultInside : Bounds → Ty → List ℕ → GridFault → Type 0
IsFaultInside bounds type bytes found =
    ((found ≡ fault.BadText 1) × HasNoHead One bounds.n bytes × HasNoHead Two bounds.n bytes)
    ⊎ (IsFaultUnder One bounds type bytes found ⊎ IsFaultUnder Two bounds type bytes found)

-- the fault of a text that is no grid text
abbrev pub IsGridFault : Bounds → Ty → List ℕ → GridFault → Type 0
IsGridFault bounds type bytes found =
    ((most_grid_bytes < length bytes) × (found ≡ fault.TooManyBytes)) ⊎ ((length bytes ≤ most_grid_bytes) × IsFaultInside bounds type bytes found)
