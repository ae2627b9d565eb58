-- Runs against rows: how many rows runs have, and runs of one row each, as lines of version 1 are.
use Rattle.std.proofs.Common.{◌≡◌, ℕ, ◌+◌, ◌-◌, ◌≤◌, Bool, true, false, nat_le, if◌then◌else◌, List, [], ◌∷◌, ◌++◌, length, map, decimal, Option, Some, None, ℤ, pos, negsuc, ◌+ℤ◌, refl, sym, ap, ◌∙◌, subst, arith, append_assoc}
use Rattle.std.specs.List.{range_with_len}
use Rattle.std.proofs.lemmas.Bool.{and_parts, and_from, eqb-true}
use Rattle.std.proofs.lemmas.Int.{ints}
use Rattle.std.proofs.lemmas.List.{length-append, length-map}
use Rattle.std.proofs.lemmas.List.FromFn.{length-map-range_with_len}
use Rattle.sg_words.specs.declared.operators.Ty.{Ty}
use Rattle.sg_coord.specs.declared.coord.Coord.{Coord}
use Rattle.sg_coord.specs.Bounds.{Bounds}
use Rattle.sg_coord.specs.Coord.{is_inside}
use Rattle.sg_coord.proofs.Uses.{same_parts}
use Rattle.sg_grid.specs.declared.grid.GridRow.{GridRow}
use Rattle.sg_grid.specs.declared.grid.GridRun.{GridRun}
use Rattle.sg_grid.specs.declared.grid.Version.{Version}
use Rattle.sg_grid.specs.declared.grid.Version.TheVariants.{One}
use Rattle.sg_grid.specs.Runs.{along, end_of, run_rows, rows_of_runs}
use Rattle.sg_grid.specs.GridText.{grid_head, row_text, rows_text, line_text, lines_text}
use Rattle.sg_grid.specs.Accepted.{AreRows, IsGridText, AreRuns, IsTextOf}
use Rattle.sg_grid.proofs.Rows.{length_some}

-- ---- how many rows

pub length_rows_of_runs : (run : GridRun) (runs : List GridRun) → length (rows_of_runs (run ∷ runs)) ≡ run.len + length (rows_of_runs runs)
length_rows_of_runs run runs =
    length-append (run_rows run) (rows_of_runs runs)
    ∙ ap (λ (k : ℕ). k + length (rows_of_runs runs)) (length-map-range_with_len (λ k. let row : GridRow = record { at = along k run.at; word = run.word } in row) 0 run.len)

-- there are no more runs than rows
pub fewer_runs : (version : Version) (bounds : Bounds) (last : Option Coord) (runs : List GridRun) → AreRuns version bounds last runs → length runs ≤ length (rows_of_runs runs)
fewer_runs version bounds last [] are = omega arith
fewer_runs version bounds last (run ∷ runs) are =
    omega (arith, length_rows_of_runs run runs, length_some version run.len are.0, fewer_runs version bounds (Some (end_of run)) runs are.4)

-- ---- runs of one row

-- a row as a run
abbrev pub single : GridRow → GridRun
single row = record { at = row.at; len = 1; word = row.word }

abbrev pub singles : List GridRow → List GridRun
singles rows = map single rows

-- the first row of a run
abbrev row_of_run : GridRun → GridRow
row_of_run run = record { at = run.at; word = run.word }

no_further : (z : ℤ) → z +ℤ pos 0 ≡ z
no_further (pos k) = ap pos (let same : k + 0 ≡ k = omega arith in same)
no_further (negsuc k) = omega (arith, ints)

pub along_none : (at : Coord) → along 0 at ≡ at
along_none at = by_case (nat_le 3 at.n) (nat_le 2 at.n) where
  by_case : (three two : Bool) → (if three then record { n = at.n; a = at.a; b = at.b; c = at.c +ℤ pos 0 }
      else (if two then record { n = at.n; a = at.a; b = at.b +ℤ pos 0; c = at.c } else record { n = at.n; a = at.a +ℤ pos 0; b = at.b; c = at.c })) ≡ at
  by_case true two = same_parts _ at refl refl refl (no_further at.c)
  by_case false true = same_parts _ at refl refl (no_further at.b) refl
  by_case false false = same_parts _ at refl (no_further at.a) refl refl

end_of_one : (run : GridRun) → run.len ≡ 1 → end_of run ≡ run.at
end_of_one run one = ap (λ (n : ℕ). along (n - 1) run.at) one ∙ along_none run.at

abbrev made : Coord → ℕ → GridRow
made at word = record { at = at; word = word }

rows_of_one : (run : GridRun) → run.len ≡ 1 → run_rows run ≡ row_of_run run ∷ []
rows_of_one run one =
    ap (λ (n : ℕ). map (λ k. made (along k run.at) run.word) (range_with_len 0 n)) one
    ∙ ap (λ (at : Coord). made at run.word ∷ []) (along_none run.at)

line_of_one : (type : Ty) (run : GridRun) → line_text One type run ≡ row_text type (row_of_run run)
line_of_one type run = simp append_assoc

-- ---- from runs to rows

-- what is said of rows that runs of one row are
record AreSingles (bounds : Bounds) (type : Ty) (last : Option Coord) (runs : List GridRun) (rows : List GridRow) : Type 0 where
  are_rows : AreRows bounds last rows
  many : length rows ≡ length runs
  text : rows_text type rows ≡ lines_text One type runs

are_singles : (bounds : Bounds) (type : Ty) (last : Option Coord) (runs : List GridRun) → AreRuns One bounds last runs → AreSingles bounds type last runs (rows_of_runs runs)
are_singles bounds type last [] are = record { are_rows = tt; many = refl; text = refl }
are_singles bounds type last (run ∷ runs) are =
    let one : run.len ≡ 1 = eqb-true run.len 1 are.0 in
    let below = are_singles bounds type (Some (end_of run)) runs are.4 in
    let P : Coord → Type 0 = λ at. AreRows bounds (Some at) (rows_of_runs runs) in
    let rest : AreRows bounds (Some run.at) (rows_of_runs runs) = subst P (end_of_one run one) below.are_rows in
    let inside : is_inside bounds run.at ≡ true = (and_parts (is_inside bounds run.at) (is_inside bounds (end_of run)) are.1).0 in
    let here : row_of_run run ∷ rows_of_runs runs ≡ run_rows run ++ rows_of_runs runs = ap (λ (list : List GridRow). list ++ rows_of_runs runs) (sym (rows_of_one run one)) in
    subst (AreSingles bounds type last (run ∷ runs)) here (record {
      are_rows = (inside, are.2, are.3, rest);
      many = omega (arith, below.many);
      text = ap (λ (list : List ℕ). list ++ rows_text type (rows_of_runs runs)) (sym (line_of_one type run)) ∙ ap (λ (list : List ℕ). line_text One type run ++ list) below.text;
    })

pub rows_from_runs : (bounds : Bounds) (type : Ty) (runs : List GridRun) (bytes : List ℕ) → IsTextOf One bounds type runs bytes → IsGridText bounds type (rows_of_runs runs) bytes
rows_from_runs bounds type runs bytes is =
    let rows = are_singles bounds type None runs is.are_runs in
    record {
      are_rows = rows.are_rows;
      few_rows = is.few_rows;
      text = is.text ∙ ap (λ (k : ℕ). grid_head bounds.n ++ decimal k ++ 10 ∷ lines_text One type runs) (sym rows.many)
          ∙ ap (λ (list : List ℕ). grid_head bounds.n ++ decimal (length (rows_of_runs runs)) ++ 10 ∷ list) (sym rows.text);
      few_bytes = is.few_bytes;
    }

-- ---- from rows to runs

pub rows_again : (rows : List GridRow) → rows_of_runs (singles rows) ≡ rows
rows_again [] = refl
rows_again (row ∷ rows) =
    ap (λ (list : List GridRow). list ++ rows_of_runs (singles rows)) (rows_of_one (single row) refl) ∙ ap (λ (list : List GridRow). row ∷ list) (rows_again rows)

are_runs : (bounds : Bounds) (last : Option Coord) (rows : List GridRow) → AreRows bounds last rows → AreRuns One bounds last (singles rows)
are_runs bounds last [] are = tt
are_runs bounds last (row ∷ rows) are =
    let end : end_of (single row) ≡ row.at = end_of_one (single row) refl in
    let P : Coord → Type 0 = λ at. AreRuns One bounds (Some at) (singles rows) in (
      refl,
      and_from (is_inside bounds row.at) (is_inside bounds (end_of (single row))) are.0 (ap (is_inside bounds) end ∙ are.0),
      are.1,
      are.2,
      subst P (sym end) (are_runs bounds (Some row.at) rows are.3),
    )

lines_are : (type : Ty) (rows : List GridRow) → rows_text type rows ≡ lines_text One type (singles rows)
lines_are type [] = refl
lines_are type (row ∷ rows) =
    ap (λ (list : List ℕ). list ++ rows_text type rows) (sym (line_of_one type (single row))) ∙ ap (λ (list : List ℕ). line_text One type (single row) ++ list) (lines_are type rows)

pub runs_from_rows : (bounds : Bounds) (type : Ty) (rows : List GridRow) (bytes : List ℕ) → IsGridText bounds type rows bytes → IsTextOf One bounds type (singles rows) bytes
runs_from_rows bounds type rows bytes is =
    let many : length (singles rows) ≡ length rows = length-map rows single in
    record {
      are_runs = are_runs bounds None rows is.are_rows;
      few_rows = omega (arith, ap length (rows_again rows), is.few_rows);
      text = is.text ∙ ap (λ (k : ℕ). grid_head bounds.n ++ decimal k ++ 10 ∷ rows_text type rows) (sym many)
          ∙ ap (λ (list : List ℕ). grid_head bounds.n ++ decimal (length (singles rows)) ++ 10 ∷ list) (lines_are type rows);
      few_bytes = is.few_bytes;
    }
