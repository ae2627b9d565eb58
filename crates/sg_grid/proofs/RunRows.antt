-- The rows of runs whose ends are inside: each is inside, and they rise.
use Rattle.std.proofs.Common.{◌≡◌, inl, inr, ℕ, zero, suc, ◌+◌, ◌-◌, ◌^◌, ◌<◌, ◌≤◌, Bool, true, false, nat_le, IsTrue, if◌then◌else◌, List, [], ◌∷◌, ◌++◌, map, Option, Some, None, Result, Ok, ℤ, pos, ◌+ℤ◌, refl, sym, subst, arith}
use Rattle.std.specs.List.{range_with_len}
use Rattle.std.proofs.lemmas.Bool.{and_parts}
use Rattle.std.proofs.lemmas.Int.{ints}
use Rattle.sg_words.specs.declared.operators.Ty.{Ty}
use Rattle.sg_words.specs.WordLaws.{NumberHasWord}
use Rattle.sg_coord.specs.declared.coord.Coord.{Coord}
use Rattle.sg_coord.specs.Bounds.{Bounds}
use Rattle.sg_coord.specs.Coord.{Inside, is_inside, ComesBefore, comes_before}
use Rattle.sg_coord.specs.Laws.{InsideTest, OrderTest}
use Rattle.sg_grid.specs.declared.grid.GridRow.{GridRow}
use Rattle.sg_grid.specs.declared.grid.GridRun.{GridRun}
use Rattle.sg_grid.specs.declared.grid.GridFault.{GridFault}
use Rattle.sg_grid.specs.declared.grid.Version.{Version}
use Rattle.sg_grid.specs.declared.grid.Version.TheVariants.{One, Two}
use Rattle.sg_grid.specs.Runs.{along, end_of, run_rows, rows_of_runs}
use Rattle.sg_grid.specs.Reading.{follows, is_run_inside, runs_of, rows_of}
use Rattle.sg_grid.specs.Accepted.{AreRows}
use Rattle.sg_grid.specs.Laws.{RunsAreRows, ReadsRows}
use Rattle.sg_grid.proofs.Rows.{length_some}
use Rattle.sg_grid.proofs.Singles.{along_none}
use Rattle.sg_grid.proofs.Accepting.{then_ok, whole_found}

-- ---- along the last axis, which is the third, else the second, else the first

abbrev moved : (three two : Bool) → ℕ → Coord → Coord
moved three two k at =
    if three then record { n = at.n; a = at.a; b = at.b; c = at.c +ℤ pos k }
    else (if two then record { n = at.n; a = at.a; b = at.b +ℤ pos k; c = at.c } else record { n = at.n; a = at.a +ℤ pos k; b = at.b; c = at.c })

-- between two coordinates inside each is inside
between_inside : (e : Bounds) (at : Coord) (k n : ℕ) → k ≤ n → Inside e at → Inside e (along n at) → Inside e (along k at)
between_inside e at k n few first last = by_case (nat_le 3 at.n) (nat_le 2 at.n) last where
  by_case : (three two : Bool) → Inside e (moved three two n at) → Inside e (moved three two k at)
  by_case true two last = record {
    same_axes = first.same_axes;
    a_low = first.a_low;
    a_high = first.a_high;
    b_low = first.b_low;
    b_high = first.b_high;
    c_low = omega (arith, ints, first.c_low);
    c_high = omega (arith, ints, last.c_high);
  }
  by_case false true last = record {
    same_axes = first.same_axes;
    a_low = first.a_low;
    a_high = first.a_high;
    b_low = omega (arith, ints, first.b_low);
    b_high = omega (arith, ints, last.b_high);
    c_low = first.c_low;
    c_high = first.c_high;
  }
  by_case false false last = record {
    same_axes = first.same_axes;
    a_low = omega (arith, ints, first.a_low);
    a_high = omega (arith, ints, last.a_high);
    b_low = first.b_low;
    b_high = first.b_high;
    c_low = first.c_low;
    c_high = first.c_high;
  }

-- the next one comes after
next_rises : (at : Coord) (k : ℕ) → ComesBefore (along k at) (along (k + 1) at)
next_rises at k = by_case (nat_le 3 at.n) (nat_le 2 at.n) where
  by_case : (three two : Bool) → ComesBefore (moved three two k at) (moved three two (k + 1) at)
  by_case true two = inr (refl, inr (refl, omega (arith, ints)))
  by_case false true = inr (refl, inl (omega (arith, ints)))
  by_case false false = inl (omega (arith, ints))

-- ---- the rows of one run

abbrev row_at : GridRun → ℕ → GridRow
row_at run k = record { at = along k run.at; word = run.word }

-- some rows of a run, from one on to the last, and rows after them
rows_go_on : OrderTest → (bounds : Bounds) (run : GridRun) (rest : List GridRow) → ((k : ℕ) → k < run.len → IsTrue (is_inside bounds (along k run.at))) → run.word < 2 ^ 32
    → AreRows bounds (Some (end_of run)) rest → (more k : ℕ) (last : Option Coord) → k + 1 + more ≡ run.len → IsTrue (follows last (along k run.at))
    → AreRows bounds last (map (row_at run) (range_with_len k (suc more)) ++ rest)
rows_go_on test bounds run rest inside small are zero k last long after =
    let here : run.len - 1 ≡ k = omega arith in
    let P : ℕ → Type 0 = λ j. AreRows bounds (Some (along j run.at)) rest in
    (inside k (omega arith), after, small, subst P here are)
rows_go_on test bounds run rest inside small are (suc more) k last long after =
    let next : IsTrue (comes_before (along k run.at) (along (k + 1) run.at)) = (test (along k run.at) (along (k + 1) run.at)).1 (next_rises run.at k) in
    (inside k (omega arith), after, small, rows_go_on test bounds run rest inside small are more (k + 1) (Some (along k run.at)) (omega arith) next)

-- all rows of a run whose ends are inside are inside
all_inside : InsideTest → (bounds : Bounds) (run : GridRun) → IsTrue (is_run_inside bounds run) → (k : ℕ) → k < run.len → IsTrue (is_inside bounds (along k run.at))
all_inside test bounds run ends k below =
    let parts = and_parts (is_inside bounds run.at) (is_inside bounds (end_of run)) ends in
    (test bounds (along k run.at)).1 (between_inside bounds run.at k (run.len - 1) (omega arith) ((test bounds run.at).0 parts.0) ((test bounds (end_of run)).0 parts.1))

-- the rows of a run, and rows after them
run_goes_on : InsideTest → OrderTest → (bounds : Bounds) (run : GridRun) (rest : List GridRow) (last : Option Coord) → 1 ≤ run.len → IsTrue (is_run_inside bounds run) → IsTrue (follows last (along 0 run.at))
    → run.word < 2 ^ 32 → AreRows bounds (Some (end_of run)) rest → AreRows bounds last (run_rows run ++ rest)
run_goes_on inside_test order_test bounds run rest last some ends after small are =
    let long : suc (run.len - 1) ≡ run.len = omega arith in
    let P : ℕ → Type 0 = λ len. AreRows bounds last (map (row_at run) (range_with_len 0 len) ++ rest) in
    subst P long (rows_go_on order_test bounds run rest (all_inside inside_test bounds run ends) small are (run.len - 1) 0 last (omega arith) after)

-- ---- the law

pub runs_are_rows : InsideTest → OrderTest → (version : Version) (bounds : Bounds) → RunsAreRows version bounds
runs_are_rows inside_test order_test version bounds last [] are = tt
runs_are_rows inside_test order_test version bounds last (run ∷ runs) are =
    let P : Coord → Type 0 = λ at. IsTrue (follows last at) in
    run_goes_on inside_test order_test bounds run (rows_of_runs runs) last (length_some version run.len are.0) are.1 (subst P (sym (along_none run.at)) are.2) are.3
    (runs_are_rows inside_test order_test version bounds (Some (end_of run)) runs are.4)

-- and so are the rows of a text that is read
pub reads_rows : ((t : Ty) (z : ℤ) → NumberHasWord t z) → InsideTest → OrderTest → (bounds : Bounds) (type : Ty) → ReadsRows bounds type
unfolding rows_of
reads_rows numbers inside_test order_test bounds type rows bytes e =
    let read = then_ok (runs_of bounds type bytes) (λ (runs : List GridRun). let out : Result (List GridRow) GridFault = Ok (rows_of_runs runs) in out) rows e in
    let runs : List GridRun = read.0 in
    let same : rows_of_runs runs ≡ rows = cc (read.2) in
    subst (AreRows bounds None) same (elim (whole_found numbers bounds type runs bytes read.1) [
      | inl text ↦ runs_are_rows inside_test order_test One bounds None runs text.are_runs
      | inr text ↦ runs_are_rows inside_test order_test Two bounds None runs text.are_runs
    ])
