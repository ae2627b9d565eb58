-- Exactly the grid texts of both versions are read, each with its rows.
use Rattle.std.proofs.Common.{◌≡◌, ◌⊎◌, inl, inr, ℕ, zero, suc, ◌+◌, ◌^◌, ◌<◌, ◌≤◌, Bool, true, false, nat_lt, if◌then◌else◌, List, [], ◌∷◌, ◌++◌, length, get_or, Option, Some, None, Result, Ok, Err, codes, decimal, ℤ, option_and_then, refl, sym, ap, ◌∙◌, subst, arith, rules, append_assoc}
use Rattle.std.specs.List.{starts_with}
use Rattle.std.proofs.lemmas.Bool.{and_parts, cond-true, cond-false, ltb-false, le-ltb, leb-false, false_from_ne_true}
use Rattle.std.proofs.lemmas.Bool.Decides.{Decides-eqb}
use Rattle.std.proofs.lemmas.Int.{ints}
use Rattle.std.proofs.lemmas.Option.{option_and_then_some, some_pair_parts}
use Rattle.std.proofs.lemmas.Slice.Eq.{starts_is}
use Rattle.std.specs.Prelude.{nat_eq, drop}
use Rattle.sg_words.specs.Results.{◌>>=◌}
use Rattle.sg_words.specs.declared.operators.Ty.{Ty}
use Rattle.sg_words.specs.WordLaws.{WordHasNumber, NumberHasWord}
use Rattle.sg_coord.specs.declared.coord.Coord.{Coord}
use Rattle.sg_coord.specs.Bounds.{Bounds, IsBounds}
use Rattle.sg_coord.specs.Coord.{Inside, is_inside}
use Rattle.sg_coord.specs.Laws.{InsideTest}
use Rattle.sg_grid.specs.declared.grid.GridRow.{GridRow}
use Rattle.sg_grid.specs.declared.grid.GridRun.{GridRun}
use Rattle.sg_grid.specs.declared.grid.LineStart.{LineStart}
use Rattle.sg_grid.specs.declared.grid.Version.{Version}
use Rattle.sg_grid.specs.declared.grid.Version.TheVariants.{One, Two}
use Rattle.sg_grid.specs.declared.grid.GridFault.{GridFault}
use Rattle.sg_grid.specs.declared.grid.GridFault.TheVariants as fault
use Rattle.sg_grid.specs.Limits.{most_grid_bytes, most_grid_rows}
use Rattle.sg_grid.specs.Runs.{end_of, rows_of_runs}
use Rattle.sg_grid.specs.GridText.{head_text, line_text, lines_text}
use Rattle.sg_grid.specs.Fronts.{AtFront, rest_after, count_at, line_at, head_at}
use Rattle.sg_grid.specs.Reading.{follows, is_run_inside, run_tested, run_in, first_start, after_run, runs_from, runs_below, runs_below_either, runs_of, rows_of}
use Rattle.sg_grid.specs.Accepted.{is_length, AreRuns, IsTextOf, IsGridText}
use Rattle.sg_grid.specs.Laws.{AcceptsGridTexts}
use Rattle.sg_grid.proofs.Numerals.{rest_after_found, rest_after_written, count_found, count_written}
use Rattle.sg_grid.proofs.Rows.{IsWritten, line_found, line_written}
use Rattle.sg_grid.proofs.Singles.{length_rows_of_runs, fewer_runs, singles, rows_from_runs, runs_from_rows, rows_again}

-- ---- one line

-- what is inside passes the test
pub inside_test : InsideTest
inside_test e at = search rules

-- a coordinate inside is written as it is
inside_written : InsideTest → (bounds : Bounds) (at : Coord) → IsBounds bounds → is_inside bounds at ≡ true → IsWritten at
inside_written test bounds at small inside =
    let parts : Inside bounds at = (test bounds at).0 inside in
    record {
      a = grind (arith, ints);
      b = grind (arith, ints);
      c = grind (arith, ints);
      b_unused = λ h. (let one : bounds.b ≡ 1 = small.b_unused (omega (arith, leb-false 2 at.n h)) in omega (arith, ints));
      c_unused = λ h. (let one : bounds.c ≡ 1 = small.c_unused (omega (arith, leb-false 3 at.n h)) in omega (arith, ints));
    }

pub run_tested_found : (bounds : Bounds) (start : LineStart) (found : AtFront GridRun) (r : GridRun × List ℕ) → run_tested bounds start found ≡ Ok r
    → (found ≡ Some r) × (is_run_inside bounds r.0 ≡ true) × (follows start.last r.0.at ≡ true) × (start.rows + r.0.len ≤ most_grid_rows)
run_tested_found bounds start None r e = absurd (cc)
run_tested_found bounds start (Some s) r e = by_case (is_run_inside bounds s.0) (follows start.last s.0.at) (nat_lt most_grid_rows (start.rows + s.0.len)) refl refl refl e where
  by_case : (inside rising many : Bool) → is_run_inside bounds s.0 ≡ inside → follows start.last s.0.at ≡ rising → nat_lt most_grid_rows (start.rows + s.0.len) ≡ many
      → (if inside then (if rising then (if many then Err fault.TooManyRows else Ok s) else Err (fault.NotRising start.line)) else Err (fault.Outside start.line)) ≡ Ok r
      → (◌≡◌ {A = AtFront GridRun} (Some s) (Some r)) × (is_run_inside bounds r.0 ≡ true) × (follows start.last r.0.at ≡ true) × (start.rows + r.0.len ≤ most_grid_rows)
  by_case true true false p q m e =
      let same : s ≡ r = cc in
      let few : start.rows + s.0.len ≤ most_grid_rows = ltb-false most_grid_rows (start.rows + s.0.len) m in
      let P : GridRun × List ℕ → Type 0 = λ x. (◌≡◌ {A = AtFront GridRun} (Some s) (Some x)) × (is_run_inside bounds x.0 ≡ true) × (follows start.last x.0.at ≡ true) × (start.rows + x.0.len ≤ most_grid_rows) in
      subst P same (refl, p, q, few)
  by_case true true true p q m e = absurd (cc)
  by_case true false many p q m e = absurd (cc)
  by_case false rising many p q m e = absurd (cc)

-- ---- the lines

pub then_ok : {A B E : Type 0} (r : Result A E) (next : A → Result B E) (y : B) → (r >>= next) ≡ Ok y → (x : A) × (r ≡ Ok x) × (next x ≡ Ok y)
then_ok (Ok x) next y e = (x, refl, e)
then_ok (Err f) next y e = absurd (cc)

-- what the runs of a text are: so many, and written so
pub record AreRead (version : Version) (bounds : Bounds) (type : Ty) (count : ℕ) (start : LineStart) (bytes : List ℕ) (runs : List GridRun) : Type 0 where
  pub are_runs : AreRuns version bounds start.last runs
  pub many : length runs ≡ count
  pub few : start.rows + length (rows_of_runs runs) ≤ most_grid_rows
  pub text : bytes ≡ lines_text version type runs

pub runs_found : ((t : Ty) (z : ℤ) → NumberHasWord t z) → (version : Version) (bounds : Bounds) (type : Ty) (count : ℕ) (start : LineStart) (bytes : List ℕ) (runs : List GridRun)
    → start.rows ≤ most_grid_rows → runs_from version bounds type count start bytes ≡ Ok runs → AreRead version bounds type count start bytes runs
unfolding run_in
runs_found numbers version bounds type zero start [] runs some e =
    let none : [] ≡ runs = cc in
    let few : start.rows + 0 ≤ most_grid_rows = omega arith in
    subst (AreRead version bounds type zero start []) none (record { are_runs = tt; many = refl; few = few; text = refl })
runs_found numbers version bounds type zero start (b ∷ bytes) runs some e = absurd (cc)
runs_found numbers version bounds type (suc count) start bytes runs some e =
    let first = then_ok (run_in version bounds type start bytes) (λ run. runs_from version bounds type count (after_run start run.0) run.1 >>= (λ runs. Ok (run.0 ∷ runs))) runs e in
    let r : GridRun × List ℕ = first.0 in
    let second = then_ok (runs_from version bounds type count (after_run start r.0) r.1) (λ (runs : List GridRun). let out : Result (List GridRun) GridFault = Ok (r.0 ∷ runs) in out) runs first.2 in
    let more : List GridRun = second.0 in
    let same : r.0 ∷ more ≡ runs = cc in
    let here = run_tested_found bounds start (line_at version bounds.n type bytes) r first.1 in
    let line = line_found numbers version bounds.n type bytes r.0 r.1 here.0 in
    let rest = runs_found numbers version bounds type count (after_run start r.0) r.1 more here.3 second.1 in
    subst (AreRead version bounds type (suc count) start bytes) same (record {
      are_runs = (line.2, here.1, here.2, line.1, rest.are_runs);
      many = omega (arith, rest.many);
      few = omega (arith, rest.few, length_rows_of_runs r.0 more);
      text = line.0 ∙ ap (λ (list : List ℕ). line_text version type r.0 ++ list) rest.text;
    })

run_written : ((t : Ty) (w : ℕ) → WordHasNumber t w) → InsideTest → (version : Version) (bounds : Bounds) (type : Ty) → IsBounds bounds → (start : LineStart) (run : GridRun) (rest : List ℕ)
    → is_length version run.len ≡ true → is_run_inside bounds run ≡ true → follows start.last run.at ≡ true → run.word < 2 ^ 32 → start.rows + run.len ≤ most_grid_rows
    → run_in version bounds type start (line_text version type run ++ rest) ≡ Ok (run, rest)
unfolding run_in
run_written words test version bounds type small start run rest good inside rising word few =
    let first : is_inside bounds run.at ≡ true = (and_parts (is_inside bounds run.at) (is_inside bounds (end_of run)) inside).0 in
    let parts : Inside bounds run.at = (test bounds run.at).0 first in
    let found : line_at version bounds.n type (line_text version type run ++ rest) ≡ Some (run, rest) =
    ap (λ (n : ℕ). line_at version n type (line_text version type run ++ rest)) (sym parts.same_axes) ∙ line_written words version type run rest (inside_written test bounds run.at small first) good word in
    ap (run_tested bounds start) found ∙ cond-true _ _ _ inside ∙ cond-true _ _ _ rising ∙ cond-false _ _ _ (le-ltb most_grid_rows (start.rows + run.len) few)

pub runs_written : ((t : Ty) (w : ℕ) → WordHasNumber t w) → InsideTest → (version : Version) (bounds : Bounds) (type : Ty) → IsBounds bounds → (start : LineStart) (runs : List GridRun)
    → AreRuns version bounds start.last runs → start.rows + length (rows_of_runs runs) ≤ most_grid_rows → runs_from version bounds type (length runs) start (lines_text version type runs) ≡ Ok runs
runs_written words test version bounds type small start [] are few = refl
runs_written words test version bounds type small start (run ∷ runs) are few =
    let next : LineStart = after_run start run in
    let own : start.rows + run.len ≤ most_grid_rows = omega (arith, length_rows_of_runs run runs) in
    let below : next.rows + length (rows_of_runs runs) ≤ most_grid_rows = omega (arith, length_rows_of_runs run runs) in
    ap (λ (r : Result (GridRun × List ℕ) GridFault). r >>= (λ run. runs_from version bounds type (length runs) (after_run start run.0) run.1 >>= (λ runs. Ok (run.0 ∷ runs))))
    (run_written words test version bounds type small start run (lines_text version type runs) are.0 are.1 are.2 are.3 own)
    ∙ ap (λ (r : Result (List GridRun) GridFault). r >>= (λ (runs : List GridRun). let out : Result (List GridRun) GridFault = Ok (run ∷ runs) in out))
    (runs_written words test version bounds type small next runs are.4 below)

-- ---- the first line

head_found : (version : Version) (axes : ℕ) (bytes : List ℕ) (count : ℕ) (rest : List ℕ) → head_at version axes bytes ≡ Some (count, rest) → count < 2 ^ 32 → bytes ≡ head_text version axes ++ decimal count ++ 10 ∷ rest
unfolding head_at
head_found version axes bytes count rest e small =
    option_and_then_some (λ (counted : List ℕ). option_and_then (λ (c : ℕ × List ℕ). option_and_then (λ (r : List ℕ). let out : AtFront ℕ = Some (c.0, r) in out) (rest_after (codes "\n") c.1)) (count_at counted)) (rest_after (head_text version axes) bytes) (count, rest) e (λ counted first more.
    option_and_then_some (λ (c : ℕ × List ℕ). option_and_then (λ (r : List ℕ). let out : AtFront ℕ = Some (c.0, r) in out) (rest_after (codes "\n") c.1)) (count_at counted) (count, rest) more (λ c second more.
    option_and_then_some (λ (r : List ℕ). let out : AtFront ℕ = Some (c.0, r) in out) (rest_after (codes "\n") c.1) (count, rest) more (λ r third last.
    let parts = some_pair_parts c.0 count r rest last in
    let below : c.0 < 2 ^ 32 = omega (arith, parts.0) in
    let behind : c.1 ≡ 10 ∷ rest = rest_after_found (codes "\n") c.1 r third ∙ ap (λ (list : List ℕ). 10 ∷ list) parts.1 in
    rest_after_found (head_text version axes) bytes counted first
    ∙ ap (λ (list : List ℕ). head_text version axes ++ list) (count_found counted c.0 c.1 second below ∙ ap (λ (k : ℕ). decimal k ++ c.1) parts.0 ∙ ap (λ (list : List ℕ). decimal count ++ list) behind)
    ∙ sym (append_assoc (head_text version axes) (decimal count) (10 ∷ rest)))))

head_written : (version : Version) (axes : ℕ) (count : ℕ) (rest : List ℕ) → count < 2 ^ 32 → head_at version axes (head_text version axes ++ decimal count ++ 10 ∷ rest) ≡ Some (count, rest)
unfolding head_at
head_written version axes count rest small =
    ap (head_at version axes) (append_assoc (head_text version axes) (decimal count) (10 ∷ rest))
    ∙ ap (λ (o : Option (List ℕ)). option_and_then (λ (counted : List ℕ). option_and_then (λ (c : ℕ × List ℕ). option_and_then (λ (r : List ℕ). let out : AtFront ℕ = Some (c.0, r) in out) (rest_after (codes "\n") c.1)) (count_at counted)) o) (rest_after_written (head_text version axes) (decimal count ++ 10 ∷ rest))
    ∙ ap (λ (o : AtFront ℕ). option_and_then (λ (c : ℕ × List ℕ). option_and_then (λ (r : List ℕ). let out : AtFront ℕ = Some (c.0, r) in out) (rest_after (codes "\n") c.1)) o) (count_written count (10 ∷ rest) small refl)
    ∙ ap (λ (o : Option (List ℕ)). option_and_then (λ (r : List ℕ). let out : AtFront ℕ = Some (count, r) in out) o) (rest_after_written (codes "\n") rest)

-- a first line of version 2 is none of version 1
other_head : (axes : ℕ) (rest : List ℕ) → rest_after (head_text One axes) (head_text Two axes ++ rest) ≡ None
unfolding rest_after
other_head axes rest =
    cond-false (starts_with nat_eq (head_text Two axes ++ rest) (head_text One axes)) (let out : Option (List ℕ) = Some (drop (length (head_text One axes)) (head_text Two axes ++ rest)) in out) None
    (false_from_ne_true (starts_with nat_eq (head_text Two axes ++ rest) (head_text One axes)) (λ starts.
    let split : head_text Two axes ++ rest ≡ head_text One axes ++ drop (length (head_text One axes)) (head_text Two axes ++ rest) =
    (starts_is Decides-eqb (head_text Two axes ++ rest) (head_text One axes) (starts_with nat_eq (head_text Two axes ++ rest) (head_text One axes)) refl).0 starts in
    let same : 50 ≡ 32 = ap (λ (list : List ℕ). get_or list 4 0) split in
    absurd (omega (arith, same))))

head_of_other : (axes : ℕ) (bytes rest : List ℕ) → bytes ≡ head_text Two axes ++ rest → head_at One axes bytes ≡ None
unfolding head_at
head_of_other axes bytes rest is =
    ap (head_at One axes) is
    ∙ ap (λ (o : Option (List ℕ)). option_and_then (λ (counted : List ℕ). option_and_then (λ (c : ℕ × List ℕ). option_and_then (λ (r : List ℕ). let out : AtFront ℕ = Some (c.0, r) in out) (rest_after (codes "\n") c.1)) (count_at counted)) o) (other_head axes rest)

-- ---- the whole

below_found : ((t : Ty) (z : ℤ) → NumberHasWord t z) → (version : Version) (bounds : Bounds) (type : Ty) (runs : List GridRun) (bytes : List ℕ) (head : ℕ × List ℕ) → head_at version bounds.n bytes ≡ Some head
    → length bytes ≤ most_grid_bytes → runs_below version bounds type head ≡ Ok runs → IsTextOf version bounds type runs bytes
below_found numbers version bounds type runs bytes head is short e = by_case (nat_lt most_grid_rows head.0) refl e where
  by_case : (many : Bool) → nat_lt most_grid_rows head.0 ≡ many → (if many then Err fault.TooManyRows else runs_from version bounds type head.0 first_start head.1) ≡ Ok runs → IsTextOf version bounds type runs bytes
  by_case true m e = absurd (cc)
  by_case false m e =
      let few : head.0 ≤ most_grid_rows = ltb-false most_grid_rows head.0 m in
      let none : 0 ≤ most_grid_rows = omega arith in
      let read = runs_found numbers version bounds type head.0 first_start head.1 runs none e in
      record {
        are_runs = read.are_runs;
        few_rows = omega (arith, read.few);
        text = head_found version bounds.n bytes head.0 head.1 is (omega arith)
            ∙ ap (λ (list : List ℕ). head_text version bounds.n ++ decimal head.0 ++ 10 ∷ list) read.text
            ∙ ap (λ (k : ℕ). head_text version bounds.n ++ decimal k ++ 10 ∷ lines_text version type runs) (sym read.many);
        few_bytes = short;
      }

either_found : ((t : Ty) (z : ℤ) → NumberHasWord t z) → (bounds : Bounds) (type : Ty) (runs : List GridRun) (bytes : List ℕ) (first second : AtFront ℕ) → head_at One bounds.n bytes ≡ first → head_at Two bounds.n bytes ≡ second
    → length bytes ≤ most_grid_bytes → runs_below_either bounds type first second ≡ Ok runs → IsTextOf One bounds type runs bytes ⊎ IsTextOf Two bounds type runs bytes
either_found numbers bounds type runs bytes (Some head) second is _ short e = inl (below_found numbers One bounds type runs bytes head is short e)
either_found numbers bounds type runs bytes None (Some head) _ is short e = inr (below_found numbers Two bounds type runs bytes head is short e)
either_found numbers bounds type runs bytes None None _ _ short e = absurd (cc)

pub whole_found : ((t : Ty) (z : ℤ) → NumberHasWord t z) → (bounds : Bounds) (type : Ty) (runs : List GridRun) (bytes : List ℕ) → runs_of bounds type bytes ≡ Ok runs
    → IsTextOf One bounds type runs bytes ⊎ IsTextOf Two bounds type runs bytes
unfolding runs_of
whole_found numbers bounds type runs bytes e = by_case (nat_lt most_grid_bytes (length bytes)) refl e where
  by_case : (long : Bool) → nat_lt most_grid_bytes (length bytes) ≡ long → (if long then Err fault.TooManyBytes else runs_below_either bounds type (head_at One bounds.n bytes) (head_at Two bounds.n bytes)) ≡ Ok runs
      → IsTextOf One bounds type runs bytes ⊎ IsTextOf Two bounds type runs bytes
  by_case true m e = absurd (cc)
  by_case false m e = either_found numbers bounds type runs bytes (head_at One bounds.n bytes) (head_at Two bounds.n bytes) refl refl (ltb-false most_grid_bytes (length bytes) m) e

few_lines : (version : Version) (bounds : Bounds) (runs : List GridRun) → AreRuns version bounds None runs → length (rows_of_runs runs) ≤ most_grid_rows → length runs < 2 ^ 32
few_lines version bounds runs are few = omega (arith, fewer_runs version bounds None runs are)

-- which of the versions is read
heads_written : (version : Version) (bounds : Bounds) (type : Ty) (runs : List GridRun) (bytes : List ℕ) → IsTextOf version bounds type runs bytes
    → runs_below_either bounds type (head_at One bounds.n bytes) (head_at Two bounds.n bytes) ≡ runs_below version bounds type (length runs, lines_text version type runs)
heads_written One bounds type runs bytes text =
    ap (λ (first : AtFront ℕ). runs_below_either bounds type first (head_at Two bounds.n bytes))
    (ap (head_at One bounds.n) text.text ∙ head_written One bounds.n (length runs) (lines_text One type runs) (few_lines One bounds runs text.are_runs text.few_rows))
heads_written Two bounds type runs bytes text =
    ap (λ (first : AtFront ℕ). runs_below_either bounds type first (head_at Two bounds.n bytes))
    (head_of_other bounds.n bytes (decimal (length runs) ++ 10 ∷ lines_text Two type runs) (text.text ∙ append_assoc (head_text Two bounds.n) (decimal (length runs)) (10 ∷ lines_text Two type runs)))
    ∙ ap (runs_below_either bounds type None) (ap (head_at Two bounds.n) text.text ∙ head_written Two bounds.n (length runs) (lines_text Two type runs) (few_lines Two bounds runs text.are_runs text.few_rows))

whole_written : ((t : Ty) (w : ℕ) → WordHasNumber t w) → InsideTest → (version : Version) (bounds : Bounds) (type : Ty) → IsBounds bounds → (runs : List GridRun) (bytes : List ℕ) → IsTextOf version bounds type runs bytes → runs_of bounds type bytes ≡ Ok runs
unfolding runs_of
whole_written words test version bounds type small runs bytes text =
    let few : length runs ≤ most_grid_rows = omega (arith, text.few_rows, fewer_runs version bounds None runs text.are_runs) in
    let rows : 0 + length (rows_of_runs runs) ≤ most_grid_rows = omega (arith, text.few_rows) in
    cond-false _ _ _ (le-ltb most_grid_bytes (length bytes) text.few_bytes)
    ∙ heads_written version bounds type runs bytes text
    ∙ cond-false _ _ _ (le-ltb most_grid_rows (length runs) few)
    ∙ runs_written words test version bounds type small first_start runs text.are_runs rows

pub accepts_grid_texts : ((t : Ty) (w : ℕ) → WordHasNumber t w) → ((t : Ty) (z : ℤ) → NumberHasWord t z) → InsideTest → (bounds : Bounds) (type : Ty) → IsBounds bounds → AcceptsGridTexts bounds type
unfolding rows_of
accepts_grid_texts words numbers test bounds type small rows bytes = (
  λ e.
      let read = then_ok (runs_of bounds type bytes) (λ (runs : List GridRun). let out : Result (List GridRow) GridFault = Ok (rows_of_runs runs) in out) rows e in
      let runs : List GridRun = read.0 in
      let same : rows_of_runs runs ≡ rows = cc (read.2) in
      elim (whole_found numbers bounds type runs bytes read.1) [
        | inl text ↦ (let P : List GridRow → Type 0 = λ rows. IsGridText bounds type rows bytes in inl (subst P same (rows_from_runs bounds type runs bytes text)))
        | inr text ↦ inr (runs, sym same, text)
      ],
  λ text. elim text [
    | inl text ↦ (
        ap (λ (r : Result (List GridRun) GridFault). r >>= (λ (runs : List GridRun). let out : Result (List GridRow) GridFault = Ok (rows_of_runs runs) in out))
        (whole_written words test One bounds type small (singles rows) bytes (runs_from_rows bounds type rows bytes text))
        ∙ ap (λ (rows : List GridRow). let out : Result (List GridRow) GridFault = Ok rows in out) (rows_again rows))
    | inr (runs, same, text) ↦ (
        ap (λ (r : Result (List GridRun) GridFault). r >>= (λ (runs : List GridRun). let out : Result (List GridRow) GridFault = Ok (rows_of_runs runs) in out))
        (whole_written words test Two bounds type small runs bytes text)
        ∙ ap (λ (rows : List GridRow). let out : Result (List GridRow) GridFault = Ok rows in out) (sym same))
  ],
)
