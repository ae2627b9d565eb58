-- A fault is there, and all before it is well.
use Rattle.std.proofs.Common.{◌≡◌, ◌⊎◌, inl, inr, ℕ, zero, suc, ◌+◌, ◌^◌, ◌<◌, ◌≤◌, min, Bool, true, false, nat_lt, if◌then◌else◌, List, [], ◌∷◌, ◌++◌, length, Option, Some, None, Result, Ok, Err, codes, ℤ, option_and_then, refl, sym, ap, ◌∙◌, subst, arith, append_assoc}
use Rattle.std.proofs.lemmas.Bool.{ltb-true, ltb-false, lt-leb, leb-false}
use Rattle.std.proofs.lemmas.Option.{option_and_then_some, some_pair_parts, none-some}
use Rattle.sg_words.specs.Results.{◌>>=◌}
use Rattle.sg_words.specs.declared.operators.Ty.{Ty}
use Rattle.sg_words.specs.WordLaws.{WordHasNumber, NumberHasWord}
use Rattle.sg_coord.specs.Bounds.{Bounds}
use Rattle.sg_grid.specs.declared.grid.GridRow.{GridRow}
use Rattle.sg_grid.specs.declared.grid.GridRun.{GridRun}
use Rattle.sg_grid.specs.declared.grid.LineStart.{LineStart}
use Rattle.sg_grid.specs.declared.grid.Version.{Version}
use Rattle.sg_grid.specs.declared.grid.Version.TheVariants.{One, Two}
use Rattle.sg_grid.specs.declared.grid.GridFault.{GridFault}
use Rattle.sg_grid.specs.declared.grid.GridFault.TheVariants as fault
use Rattle.sg_grid.specs.Limits.{most_grid_bytes, most_grid_rows}
use Rattle.sg_grid.specs.Runs.{rows_of_runs}
use Rattle.sg_grid.specs.GridText.{head_text, line_text, lines_text}
use Rattle.sg_grid.specs.Fronts.{AtFront, rest_after, number_of_digits, count_at, line_at, head_at}
use Rattle.sg_grid.specs.Reading.{follows, is_run_inside, run_tested, run_in, first_start, after_run, runs_from, runs_below, runs_below_either, runs_of, rows_of}
use Rattle.sg_grid.specs.Faults.{BeginWithRun, IsLineFault, IsFaultBelow, HasHead, HasNoHead, IsFaultUnder, IsFaultInside, IsGridFault}
use Rattle.sg_grid.proofs.Numerals.{rest_after_found, rest_after_written, digits_written, digits_found}
use Rattle.sg_grid.proofs.Rows.{IsWritten, line_found, line_written, line_fits}
use Rattle.sg_grid.proofs.Singles.{length_rows_of_runs}
use Rattle.sg_grid.proofs.Accepting.{run_tested_found}

-- ---- one line

-- what is found begins the bytes, and what begins them is found
front_run : ((t : Ty) (z : ℤ) → NumberHasWord t z) → (version : Version) (n : ℕ) (type : Ty) (bytes : List ℕ) (run : GridRun) (rest : List ℕ) → line_at version n type bytes ≡ Some (run, rest) → BeginWithRun version n type bytes run rest
front_run numbers version n type bytes run rest e =
    let found = line_found numbers version n type bytes run rest e in
    let fits = line_fits version n type bytes run rest e in
    record {
      axes = fits.0;
      a = fits.1.a;
      b = fits.1.b;
      c = fits.1.c;
      b_unused = λ few. fits.1.b_unused (lt-leb 2 run.at.n (omega (arith, fits.0)));
      c_unused = λ few. fits.1.c_unused (lt-leb 3 run.at.n (omega (arith, fits.0)));
      len = found.2;
      word = found.1;
      text = found.0;
    }

run_there : ((t : Ty) (w : ℕ) → WordHasNumber t w) → (version : Version) (n : ℕ) (type : Ty) (bytes : List ℕ) (run : GridRun) (rest : List ℕ) → BeginWithRun version n type bytes run rest → line_at version n type bytes ≡ Some (run, rest)
run_there words version n type bytes run rest is =
    let parts : IsWritten run.at = record {
      a = is.a;
      b = is.b;
      c = is.c;
      b_unused = λ few. is.b_unused (omega (arith, is.axes, leb-false 2 run.at.n few));
      c_unused = λ few. is.c_unused (omega (arith, is.axes, leb-false 3 run.at.n few));
    } in
    ap (line_at version n type) is.text ∙ ap (λ (k : ℕ). line_at version k type (line_text version type run ++ rest)) (sym is.axes) ∙ line_written words version type run rest parts is.len is.word

line_fault : ((t : Ty) (w : ℕ) → WordHasNumber t w) → ((t : Ty) (z : ℤ) → NumberHasWord t z) → (version : Version) (bounds : Bounds) (type : Ty) (start : LineStart) (bytes : List ℕ) (found : AtFront GridRun) (f : GridFault)
    → line_at version bounds.n type bytes ≡ found → run_tested bounds start found ≡ Err f → IsLineFault version bounds type start bytes f
line_fault words numbers version bounds type start bytes None f is e =
    let same : fault.BadText start.line ≡ f = cc in
    subst (IsLineFault version bounds type start bytes) same (refl, λ run rest there. none-some (run, rest) (sym is ∙ run_there words version bounds.n type bytes run rest there))
line_fault words numbers version bounds type start bytes (Some r) f is e = by_case (is_run_inside bounds r.0) (follows start.last r.0.at) (nat_lt most_grid_rows (start.rows + r.0.len)) refl refl refl e where
  front : BeginWithRun version bounds.n type bytes r.0 r.1
  front = front_run numbers version bounds.n type bytes r.0 r.1 is

  by_case : (inside rising many : Bool) → is_run_inside bounds r.0 ≡ inside → follows start.last r.0.at ≡ rising → nat_lt most_grid_rows (start.rows + r.0.len) ≡ many
      → (if inside then (if rising then (if many then Err fault.TooManyRows else Ok r) else Err (fault.NotRising start.line)) else Err (fault.Outside start.line)) ≡ Err f → IsLineFault version bounds type start bytes f
  by_case true true false p q m e = absurd (cc)
  by_case true true true p q m e =
      (let same : fault.TooManyRows ≡ f = cc in subst (IsLineFault version bounds type start bytes) same (r.0, r.1, front, p, q, ltb-true most_grid_rows (start.rows + r.0.len) m))
  by_case true false many p q m e = (let same : fault.NotRising start.line ≡ f = cc in subst (IsLineFault version bounds type start bytes) same (refl, (r.0, r.1, front, p, q)))
  by_case false rising many p q m e = (let same : fault.Outside start.line ≡ f = cc in subst (IsLineFault version bounds type start bytes) same (refl, (r.0, r.1, front, p)))

-- ---- the lines

fault_then : {A B : Type 0} (r : Result A GridFault) (next : A → Result B GridFault) (f : GridFault) → (r >>= next) ≡ Err f → (r ≡ Err f) ⊎ ((x : A) × (r ≡ Ok x) × (next x ≡ Err f))
fault_then (Ok x) next f e = inr (x, refl, e)
fault_then {A} {B} (Err g) next f e = inl (let same : g ≡ f = cc in ap (λ (h : GridFault). let out : Result A GridFault = Err h in out) same)

pub fault_below : ((t : Ty) (w : ℕ) → WordHasNumber t w) → ((t : Ty) (z : ℤ) → NumberHasWord t z) → (version : Version) (bounds : Bounds) (type : Ty) (count : ℕ) (start : LineStart) (bytes : List ℕ) (f : GridFault)
    → start.rows ≤ most_grid_rows → runs_from version bounds type count start bytes ≡ Err f → IsFaultBelow version bounds type count start bytes f
unfolding run_in
fault_below words numbers version bounds type zero start [] f some e = absurd (cc)
fault_below words numbers version bounds type zero start (b ∷ bytes) f some e =
    let same : fault.BadText start.line ≡ f = cc in
    let few : start.rows + 0 ≤ most_grid_rows = omega arith in
    record { runs = []; rest = b ∷ bytes; are_runs = tt; few_rows = few; text = refl; here = inr (refl, (λ none. absurd (cc)), sym same) }
fault_below words numbers version bounds type (suc count) start bytes f some e =
    elim (fault_then (run_in version bounds type start bytes) (λ run. runs_from version bounds type count (after_run start run.0) run.1 >>= (λ runs. Ok (run.0 ∷ runs))) f e) [
      | inl here ↦ (
          let few : start.rows + 0 ≤ most_grid_rows = omega arith in
          let own = line_fault words numbers version bounds type start bytes (line_at version bounds.n type bytes) f refl here in
          record { runs = []; rest = bytes; are_runs = tt; few_rows = few; text = refl; here = inl (omega arith, own) })
      | inr (r, is, more) ↦ elim (fault_then (runs_from version bounds type count (after_run start r.0) r.1) (λ (runs : List GridRun). let out : Result (List GridRun) GridFault = Ok (r.0 ∷ runs) in out) f more) [
        | inl later ↦ (
            let tested = run_tested_found bounds start (line_at version bounds.n type bytes) r is in
            let line = line_found numbers version bounds.n type bytes r.0 r.1 tested.0 in
            let below = fault_below words numbers version bounds type count (after_run start r.0) r.1 f tested.3 later in
            record {
              runs = r.0 ∷ below.runs;
              rest = below.rest;
              are_runs = (line.2, tested.1, tested.2, line.1, below.are_runs);
              few_rows = omega (arith, below.few_rows, length_rows_of_runs r.0 below.runs);
              text = line.0 ∙ ap (λ (list : List ℕ). line_text version type r.0 ++ list) below.text ∙ sym (append_assoc (line_text version type r.0) (lines_text version type below.runs) below.rest);
              here = elim below.here [
                | inl (few, own) ↦ inl (omega arith, own)
                | inr (all, some, same) ↦ inr (omega arith, some, same)
              ];
            })
        | inr (runs, _, wrong) ↦ absurd (cc)
      ]
    ]

-- ---- the first line

head_digits : (version : Version) (axes : ℕ) (bytes : List ℕ) (count : ℕ) (rest : List ℕ) → head_at version axes bytes ≡ Some (count, rest)
    → (digits : List ℕ) × HasHead version axes bytes digits rest × (min (number_of_digits digits) (2 ^ 32) ≡ count)
unfolding head_at
head_digits version axes bytes count rest e =
    option_and_then_some (λ (counted : List ℕ). option_and_then (λ (c : ℕ × List ℕ). option_and_then (λ (r : List ℕ). let out : AtFront ℕ = Some (c.0, r) in out) (rest_after (codes "\n") c.1)) (count_at counted)) (rest_after (head_text version axes) bytes) (count, rest) e (λ counted first more.
    option_and_then_some (λ (c : ℕ × List ℕ). option_and_then (λ (r : List ℕ). let out : AtFront ℕ = Some (c.0, r) in out) (rest_after (codes "\n") c.1)) (count_at counted) (count, rest) more (λ c second more.
    option_and_then_some (λ (r : List ℕ). let out : AtFront ℕ = Some (c.0, r) in out) (rest_after (codes "\n") c.1) (count, rest) more (λ r third last.
    let parts = some_pair_parts c.0 count r rest last in
    let behind : c.1 ≡ 10 ∷ rest = rest_after_found (codes "\n") c.1 r third ∙ ap (λ (list : List ℕ). 10 ∷ list) parts.1 in
    let has = digits_found counted c.0 c.1 second in (
      has.digits,
      record {
        all_digits = has.all_digits;
        numeral = has.numeral;
        text = rest_after_found (head_text version axes) bytes counted first ∙ ap (λ (list : List ℕ). head_text version axes ++ list) (has.text ∙ ap (λ (list : List ℕ). has.digits ++ list) behind);
      },
      has.number ∙ parts.0,
    ))))

head_there : (version : Version) (axes : ℕ) (bytes digits rest : List ℕ) → HasHead version axes bytes digits rest → head_at version axes bytes ≡ Some (min (number_of_digits digits) (2 ^ 32), rest)
unfolding head_at
head_there version axes bytes digits rest has =
    ap (head_at version axes) has.text
    ∙ ap (λ (o : Option (List ℕ)). option_and_then (λ (counted : List ℕ). option_and_then (λ (c : ℕ × List ℕ). option_and_then (λ (r : List ℕ). let out : AtFront ℕ = Some (c.0, r) in out) (rest_after (codes "\n") c.1)) (count_at counted)) o) (rest_after_written (head_text version axes) (digits ++ 10 ∷ rest))
    ∙ ap (λ (o : AtFront ℕ). option_and_then (λ (c : ℕ × List ℕ). option_and_then (λ (r : List ℕ). let out : AtFront ℕ = Some (c.0, r) in out) (rest_after (codes "\n") c.1)) o) (digits_written digits (10 ∷ rest) has.all_digits has.numeral refl)
    ∙ ap (λ (o : Option (List ℕ)). option_and_then (λ (r : List ℕ). let out : AtFront ℕ = Some (min (number_of_digits digits) (2 ^ 32), r) in out) o) (rest_after_written (codes "\n") rest)

no_head : (version : Version) (axes : ℕ) (bytes : List ℕ) → head_at version axes bytes ≡ None → HasNoHead version axes bytes
no_head version axes bytes is digits rest has = none-some (min (number_of_digits digits) (2 ^ 32), rest) (sym is ∙ head_there version axes bytes digits rest has)

-- ---- the whole

fault_under : ((t : Ty) (w : ℕ) → WordHasNumber t w) → ((t : Ty) (z : ℤ) → NumberHasWord t z) → (version : Version) (bounds : Bounds) (type : Ty) (bytes : List ℕ) (head : ℕ × List ℕ) (f : GridFault)
    → head_at version bounds.n bytes ≡ Some head → runs_below version bounds type head ≡ Err f → IsFaultUnder version bounds type bytes f
fault_under words numbers version bounds type bytes head f is e =
    let found = head_digits version bounds.n bytes head.0 head.1 is in
    (found.0, head.1, found.1, by_case found.0 found.2 (nat_lt most_grid_rows head.0) refl e)
  where
    by_case : (digits : List ℕ) → min (number_of_digits digits) (2 ^ 32) ≡ head.0 → (many : Bool) → nat_lt most_grid_rows head.0 ≡ many → (if many then Err fault.TooManyRows else runs_from version bounds type head.0 first_start head.1) ≡ Err f
        → ((f ≡ fault.TooManyRows) × (most_grid_rows < number_of_digits digits)) ⊎ ((number_of_digits digits ≤ most_grid_rows) × IsFaultBelow version bounds type (number_of_digits digits) first_start head.1 f)
    by_case digits number true m e = inl (cc, omega (arith, ltb-true most_grid_rows head.0 m))
    by_case digits number false m e =
        let few : head.0 ≤ most_grid_rows = ltb-false most_grid_rows head.0 m in
        let count : head.0 ≡ number_of_digits digits = omega arith in
        let none : 0 ≤ most_grid_rows = omega arith in
        let P : ℕ → Type 0 = λ k. IsFaultBelow version bounds type k first_start head.1 f in
        inr (omega arith, subst P count (fault_below words numbers version bounds type head.0 first_start head.1 f none e))

fault_inside : ((t : Ty) (w : ℕ) → WordHasNumber t w) → ((t : Ty) (z : ℤ) → NumberHasWord t z) → (bounds : Bounds) (type : Ty) (bytes : List ℕ) (first second : AtFront ℕ) (f : GridFault)
    → head_at One bounds.n bytes ≡ first → head_at Two bounds.n bytes ≡ second → runs_below_either bounds type first second ≡ Err f → IsFaultInside bounds type bytes f
fault_inside words numbers bounds type bytes None None f one two e =
    let same : fault.BadText 1 ≡ f = cc in
    inl (sym same, no_head One bounds.n bytes one, no_head Two bounds.n bytes two)
fault_inside words numbers bounds type bytes (Some head) second f one two e = inr (inl (fault_under words numbers One bounds type bytes head f one e))
fault_inside words numbers bounds type bytes None (Some head) f one two e = inr (inr (fault_under words numbers Two bounds type bytes head f two e))

faults_of_runs : ((t : Ty) (w : ℕ) → WordHasNumber t w) → ((t : Ty) (z : ℤ) → NumberHasWord t z) → (bounds : Bounds) (type : Ty) (bytes : List ℕ) (f : GridFault) → runs_of bounds type bytes ≡ Err f → IsGridFault bounds type bytes f
unfolding runs_of
faults_of_runs words numbers bounds type bytes f e = by_case (nat_lt most_grid_bytes (length bytes)) refl e where
  by_case : (long : Bool) → nat_lt most_grid_bytes (length bytes) ≡ long → (if long then Err fault.TooManyBytes else runs_below_either bounds type (head_at One bounds.n bytes) (head_at Two bounds.n bytes)) ≡ Err f → IsGridFault bounds type bytes f
  by_case true m e = inl (ltb-true most_grid_bytes (length bytes) m, cc)
  by_case false m e = inr (ltb-false most_grid_bytes (length bytes) m, fault_inside words numbers bounds type bytes (head_at One bounds.n bytes) (head_at Two bounds.n bytes) f refl refl e)

pub faults_are_there : ((t : Ty) (w : ℕ) → WordHasNumber t w) → ((t : Ty) (z : ℤ) → NumberHasWord t z) → (bounds : Bounds) (type : Ty) (bytes : List ℕ) (f : GridFault) → rows_of bounds type bytes ≡ Err f → IsGridFault bounds type bytes f
unfolding rows_of
faults_are_there words numbers bounds type bytes f e =
    elim (fault_then (runs_of bounds type bytes) (λ (runs : List GridRun). let out : Result (List GridRow) GridFault = Ok (rows_of_runs runs) in out) f e) [
      | inl here ↦ faults_of_runs words numbers bounds type bytes f here
      | inr (runs, _, wrong) ↦ absurd (cc)
    ]
