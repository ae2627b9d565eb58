-- What the pass asks of given code follows from its judgement: for one instruction in front of a block.
use Rattle.std.specs.Prelude.{◌≡◌, refl, ℕ, ◌+◌, ◌≤◌, ◌==◌, Bool, true, false, if◌then◌else◌, List, [], ◌∷◌, Option, Some, ℤ}
use Rattle.std.proofs.Common.{arith, ap, subst, ◌∙◌, ◌⊎◌, inl, inr}
use Rattle.std.proofs.lemmas.Bool.{eqb-true}
use Rattle.sg_ir.specs.declared.op.Op.{Op}
use Rattle.sg_ir.specs.declared.op.Step.{Step}
use Rattle.sg_ir.specs.Runs.{put}
use Rattle.sg_ir.specs.Blocks.{Sight, Block, Word, Spot, Cell, Do, Branch, Loop, SetVar}
use Rattle.sg_ir.specs.declared.span.Span.{Span}
use Rattle.sg_ir.specs.Span.{whole_i32, range_span, Spans, held, sets, var_span, with_span, op_span}
use Rattle.sg_ir.specs.SpanLaws.{HasConstantWord}
use Rattle.sg_ir.specs.WellTyped.{KnownPlace, Scope, Frame, with_reg, with_place, with_var}
use Rattle.sg_ir.specs.InScope.{InScope, and_reg, and_place, op_regs, op_places, step_regs, step_places, AreSet}
use Rattle.sg_simplify.specs.steps.Ruled.{OpSettles}
use Rattle.sg_simplify.specs.steps.Counted.{one_where, regs_set, places_set, Counts, AddsUp, IsWhole, Meets, Rules}
use Rattle.sg_simplify.proofs.Renaming.{spanned_same}

-- ---- numbers that are set once
flag_on : (n : ℕ) → one_where (n == n) ≡ 1
flag_on n = by_test (n == n) (grind arith)
  where
    by_test : (test : Bool) → test ≡ true → one_where test ≡ 1
    by_test true e = refl
    by_test false e = absurd (cc)

-- a number that is set here isn't set outside
unset : (set : ℕ → Bool) (outside totals : ℕ → ℕ) (n here : ℕ) → ((k : ℕ) → set k ≡ true → 1 ≤ outside k) → totals n ≡ outside n + (one_where (n == n) + here) → totals n ≤ 1 → set n ≡ false
unset set outside totals n here known adds few = by_test (set n) refl
  where
    by_test : (test : Bool) → set n ≡ test → set n ≡ false
    by_test true e = let some : 1 ≤ outside n = known n e in let one : one_where (n == n) ≡ 1 = flag_on n in absurd (omega arith)
    by_test false e = e

-- one more is set
put_both : (to : ℕ) (f g : ℕ → Bool) → ((r : ℕ) → f r ≡ true → g r ≡ true) → (r : ℕ) → put to true f r ≡ true → put to true g r ≡ true
put_both to f g h r = by_test (r == to)
  where
    by_test : (test : Bool) → (if test then true else f r) ≡ true → (if test then true else g r) ≡ true
    by_test true e = refl
    by_test false e = h r e

put_counted : (to : ℕ) (f : ℕ → Bool) (outside : ℕ → ℕ) → ((r : ℕ) → f r ≡ true → 1 ≤ outside r) → (r : ℕ) → put to true f r ≡ true → 1 ≤ outside r + one_where (to == r)
put_counted to f outside h r = by_test (r == to) refl
  where
    by_test : (test : Bool) → (r == to) ≡ test → (if test then true else f r) ≡ true → 1 ≤ outside r + one_where (to == r)
    by_test true is e = let one : one_where (to == r) ≡ 1 = subst (λ k. one_where (k == r) ≡ 1) (eqb-true r to is) (flag_on r) in omega arith
    by_test false is e = let some : 1 ≤ outside r = h r e in omega arith

put_some : {A : Type 0} (to : ℕ) (it : A) (f : ℕ → Option A) (g : ℕ → Bool) → ((p : ℕ) (k : A) → f p ≡ Some k → g p ≡ true) → (p : ℕ) (k : A) → put to (Some it) f p ≡ Some k → put to true g p ≡ true
put_some {A} to it f g h p k = by_test (p == to)
  where
    by_test : (test : Bool) → (if test then Some it else f p) ≡ Some k → (if test then true else g p) ≡ true
    by_test true e = refl
    by_test false e = h p k e

shift : (a b c : ℕ) → a + (b + c) ≡ (a + b) + c
shift a b c = omega arith

module _ (single : ℕ → Bool) (others : ℕ → Span) (totals : Counts) (at : Frame) (entire : IsWhole at single others totals) where
  abbrev vars_in : List (ℕ × Span) → Spans
  vars_in loops = record { regs = []; loops = loops; others = others }

  abbrev Ruled : InScope → List (ℕ × Span) → Block → Type 0
  Ruled inner loops block = Rules single others inner loops block

  -- a register that is set
  meets_reg : (scope : Scope) (inner : InScope) (outside : Counts) (loops : List (ℕ × Span)) (to : ℕ) → Meets totals scope inner outside loops
      → Meets totals (with_reg to scope) (and_reg to inner) (record { vars = outside.vars; regs = λ r. outside.regs r + one_where (to == r); places = outside.places }) loops
  meets_reg scope inner outside loops to h = record {
    regs = put_both to scope.regs inner.regs h.regs;
    places = h.places;
    in_regs = put_counted to inner.regs outside.regs h.in_regs;
    in_places = h.in_places;
    vars = h.vars;
    loops = h.loops;
  }

  meets_place : (scope : Scope) (inner : InScope) (outside : Counts) (loops : List (ℕ × Span)) (to : ℕ) (known : KnownPlace) → Meets totals scope inner outside loops
      → Meets totals (with_place to known scope) (and_place to inner) (record { vars = outside.vars; regs = outside.regs; places = λ p. outside.places p + one_where (to == p) }) loops
  meets_place scope inner outside loops to known h = record {
    regs = h.regs;
    places = put_some to known scope.places inner.places h.places;
    in_regs = h.in_regs;
    in_places = put_counted to inner.places outside.places h.in_places;
    vars = h.vars;
    loops = h.loops;
  }

  -- a variable that is set
  meets_var : (scope : Scope) (inner : InScope) (outside : Counts) (loops : List (ℕ × Span)) (var : ℕ) → Meets totals scope inner outside loops
      → Meets totals (with_var var scope) inner (record { vars = λ v. outside.vars v + one_where (var == v); regs = outside.regs; places = outside.places }) loops
  meets_var scope inner outside loops var h = record {
    regs = h.regs;
    places = h.places;
    in_regs = h.in_regs;
    in_places = h.in_places;
    vars = λ v. by_test v (v == var) refl (h.vars v);
    loops = λ v. still v (h.loops v);
  }
    where
      more : (v : ℕ) → (totals.vars v ≡ 0) ⊎ (1 ≤ outside.vars v) → (totals.vars v ≡ 0) ⊎ (1 ≤ outside.vars v + one_where (var == v))
      more v (inl none) = inl none
      more v (inr some) = inr (omega arith)

      by_test : (v : ℕ) (test : Bool) → (v == var) ≡ test → (scope.vars v ≡ true → (totals.vars v ≡ 0) ⊎ (1 ≤ outside.vars v)) → (if test then true else scope.vars v) ≡ true
          → (totals.vars v ≡ 0) ⊎ (1 ≤ outside.vars v + one_where (var == v))
      by_test v true is old e = let one : one_where (var == v) ≡ 1 = subst (λ k. one_where (k == v) ≡ 1) (eqb-true v var is) (flag_on v) in inr (omega arith)
      by_test v false is old e = more v (old e)

      still : (v : ℕ) → ((span : Span) → held span loops v ≡ span) ⊎ ((1 ≤ outside.vars v) × (totals.vars v ≡ 1)) → ((span : Span) → held span loops v ≡ span) ⊎ ((1 ≤ outside.vars v + one_where (var == v)) × (totals.vars v ≡ 1))
      still v (inl none) = inl none
      still v (inr looped) = let some = looped.0 in inr (omega arith, looped.1)

  -- more is set outside
  meets_more : (scope : Scope) (inner : InScope) (outside beside : Counts) (loops : List (ℕ × Span)) → ((v : ℕ) → outside.vars v ≤ beside.vars v) → ((r : ℕ) → outside.regs r ≤ beside.regs r) → ((p : ℕ) → outside.places p ≤ beside.places p)
      → Meets totals scope inner outside loops → Meets totals scope inner beside loops
  meets_more scope inner outside beside loops vars regs places h = record {
    regs = h.regs;
    places = h.places;
    in_regs = λ r set. let some = h.in_regs r set in let few = regs r in omega arith;
    in_places = λ p set. let some = h.in_places p set in let few = places p in omega arith;
    vars = λ v set. more v (h.vars v set);
    loops = λ v. still v (h.loops v);
  }
    where
      more : (v : ℕ) → (totals.vars v ≡ 0) ⊎ (1 ≤ outside.vars v) → (totals.vars v ≡ 0) ⊎ (1 ≤ beside.vars v)
      more v (inl none) = inl none
      more v (inr some) = let few = vars v in inr (omega arith)

      still : (v : ℕ) → ((span : Span) → held span loops v ≡ span) ⊎ ((1 ≤ outside.vars v) × (totals.vars v ≡ 1)) → ((span : Span) → held span loops v ≡ span) ⊎ ((1 ≤ beside.vars v) × (totals.vars v ≡ 1))
      still v (inl none) = inl none
      still v (inr looped) = let some = looped.0 in let few = vars v in inr (omega arith, looped.1)

  -- a variable that an instruction sets here has all of I32
  set_wide : (scope : Scope) (inner : InScope) (outside : Counts) (loops : List (ℕ × Span)) (var more : ℕ) → Meets totals scope inner outside loops → totals.vars var ≡ outside.vars var + (one_where (var == var) + more) → var_span (vars_in loops) var ≡ whole_i32
  set_wide scope inner outside loops var more h adds = by_loops (h.loops var)
    where
      by_loops : ((span : Span) → held span loops var ≡ span) ⊎ ((1 ≤ outside.vars var) × (totals.vars var ≡ 1)) → held (others var) loops var ≡ whole_i32
      by_loops (inl none) = none (others var) ∙ entire.wide var (let one : one_where (var == var) ≡ 1 = flag_on var in omega arith)
      by_loops (inr looped) = let some = looped.0 in let once = looped.1 in let one : one_where (var == var) ≡ 1 = flag_on var in absurd (omega arith)

  -- a variable that may be read isn't set any more, if it is set at most once
  pub settles : (scope : Scope) (inner : InScope) (outside : Counts) (loops : List (ℕ × Span)) (var more : ℕ) → Meets totals scope inner outside loops → scope.vars var ≡ true → totals.vars var ≡ outside.vars var + more → single var ≡ true → more ≡ 0
  settles scope inner outside loops var more h set adds one = by_vars (h.vars var set)
    where
      few : totals.vars var ≤ 1
      few = entire.singles var one

      by_vars : (totals.vars var ≡ 0) ⊎ (1 ≤ outside.vars var) → more ≡ 0
      by_vars (inl none) = omega (arith, adds)
      by_vars (inr some) = let most = few in omega (arith, adds)

  -- ---- instructions in front of a block
  pub word_rules : (scope : Scope) (inner : InScope) (outside : Counts) (loops : List (ℕ × Span)) (to : ℕ) (how : Op) (rest : Block) → AreSet inner.regs (op_regs how) → AreSet inner.places (op_places how) → HasConstantWord how
      → OpSettles single rest how → Meets totals scope inner outside loops → AddsUp totals outside (Word to how rest)
      → ((inside : InScope) (beside : Counts) → Meets totals (with_reg to scope) inside beside loops → AddsUp totals beside rest → Ruled inside loops rest) → Ruled inner loops (Word to how rest)
  word_rules scope inner outside loops to how rest regs places has settled meets adds more =
      let free : inner.regs to ≡ false = unset inner.regs outside.regs totals.regs to (regs_set to rest) meets.in_regs (adds.regs to) (entire.regs to) in
      let behind = more (and_reg to inner) (record { vars = outside.vars; regs = λ r. outside.regs r + one_where (to == r); places = outside.places }) (meets_reg scope inner outside loops to meets)
      (record { vars = adds.vars; regs = λ r. adds.regs r ∙ shift (outside.regs r) (one_where (to == r)) (regs_set r rest); places = adds.places }) in
      record {
        scoped = (regs, places, free, behind.scoped);
        settled = (settled, behind.settled);
        spanned = (has, spanned_same rest (vars_in loops) (with_span to (op_span (vars_in loops) how) (vars_in loops)) (λ v. refl) behind.spanned);
      }

  pub spot_rules : (scope : Scope) (inner : InScope) (outside : Counts) (loops : List (ℕ × Span)) (to : ℕ) (how : Step) (known : KnownPlace) (rest : Block) → AreSet inner.regs (step_regs how) → AreSet inner.places (step_places how)
      → Meets totals scope inner outside loops → AddsUp totals outside (Spot to how rest)
      → ((inside : InScope) (beside : Counts) → Meets totals (with_place to known scope) inside beside loops → AddsUp totals beside rest → Ruled inside loops rest) → Ruled inner loops (Spot to how rest)
  spot_rules scope inner outside loops to how known rest regs places meets adds more =
      let free : inner.places to ≡ false = unset inner.places outside.places totals.places to (places_set to rest) meets.in_places (adds.places to) (entire.places to) in
      let behind = more (and_place to inner) (record { vars = outside.vars; regs = outside.regs; places = λ p. outside.places p + one_where (to == p) }) (meets_place scope inner outside loops to known meets)
      (record { vars = adds.vars; regs = adds.regs; places = λ p. adds.places p ∙ shift (outside.places p) (one_where (to == p)) (places_set p rest) }) in
      record { scoped = (regs, places, free, behind.scoped); settled = behind.settled; spanned = behind.spanned }

  pub cell_rules : (scope : Scope) (inner : InScope) (outside : Counts) (loops : List (ℕ × Span)) (to place : ℕ) (sight : Sight) (index : List ℕ) (rest : Block) → inner.places place ≡ true → AreSet inner.regs index
      → Meets totals scope inner outside loops → AddsUp totals outside (Cell to place sight index rest)
      → ((inside : InScope) (beside : Counts) → Meets totals (with_reg to scope) inside beside loops → AddsUp totals beside rest → Ruled inside loops rest) → Ruled inner loops (Cell to place sight index rest)
  cell_rules scope inner outside loops to place sight index rest there set meets adds more =
      let free : inner.regs to ≡ false = unset inner.regs outside.regs totals.regs to (regs_set to rest) meets.in_regs (adds.regs to) (entire.regs to) in
      let behind = more (and_reg to inner) (record { vars = outside.vars; regs = λ r. outside.regs r + one_where (to == r); places = outside.places }) (meets_reg scope inner outside loops to meets)
      (record { vars = adds.vars; regs = λ r. adds.regs r ∙ shift (outside.regs r) (one_where (to == r)) (regs_set r rest); places = adds.places }) in
      record {
        scoped = ((there, tt), free, behind.scoped, set);
        settled = behind.settled;
        spanned = spanned_same rest (vars_in loops) (with_span to whole_i32 (vars_in loops)) (λ v. refl) behind.spanned;
      }

  pub set_rules : (scope : Scope) (inner : InScope) (outside : Counts) (loops : List (ℕ × Span)) (var from : ℕ) (rest : Block) → inner.regs from ≡ true
      → Meets totals scope inner outside loops → AddsUp totals outside (Do (SetVar var from) rest)
      → ((inside : InScope) (beside : Counts) → Meets totals (with_var var scope) inside beside loops → AddsUp totals beside rest → Ruled inside loops rest) → Ruled inner loops (Do (SetVar var from) rest)
  set_rules scope inner outside loops var from rest set meets adds more =
      let behind = more inner (record { vars = λ v. outside.vars v + one_where (var == v); regs = outside.regs; places = outside.places }) (meets_var scope inner outside loops var meets)
      (record { vars = λ v. adds.vars v ∙ shift (outside.vars v) (one_where (var == v)) (sets v rest); regs = adds.regs; places = adds.places }) in
      record {
        scoped = ((set, tt), tt, behind.scoped);
        settled = behind.settled;
        spanned = (set_wide scope inner outside loops var (sets var rest) meets (adds.vars var), behind.spanned);
      }

  -- a block in a branch, and in a loop
  pub branch_rules : (scope : Scope) (inner : InScope) (outside : Counts) (loops : List (ℕ × Span)) (cond : ℕ) (block otherwise rest : Block) → inner.regs cond ≡ true
      → Meets totals scope inner outside loops → AddsUp totals outside (Branch cond block otherwise rest)
      → ((beside : Counts) → Meets totals scope inner beside loops → AddsUp totals beside block → Ruled inner loops block)
      → ((beside : Counts) → Meets totals scope inner beside loops → AddsUp totals beside otherwise → Ruled inner loops otherwise)
      → ((inside : InScope) (beside : Counts) → Meets totals scope inside beside loops → AddsUp totals beside rest → Ruled inside loops rest) → Ruled inner loops (Branch cond block otherwise rest)
  branch_rules scope inner outside loops cond block otherwise rest set meets adds first second more =
      let a : Counts = record { vars = λ v. outside.vars v + (sets v otherwise + sets v rest); regs = λ r. outside.regs r + (regs_set r otherwise + regs_set r rest); places = λ p. outside.places p + (places_set p otherwise + places_set p rest) } in
      let b : Counts = record { vars = λ v. outside.vars v + (sets v block + sets v rest); regs = λ r. outside.regs r + (regs_set r block + regs_set r rest); places = λ p. outside.places p + (places_set p block + places_set p rest) } in
      let c : Counts = record { vars = λ v. outside.vars v + (sets v block + sets v otherwise); regs = λ r. outside.regs r + (regs_set r block + regs_set r otherwise); places = λ p. outside.places p + (places_set p block + places_set p otherwise) } in
      let yes_ruled = first a (meets_more scope inner outside a loops (λ v. more_of (outside.vars v) _) (λ r. more_of (outside.regs r) _) (λ p. more_of (outside.places p) _) meets)
      (record {
        vars = λ v. adds.vars v ∙ out_first (outside.vars v) (sets v block) (sets v otherwise) (sets v rest);
        regs = λ r. adds.regs r ∙ out_first (outside.regs r) (regs_set r block) (regs_set r otherwise) (regs_set r rest);
        places = λ p. adds.places p ∙ out_first (outside.places p) (places_set p block) (places_set p otherwise) (places_set p rest);
      }) in
      let no_ruled = second b (meets_more scope inner outside b loops (λ v. more_of (outside.vars v) _) (λ r. more_of (outside.regs r) _) (λ p. more_of (outside.places p) _) meets)
      (record {
        vars = λ v. adds.vars v ∙ out_second (outside.vars v) (sets v block) (sets v otherwise) (sets v rest);
        regs = λ r. adds.regs r ∙ out_second (outside.regs r) (regs_set r block) (regs_set r otherwise) (regs_set r rest);
        places = λ p. adds.places p ∙ out_second (outside.places p) (places_set p block) (places_set p otherwise) (places_set p rest);
      }) in
      let behind = more inner c (meets_more scope inner outside c loops (λ v. more_of (outside.vars v) _) (λ r. more_of (outside.regs r) _) (λ p. more_of (outside.places p) _) meets)
      (record {
        vars = λ v. adds.vars v ∙ out_third (outside.vars v) (sets v block) (sets v otherwise) (sets v rest);
        regs = λ r. adds.regs r ∙ out_third (outside.regs r) (regs_set r block) (regs_set r otherwise) (regs_set r rest);
        places = λ p. adds.places p ∙ out_third (outside.places p) (places_set p block) (places_set p otherwise) (places_set p rest);
      }) in
      record {
        scoped = (set, yes_ruled.scoped, no_ruled.scoped, behind.scoped);
        settled = (yes_ruled.settled, no_ruled.settled, behind.settled);
        spanned = (yes_ruled.spanned, no_ruled.spanned, behind.spanned);
      }
    where
      more_of : (n k : ℕ) → n ≤ n + k
      more_of n k = omega arith

      out_first : (o a b c : ℕ) → o + (a + (b + c)) ≡ (o + (b + c)) + a
      out_first o a b c = omega arith

      out_second : (o a b c : ℕ) → o + (a + (b + c)) ≡ (o + (a + c)) + b
      out_second o a b c = omega arith

      out_third : (o a b c : ℕ) → o + (a + (b + c)) ≡ (o + (a + b)) + c
      out_third o a b c = omega arith

  pub loop_rules : (scope : Scope) (inner : InScope) (outside : Counts) (loops : List (ℕ × Span)) (var : ℕ) (lo hi : ℤ) (body rest : Block) → totals.vars var ≡ 1
      → Meets totals scope inner outside loops → AddsUp totals outside (Loop var lo hi body rest)
      → ((beside : Counts) → Meets totals (with_var var scope) inner beside ((var, range_span lo hi) ∷ loops) → AddsUp totals beside body → Ruled inner ((var, range_span lo hi) ∷ loops) body)
      → ((inside : InScope) (beside : Counts) → Meets totals scope inside beside loops → AddsUp totals beside rest → Ruled inside loops rest) → Ruled inner loops (Loop var lo hi body rest)
  loop_rules scope inner outside loops var lo hi body rest once meets adds first more =
      let within : Counts = record { vars = λ v. (outside.vars v + one_where (var == v)) + sets v rest; regs = λ r. outside.regs r + regs_set r rest; places = λ p. outside.places p + places_set p rest } in
      let beside : Counts = record { vars = λ v. (outside.vars v + one_where (var == v)) + sets v body; regs = λ r. outside.regs r + regs_set r body; places = λ p. outside.places p + places_set p body } in
      let set = meets_var scope inner outside loops var meets in
      let inside = meets_more (with_var var scope) inner (record { vars = λ v. outside.vars v + one_where (var == v); regs = outside.regs; places = outside.places }) within loops
      (λ v. more_of (outside.vars v + one_where (var == v)) _) (λ r. more_of (outside.regs r) _) (λ p. more_of (outside.places p) _) set in
      let body_ruled = first within (record {
        regs = inside.regs;
        places = inside.places;
        in_regs = inside.in_regs;
        in_places = inside.in_places;
        vars = inside.vars;
        loops = λ v. by_test v (v == var) refl (inside.loops v);
      })
      (record {
        vars = λ v. adds.vars v ∙ out_body (outside.vars v) (one_where (var == v)) (sets v body) (sets v rest);
        regs = λ r. adds.regs r ∙ out_two (outside.regs r) (regs_set r body) (regs_set r rest);
        places = λ p. adds.places p ∙ out_two (outside.places p) (places_set p body) (places_set p rest);
      }) in
      let behind = more inner beside (meets_more scope inner outside beside loops (λ v. more_of_two (outside.vars v) (one_where (var == v)) _) (λ r. more_of (outside.regs r) _) (λ p. more_of (outside.places p) _) meets)
      (record {
        vars = λ v. adds.vars v ∙ out_rest (outside.vars v) (one_where (var == v)) (sets v body) (sets v rest);
        regs = λ r. adds.regs r ∙ shift (outside.regs r) (regs_set r body) (regs_set r rest);
        places = λ p. adds.places p ∙ shift (outside.places p) (places_set p body) (places_set p rest);
      }) in
      record {
        scoped = (body_ruled.scoped, behind.scoped);
        settled = (body_ruled.settled, behind.settled);
        spanned = (set_wide scope inner outside loops var (sets var body + sets var rest) meets (adds.vars var), body_ruled.spanned, behind.spanned);
      }
    where
      more_of : (n k : ℕ) → n ≤ n + k
      more_of n k = omega arith

      more_of_two : (n k m : ℕ) → n ≤ (n + k) + m
      more_of_two n k m = omega arith

      out_two : (o a b : ℕ) → o + (a + b) ≡ (o + b) + a
      out_two o a b = omega arith

      out_body : (o f a b : ℕ) → o + (f + (a + b)) ≡ ((o + f) + b) + a
      out_body o f a b = omega arith

      out_rest : (o f a b : ℕ) → o + (f + (a + b)) ≡ ((o + f) + a) + b
      out_rest o f a b = omega arith

      by_test : (v : ℕ) (test : Bool) → (v == var) ≡ test → ((span : Span) → held span loops v ≡ span) ⊎ ((1 ≤ (outside.vars v + one_where (var == v)) + sets v rest) × (totals.vars v ≡ 1))
          → ((span : Span) → (if test then range_span lo hi else held span loops v) ≡ span) ⊎ ((1 ≤ (outside.vars v + one_where (var == v)) + sets v rest) × (totals.vars v ≡ 1))
      by_test v true is old = let here : v ≡ var = eqb-true v var is in let one : one_where (var == v) ≡ 1 = subst (λ k. one_where (k == v) ≡ 1) here (flag_on v) in
          inr (omega arith, ap totals.vars here ∙ once)
      by_test v false is old = old
