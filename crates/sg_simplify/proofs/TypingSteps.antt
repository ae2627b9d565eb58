-- What is judged good stays so where more is in scope and more was put out.
use Rattle.std.specs.Prelude.{◌≡◌, refl, ℕ, zero, suc, ◌<◌, ◌≤◌, ◌==◌, nat_lt, Bool, true, false, ◌&&◌, if◌then◌else◌, List, [], ◌∷◌, ◌++◌, length, slice_get, Option, Some, None, option_map}
use Rattle.std.specs.List.{list_all}
use Rattle.std.proofs.Common.{arith, sym, ap, subst, ◌∙◌}
use Rattle.std.proofs.lemmas.Bool.{eqb-true, and_parts}
use Rattle.sg_words.specs.declared.operators.Ty.{Ty}
use Rattle.sg_layout.specs.declared.shape.Shape.{Shape}
use Rattle.sg_ir.specs.declared.op.Op.{Op}
use Rattle.sg_ir.specs.declared.op.Op.TheVariants as op
use Rattle.sg_ir.specs.declared.op.Step.{Step}
use Rattle.sg_ir.specs.declared.op.Step.TheVariants as step
use Rattle.sg_ir.specs.declared.span.Span.{Span}
use Rattle.sg_ir.specs.Runs.{put}
use Rattle.sg_ir.specs.Blocks.{Block}
use Rattle.sg_ir.specs.WellTyped as well
use Rattle.sg_ir.specs.WellTyped.{KnownPlace, Scope, Frame, is_truth_as, reads, indexes, holds_of, takes_truth, is_lnot, is_cell, checkable, descends}
use Rattle.sg_simplify.specs.steps.Pass.{Pass, Next, next_with_reg, next_with_place, with_name, set_word}
use Rattle.sg_simplify.specs.steps.Serves.{EachByRecursion}
use Rattle.sg_simplify.specs.steps.Judged.{gives_type, truth_of, operands_fit, index_fits, IndexIsGood, way_by, step_reads, step_known, fits_scope}
use Rattle.sg_simplify.specs.steps.Typed.{Fixed, frame_by, Starts, Widens, OpTyped, StepTyped, Types, Typed, AllRead}
use Rattle.sg_simplify.proofs.Tables.{each_map, length_push}
use Rattle.sg_simplify.proofs.Setting.{put_still}

pub both : (a b : Bool) → a ≡ true → b ≡ true → (a && b) ≡ true
both true b e f = f
both false b e f = absurd (cc)

pub eq_same : (n : ℕ) → (n == n) ≡ true
eq_same n = grind arith

-- ---- lists that grow at their end
pub get_pushed : {A : Type 0} (xs : List A) (x : A) (r : ℕ) (t : A) → slice_get xs r ≡ Some t → slice_get (xs ++ x ∷ []) r ≡ Some t
get_pushed [] x r t e = absurd (cc)
get_pushed (y ∷ xs) x zero t e = e
get_pushed (y ∷ xs) x (suc r) t e = get_pushed xs x r t e

pub get_end : {A : Type 0} (xs : List A) (x : A) (n : ℕ) → length xs ≡ n → slice_get (xs ++ x ∷ []) n ≡ Some x
get_end {A} xs x n e = subst (λ k. slice_get (xs ++ x ∷ []) k ≡ Some x) e (last xs)
  where
    last : (ys : List A) → slice_get (ys ++ x ∷ []) (length ys) ≡ Some x
    last [] = refl
    last (y ∷ ys) = last ys

pub get_below : {A : Type 0} (xs : List A) (r : ℕ) (t : A) → slice_get xs r ≡ Some t → r < length xs
get_below [] r t e = absurd (cc)
get_below (x ∷ xs) zero t e = omega arith
get_below (x ∷ xs) (suc r) t e = let h = get_below xs r t e in omega arith

-- ---- what may be there and still is
is_of_on : (truth : Bool) (o p : Option Ty) → ((t : Ty) → o ≡ Some t → p ≡ Some t) → is_truth_as truth o ≡ true → is_truth_as truth p ≡ true
is_of_on truth None p h e = absurd (no_type truth e)
  where
    no_type : (truth : Bool) → is_truth_as truth None ≡ true → ⊥
    no_type true e = absurd (cc)
    no_type false e = absurd (cc)
is_of_on truth (Some t) p h e = subst (λ (q : Option Ty). is_truth_as truth q ≡ true) (sym (h t refl)) e

pub gives_on : (truth : Option Bool) (o p : Option Ty) → ((t : Ty) → o ≡ Some t → p ≡ Some t) → gives_type truth o ≡ true → gives_type truth p ≡ true
gives_on None o p h e = absurd (cc)
gives_on (Some truth) o p h e = is_of_on truth o p h e

holds_on : {A : Type 0} (test : A → Bool) (o p : Option A) → ((t : A) → o ≡ Some t → p ≡ Some t) → holds_of test o ≡ true → holds_of test p ≡ true
holds_on test None p h e = absurd (cc)
holds_on {A} test (Some t) p h e = subst (λ (q : Option A). holds_of test q ≡ true) (sym (h t refl)) e

map_on : (f : KnownPlace → KnownPlace) (o p : Option KnownPlace) (k : KnownPlace) → ((t : KnownPlace) → o ≡ Some t → p ≡ Some t) → option_map f o ≡ Some k → option_map f p ≡ Some k
map_on f None p k h e = absurd (cc)
map_on f (Some t) p k h e = ap (option_map f) (h t refl) ∙ e

-- ---- scopes and what was put out
pub widens_same : (scope : Scope) → Widens scope scope
widens_same scope = record { regs = λ r is. is; places = λ p k is. is; vars = λ v is. is }

pub widens_on : (a b c : Scope) → Widens a b → Widens b c → Widens a c
widens_on a b c first second = record { regs = λ r is. second.regs r (first.regs r is); places = λ p k is. second.places p k (first.places p k is); vars = λ v is. second.vars v (first.vars v is) }

pub widens_reg : (to : ℕ) (scope : Scope) → Widens scope (well.with_reg to scope)
widens_reg to scope = record { regs = λ r is. put_still to scope.regs r is; places = λ p k is. is; vars = λ v is. is }

pub widens_var : (var : ℕ) (scope : Scope) → Widens scope (well.with_var var scope)
widens_var var scope = record { regs = λ r is. is; places = λ p k is. is; vars = λ v is. put_still var scope.vars v is }

pub widens_place : (to : ℕ) (known : KnownPlace) (scope : Scope) → scope.places to ≡ None → Widens scope (well.with_place to known scope)
widens_place to known scope free = record { regs = λ r is. is; places = λ p k is. by_test p k is (p == to) refl; vars = λ v is. is }
  where
    clash : (k : KnownPlace) → None ≡ Some k → ⊥
    clash k e = absurd (cc)

    by_test : (p : ℕ) (k : KnownPlace) → scope.places p ≡ Some k → (test : Bool) → (p == to) ≡ test → (if test then Some known else scope.places p) ≡ Some k
    by_test p k is true e = absurd (clash k (sym free ∙ (ap scope.places (sym (eqb-true p to e)) ∙ is)))
    by_test p k is false e = is

pub starts_same : (next : Next) → Starts next next
starts_same next = record { regs = λ r t e. e; places = omega arith }

pub starts_on : (a b c : Next) → Starts a b → Starts b c → Starts a c
starts_on a b c first second = let p = first.places in let q = second.places in record { regs = λ r t e. second.regs r t (first.regs r t e); places = omega arith }

pub starts_reg : (type : Ty) (span : Span) (next : Next) → Starts next (next_with_reg type span next)
starts_reg type span next = record { regs = λ r t e. get_pushed next.types type r t e; places = omega arith }

pub starts_place : (next : Next) → Starts next (next_with_place next)
starts_place next = record { regs = λ r t e. e; places = omega arith }

module _ (fixed : Fixed) where
  pub reads_on : (next final : Next) (scope wide : Scope) → Starts next final → Widens scope wide → (truth : Bool) (r : ℕ) → reads (frame_by fixed next) scope truth r ≡ true → reads (frame_by fixed final) wide truth r ≡ true
  reads_on next final scope wide starts widens truth r e =
      let parts = and_parts (scope.regs r) (is_truth_as truth (slice_get next.types r)) e in
      both (wide.regs r) (is_truth_as truth (slice_get final.types r)) (widens.regs r parts.0) (is_of_on truth (slice_get next.types r) (slice_get final.types r) (starts.regs r) parts.1)

  pub all_read_on : (next final : Next) (scope wide : Scope) → Starts next final → Widens scope wide → (index : List ℕ) → AllRead fixed scope next index → AllRead fixed wide final index
  all_read_on next final scope wide starts widens [] all = tt
  all_read_on next final scope wide starts widens (r ∷ index) all = (reads_on next final scope wide starts widens false r all.0, all_read_on next final scope wide starts widens index all.1)

  cell_on : (next final : Next) (scope wide : Scope) → Widens scope wide → (layout place : ℕ) → holds_of (is_cell (frame_by fixed next) layout) (scope.places place) ≡ true → holds_of (is_cell (frame_by fixed final) layout) (wide.places place) ≡ true
  cell_on next final scope wide widens layout place e = holds_on (is_cell (frame_by fixed final) layout) (scope.places place) (wide.places place) (widens.places place) e

  pub operands_on : (next final : Next) (scope wide : Scope) → Starts next final → Widens scope wide → (how : Op) → operands_fit (frame_by fixed next) scope how ≡ true → operands_fit (frame_by fixed final) wide how ≡ true
  operands_on next final scope wide starts widens (op.Const word truth) e = refl
  operands_on next final scope wide starts widens (op.Var var) e = widens.vars var e
  operands_on next final scope wide starts widens (op.Bin how kind a b) e =
      let parts = and_parts (reads (frame_by fixed next) scope (takes_truth how) a) (reads (frame_by fixed next) scope (takes_truth how) b) e in
      both _ _ (reads_on next final scope wide starts widens (takes_truth how) a parts.0) (reads_on next final scope wide starts widens (takes_truth how) b parts.1)
  operands_on next final scope wide starts widens (op.Un how kind a) e = reads_on next final scope wide starts widens (is_lnot how) a e
  operands_on next final scope wide starts widens (op.Mulq a b s) e =
      let parts = and_parts (reads (frame_by fixed next) scope false a) (reads (frame_by fixed next) scope false b && reads (frame_by fixed next) scope false s) e in
      let more = and_parts (reads (frame_by fixed next) scope false b) (reads (frame_by fixed next) scope false s) parts.1 in
      both _ _ (reads_on next final scope wide starts widens false a parts.0) (both _ _ (reads_on next final scope wide starts widens false b more.0) (reads_on next final scope wide starts widens false s more.1))
  operands_on next final scope wide starts widens (op.Extract div size from) e =
      let parts = and_parts (nat_lt 0 div) (nat_lt 0 size && reads (frame_by fixed next) scope false from) e in
      let more = and_parts (nat_lt 0 size) (reads (frame_by fixed next) scope false from) parts.1 in
      both _ _ parts.0 (both _ _ more.0 (reads_on next final scope wide starts widens false from more.1))
  operands_on next final scope wide starts widens (op.Offset high size low) e =
      let parts = and_parts (nat_lt 0 size) (reads (frame_by fixed next) scope false high && reads (frame_by fixed next) scope false low) e in
      let more = and_parts (reads (frame_by fixed next) scope false high) (reads (frame_by fixed next) scope false low) parts.1 in
      both _ _ parts.0 (both _ _ (reads_on next final scope wide starts widens false high more.0) (reads_on next final scope wide starts widens false low more.1))
  operands_on next final scope wide starts widens (op.Read place layout field) e = cell_on next final scope wide widens layout place e
  operands_on next final scope wide starts widens (op.Active place) e =
      holds_on (λ (known : KnownPlace). is_cell (frame_by fixed final) known.layout known) (scope.places place) (wide.places place) (widens.places place) e
  operands_on next final scope wide starts widens (op.OwnRead layout field) e = refl

  list_reads_on : (next final : Next) (scope wide : Scope) → Starts next final → Widens scope wide → (index : List ℕ) → list_all (reads (frame_by fixed next) scope false) index ≡ true → list_all (reads (frame_by fixed final) wide false) index ≡ true
  list_reads_on next final scope wide starts widens [] e = refl
  list_reads_on next final scope wide starts widens (r ∷ index) e =
      let parts = and_parts (reads (frame_by fixed next) scope false r) (list_all (reads (frame_by fixed next) scope false) index) e in
      both _ _ (reads_on next final scope wide starts widens false r parts.0) (list_reads_on next final scope wide starts widens index parts.1)

  pub index_on : (next final : Next) (scope wide : Scope) → Starts next final → Widens scope wide → (layout : ℕ) (index : List ℕ) → index_fits (frame_by fixed next) scope layout index ≡ true → index_fits (frame_by fixed final) wide layout index ≡ true
  index_on next final scope wide starts widens layout index e = by_shape (slice_get fixed.shapes layout) e
    where
      by_shape : (o : Option Shape) → holds_of (λ (shape : Shape). indexes (frame_by fixed next) scope shape index) o ≡ true → holds_of (λ (shape : Shape). indexes (frame_by fixed final) wide shape index) o ≡ true
      by_shape None e = absurd (cc)
      by_shape (Some shape) e =
          let parts = and_parts (length index == shape.axes) (list_all (reads (frame_by fixed next) scope false) index) e in
          both _ _ parts.0 (list_reads_on next final scope wide starts widens index parts.1)

  pub good_index_on : (next final : Next) (scope wide : Scope) → Starts next final → Widens scope wide → (how : Op) (index : List ℕ) → IndexIsGood (frame_by fixed next) scope how index → IndexIsGood (frame_by fixed final) wide how index
  good_index_on next final scope wide starts widens (op.Const word truth) index good = tt
  good_index_on next final scope wide starts widens (op.Var var) index good = tt
  good_index_on next final scope wide starts widens (op.Bin how kind a b) index good = tt
  good_index_on next final scope wide starts widens (op.Un how kind a) index good = tt
  good_index_on next final scope wide starts widens (op.Mulq a b s) index good = tt
  good_index_on next final scope wide starts widens (op.Extract div size from) index good = tt
  good_index_on next final scope wide starts widens (op.Offset high size low) index good = tt
  good_index_on next final scope wide starts widens (op.Read place layout field) index good = index_on next final scope wide starts widens layout index good
  good_index_on next final scope wide starts widens (op.Active place) index good = by_known (scope.places place) refl good
    where
      by_known : (found : Option KnownPlace) → scope.places place ≡ found → holds_of (λ known. index_fits (frame_by fixed next) scope known.layout index) found ≡ true
          → holds_of (λ (known : KnownPlace). index_fits (frame_by fixed final) wide known.layout index) (wide.places place) ≡ true
      by_known None e h = absurd (cc)
      by_known (Some known) e h = subst (λ (found : Option KnownPlace). holds_of (λ known. index_fits (frame_by fixed final) wide known.layout index) found ≡ true) (sym (widens.places place known e))
          (index_on next final scope wide starts widens known.layout index h)
  good_index_on next final scope wide starts widens (op.OwnRead layout field) index good = tt

  pub step_reads_on : (next final : Next) (scope wide : Scope) → Starts next final → Widens scope wide → (how : Step) → step_reads (frame_by fixed next) scope how ≡ true → step_reads (frame_by fixed final) wide how ≡ true
  step_reads_on next final scope wide starts widens (step.Root layout) e = e
  step_reads_on next final scope wide starts widens (step.Check place axis extent index) e =
      let parts = and_parts (nat_lt 0 extent) (holds_of (checkable (frame_by fixed next) axis extent) (scope.places place) && reads (frame_by fixed next) scope false index) e in
      let more = and_parts (holds_of (checkable (frame_by fixed next) axis extent) (scope.places place)) (reads (frame_by fixed next) scope false index) parts.1 in
      both _ _ parts.0 (both _ _ (holds_on (checkable (frame_by fixed final) axis extent) (scope.places place) (wide.places place) (widens.places place) more.0) (reads_on next final scope wide starts widens false index more.1))
  step_reads_on next final scope wide starts widens (step.Down descent place node offset) e =
      let parts = and_parts (holds_of (descends (frame_by fixed next) (way_by descent) node) (scope.places place)) (reads (frame_by fixed next) scope false offset) e in
      both _ _ (holds_on (descends (frame_by fixed final) (way_by descent) node) (scope.places place) (wide.places place) (widens.places place) parts.0) (reads_on next final scope wide starts widens false offset parts.1)

-- what is known of a place stays
pub known_on : (scope wide : Scope) → Widens scope wide → (how : Step) (k : KnownPlace) → step_known scope how ≡ Some k → step_known wide how ≡ Some k
known_on scope wide widens (step.Root layout) k e = e
known_on scope wide widens (step.Check place axis extent index) k e = map_on (λ (known : KnownPlace). record { layout = known.layout; passed = 0 }) (scope.places place) (wide.places place) k (widens.places place) e
known_on scope wide widens (step.Down descent place node offset) k e = map_on (λ (known : KnownPlace). record { layout = known.layout; passed = node }) (scope.places place) (wide.places place) k (widens.places place) e

-- ---- the instruction that sets a register
pub word_fits : (at : Frame) (scope : Scope) (n : ℕ) (how : Op) (index : List ℕ) (rest : Block) → operands_fit at scope how ≡ true → gives_type (truth_of at.shapes at.vars how) (slice_get at.regs n) ≡ true → IndexIsGood at scope how index
    → fits_scope at (well.with_reg n scope) rest ≡ true → fits_scope at scope (set_word n how index rest) ≡ true
word_fits at scope n (op.Const word truth) index rest reads_ok type good more = both _ _ (both _ _ reads_ok type) more
word_fits at scope n (op.Var var) index rest reads_ok type good more = both _ _ (both _ _ reads_ok type) more
word_fits at scope n (op.Bin how kind a b) index rest reads_ok type good more = both _ _ (both _ _ reads_ok type) more
word_fits at scope n (op.Un how kind a) index rest reads_ok type good more = both _ _ (both _ _ reads_ok type) more
word_fits at scope n (op.Mulq a b s) index rest reads_ok type good more = both _ _ (both _ _ reads_ok type) more
word_fits at scope n (op.Extract div size from) index rest reads_ok type good more = both _ _ (both _ _ reads_ok type) more
word_fits at scope n (op.Offset high size low) index rest reads_ok type good more = both _ _ (both _ _ reads_ok type) more
word_fits at scope n (op.Read place layout field) index rest reads_ok type good more = both _ _ (both _ _ reads_ok (both _ _ type good)) more
word_fits at scope n (op.Active place) index rest reads_ok type good more = both _ _ (both _ _ reads_ok (both _ _ type good)) more
word_fits at scope n (op.OwnRead layout field) index rest reads_ok type good more = both _ _ (both _ _ reads_ok type) more

-- ---- what is known, where more is in scope and more was put out
put_unset : {A : Type 0} (n : ℕ) (it none : A) (set : ℕ → A) → ((r : ℕ) → n ≤ r → set r ≡ none) → (r : ℕ) → suc n ≤ r → put n it set r ≡ none
put_unset {A} n it none set free r above = by_test (r == n) refl
  where
    by_test : (test : Bool) → (r == n) ≡ test → (if test then it else set r) ≡ none
    by_test true e = let is : r ≡ n = eqb-true r n e in absurd (omega (arith, above))
    by_test false e = free r (omega (arith, above))

pub put_here : {A : Type 0} (n : ℕ) (it : A) (set : ℕ → A) → put n it set n ≡ it
put_here {A} n it set = by_test (n == n) (eq_same n)
  where
    by_test : (test : Bool) → test ≡ true → (if test then it else set n) ≡ it
    by_test true e = refl
    by_test false e = absurd (cc)

module _ (fixed : Fixed) where
  -- the tables, in a wider scope, where more was put out
  pub ops_on : (scope wide : Scope) (next further : Next) → Widens scope wide → Starts next further → (ops : List (Op × ℕ)) → EachByRecursion (OpTyped fixed scope next) ops → EachByRecursion (OpTyped fixed wide further) ops
  ops_on scope wide next further widens starts ops all = each_map (OpTyped fixed scope next) (OpTyped fixed wide further)
      (λ entry h. record { set = widens.regs entry.1 h.set; type = gives_on (truth_of fixed.shapes fixed.vars entry.0) (slice_get next.types entry.1) (slice_get further.types entry.1) (starts.regs entry.1) h.type }) ops all

  pub steps_on : (scope wide : Scope) → Widens scope wide → (steps : List (Step × ℕ)) → EachByRecursion (StepTyped scope) steps → EachByRecursion (StepTyped wide) steps
  steps_on scope wide widens steps all = each_map (StepTyped scope) (StepTyped wide)
      (λ entry h. record { known = h.known; comes = known_on scope wide widens entry.0 h.known h.comes; here = widens.places entry.1 h.known h.here }) steps all

  pub types_reg : (scope : Scope) (known : Pass) (next : Next) (type : Ty) (span : Span) → Types fixed scope known next → Types fixed (well.with_reg (length next.spans) scope) known (next_with_reg type span next)
  types_reg scope known next type span h = let n = length next.spans in record {
    even = length_push next.types type ∙ (ap suc h.even ∙ sym (length_push next.spans span));
    ops = ops_on scope (well.with_reg n scope) next (next_with_reg type span next) (widens_reg n scope) (starts_reg type span next) known.ops h.ops;
    steps = steps_on scope (well.with_reg n scope) (widens_reg n scope) known.steps h.steps;
    free_regs = λ r above. put_unset n true false scope.regs h.free_regs r (subst (λ k. k ≤ r) (length_push next.spans span) above);
    free_places = h.free_places;
  }

  pub types_place : (scope : Scope) (known : Pass) (next : Next) (place : KnownPlace) → Types fixed scope known next → Types fixed (well.with_place next.places place scope) known (next_with_place next)
  types_place scope known next place h = let n = next.places in let widens = widens_place n place scope (h.free_places n (omega arith)) in record {
    even = h.even;
    ops = ops_on scope (well.with_place n place scope) next (next_with_place next) widens (starts_place next) known.ops h.ops;
    steps = steps_on scope (well.with_place n place scope) widens known.steps h.steps;
    free_regs = h.free_regs;
    free_places = λ p above. put_unset n (Some place) None scope.places h.free_places p above;
  }

  pub types_var : (scope : Scope) (known : Pass) (next : Next) (var : ℕ) → Types fixed scope known next → Types fixed (well.with_var var scope) known next
  types_var scope known next var h = record {
    even = h.even;
    ops = ops_on scope (well.with_var var scope) next next (widens_var var scope) (starts_same next) known.ops h.ops;
    steps = steps_on scope (well.with_var var scope) (widens_var var scope) known.steps h.steps;
    free_regs = h.free_regs;
    free_places = h.free_places;
  }

  -- where more was put out that isn't in scope
  pub types_grown : (scope : Scope) (known : Pass) (next further : Next) → Starts next further → length further.types ≡ length further.spans → length next.spans ≤ length further.spans → Types fixed scope known next → Types fixed scope known further
  types_grown scope known next further starts even longer h = let places = starts.places in record {
    even = even;
    ops = ops_on scope scope next further (widens_same scope) starts known.ops h.ops;
    steps = h.steps;
    free_regs = λ r above. h.free_regs r (omega (arith, above));
    free_places = λ p above. h.free_places p (omega (arith, above));
  }

  pub types_named : (scope : Scope) (known : Pass) (next : Next) (to t : ℕ) → Types fixed scope known next → Types fixed scope known (with_name to t next)
  types_named scope known next to t h = record {
    even = h.even;
    ops = ops_on scope scope next (with_name to t next) (widens_same scope) (record { regs = λ r type e. e; places = omega arith }) known.ops h.ops;
    steps = h.steps;
    free_regs = h.free_regs;
    free_places = h.free_places;
  }

  -- a name that is given has no part in what is put out
  pub unnamed : (scope : Scope) (next : Next) (to t : ℕ) (made : Block × Next) → Typed fixed scope (with_name to t next) made → Typed fixed scope next made
  unnamed scope next to t made h = record {
    grows = λ final s. let g = h.grows final s in record { regs = g.regs; places = g.places };
    even = h.even;
    longer = h.longer;
    good = h.good;
  }
