-- Code whose accesses are trim and that asks good layouts only: what that tells, and when given code is such.
use Rattle.std.specs.Prelude.{◌≡◌, refl, ℕ, ◌==◌, Bool, true, false, not, ◌&&◌, ◌||◌, if◌then◌else◌, List, [], ◌∷◌, ◌++◌, Option, Some, Contains}
use Rattle.std.specs.List.{list_all, list_any}
use Rattle.std.proofs.Common.{eqb, sym, ap, subst, ◌∙◌}
use Rattle.std.proofs.lemmas.Bool.{eqb-true, and_parts, and_from}
use Rattle.std.proofs.lemmas.Cmp.{nat_eq_equiv}
use Rattle.std.proofs.lemmas.Map.Views.{Contains-from_any, list_any-from_Contains, exact_unsigned_eq}
use Rattle.sg_layout.specs.declared.shape.Shape.{Shape}
use Rattle.sg_ir.specs.declared.op.Step.{Step}
use Rattle.sg_ir.specs.declared.op.Step.TheVariants as step
use Rattle.sg_ir.specs.Blocks.{Block, End, Word, Spot, Cell, Do, Branch, Loop, SetVar, WriteOwn, Contribute, Wish, Value, Activity}
use Rattle.sg_ir.specs.Span.{whole_i32, Spans, op_span, with_span, in_loop}
use Rattle.sg_ir.specs.Trimmed.{Way, Ways, way_of, way_behind, is_trim, is_trim_in, accesses_are_trim, listed, asked}
use Rattle.sg_ir.specs.InScope.{InScope, and_reg, and_place, step_places, AreSet, IsScoped}
use Rattle.sg_simplify.specs.steps.Pass.{root_known, root_by}
use Rattle.sg_simplify.specs.steps.Ruled.{HasRoots}
use Rattle.sg_simplify.specs.steps.Trims.{sight_is_good, answers, AsksGood}
use Rattle.sg_simplify.proofs.Onward.{other_place, way_here, way_kept}

-- ---- numbers by tests
-- a test that passes for all
pub all_good : (xs : List ℕ) → list_all (λ layout. true) xs ≡ true
all_good [] = refl
all_good (x ∷ xs) = all_good xs

module _ (good : ℕ → Bool) where
  all_both : (xs ys : List ℕ) → list_all good xs ≡ true → list_all good ys ≡ true → list_all good (xs ++ ys) ≡ true
  all_both [] ys first second = second
  all_both (x ∷ xs) ys first second =
      let parts = and_parts (good x) (list_all good xs) first in and_from (good x) (list_all good (xs ++ ys)) parts.0 (all_both xs ys parts.1 second)

  all_parts : (xs ys : List ℕ) → list_all good (xs ++ ys) ≡ true → (list_all good xs ≡ true) × (list_all good ys ≡ true)
  all_parts [] ys both = (refl, both)
  all_parts (x ∷ xs) ys both =
      let parts = and_parts (good x) (list_all good (xs ++ ys)) both in
      let more = all_parts xs ys parts.1 in (and_from (good x) (list_all good xs) parts.0 more.0, more.1)

none_is : (it : ℕ) (xs : List ℕ) → list_any (eqb it) xs ≡ false → list_all (λ x. not (eqb it x)) xs ≡ true
none_is it [] none = refl
none_is it (x ∷ xs) none = by_test (eqb it x) none (none_is it xs)
  where
    by_test : (test : Bool) → (test || list_any (eqb it) xs) ≡ false → (list_any (eqb it) xs ≡ false → list_all (λ x. not (eqb it x)) xs ≡ true) → (not test && list_all (λ x. not (eqb it x)) xs) ≡ true
    by_test true e more = absurd (cc)
    by_test false e more = more e

is_none : (it : ℕ) (xs : List ℕ) → list_all (λ x. not (eqb it x)) xs ≡ true → list_any (eqb it) xs ≡ false
is_none it [] none = refl
is_none it (x ∷ xs) none = by_test (eqb it x) none (is_none it xs)
  where
    by_test : (test : Bool) → (not test && list_all (λ x. not (eqb it x)) xs) ≡ true → (list_all (λ x. not (eqb it x)) xs ≡ true → list_any (eqb it) xs ≡ false) → (test || list_any (eqb it) xs) ≡ false
    by_test true e more = absurd (cc)
    by_test false e more = more e

-- if each test that passes for all given numbers passes for all of these, each is one of the given ones
pub only_asked : (given made : List ℕ) → ((good : ℕ → Bool) → list_all good given ≡ true → list_all good made ≡ true) → (it : ℕ) → Contains made it → Contains given it
only_asked given made passes it has = by_test (list_any (eqb it) given) refl
  where
    clash : true ≡ false → ⊥
    clash e = absurd (cc)

    by_test : (test : Bool) → list_any (eqb it) given ≡ test → Contains given it
    by_test true e = Contains-from_any {eq = eqb} exact_unsigned_eq it given e
    by_test false e =
        absurd (clash (sym (list_any-from_Contains {eq = eqb} nat_eq_equiv it made has) ∙ is_none it made (passes (λ x. not (eqb it x)) (none_is it given e))))

-- ---- what answers is trim and asks good layouts only
module _ (good : ℕ → Bool) (shapes : List Shape) where
  pub answers_trim : (block : Block) (spans : Spans) (ways : Ways) → answers good shapes spans ways block ≡ true → accesses_are_trim shapes spans ways block ≡ true
  answers_trim End spans ways e = refl
  answers_trim (Word to how rest) spans ways e = answers_trim rest (with_span to (op_span spans how) spans) ways e
  answers_trim (Spot to how rest) spans ways e = answers_trim rest spans ((to, way_behind ways to how) ∷ ways) e
  answers_trim (Cell to place (Value layout field) index rest) spans ways e =
      let parts = and_parts (is_trim shapes spans ways layout place index) (answers good shapes (with_span to whole_i32 spans) ways rest) e in
      and_from (is_trim shapes spans ways layout place index) (accesses_are_trim shapes (with_span to whole_i32 spans) ways rest) parts.0 (answers_trim rest (with_span to whole_i32 spans) ways parts.1)
  answers_trim (Cell to place Activity index rest) spans ways e =
      let parts = and_parts (sight_is_good good shapes spans ways place Activity index) (answers good shapes (with_span to whole_i32 spans) ways rest) e in
      and_from (is_trim_in shapes spans ways (way_of ways place).root place index) (accesses_are_trim shapes (with_span to whole_i32 spans) ways rest)
      (and_parts (is_trim_in shapes spans ways (way_of ways place).root place index) (list_all good (listed (way_of ways place).root)) parts.0).0 (answers_trim rest (with_span to whole_i32 spans) ways parts.1)
  answers_trim (Do (SetVar var from) rest) spans ways e = answers_trim rest spans ways e
  answers_trim (Do (WriteOwn layout field from stmt) rest) spans ways e = answers_trim rest spans ways e
  answers_trim (Do (Contribute how layout field place from index stmt) rest) spans ways e =
      let parts = and_parts (is_trim shapes spans ways layout place index) (answers good shapes spans ways rest) e in
      and_from (is_trim shapes spans ways layout place index) (accesses_are_trim shapes spans ways rest) parts.0 (answers_trim rest spans ways parts.1)
  answers_trim (Do (Wish layout index stmt) rest) spans ways e = answers_trim rest spans ways e
  answers_trim (Branch cond block otherwise rest) spans ways e =
      let first = and_parts (answers good shapes spans ways block) (answers good shapes spans ways otherwise && answers good shapes spans ways rest) e in
      let second = and_parts (answers good shapes spans ways otherwise) (answers good shapes spans ways rest) first.1 in
      and_from (accesses_are_trim shapes spans ways block) (accesses_are_trim shapes spans ways otherwise && accesses_are_trim shapes spans ways rest) (answers_trim block spans ways first.0)
      (and_from (accesses_are_trim shapes spans ways otherwise) (accesses_are_trim shapes spans ways rest) (answers_trim otherwise spans ways second.0) (answers_trim rest spans ways second.1))
  answers_trim (Loop var lo hi body rest) spans ways e =
      let parts = and_parts (answers good shapes (in_loop var lo hi spans) ways body) (answers good shapes spans ways rest) e in
      and_from (accesses_are_trim shapes (in_loop var lo hi spans) ways body) (accesses_are_trim shapes spans ways rest) (answers_trim body (in_loop var lo hi spans) ways parts.0) (answers_trim rest spans ways parts.1)

  pub answers_asked : (block : Block) (spans : Spans) (ways : Ways) → answers good shapes spans ways block ≡ true → list_all good (asked ways block) ≡ true
  answers_asked End spans ways e = refl
  answers_asked (Word to how rest) spans ways e = answers_asked rest (with_span to (op_span spans how) spans) ways e
  answers_asked (Spot to how rest) spans ways e = answers_asked rest spans ((to, way_behind ways to how) ∷ ways) e
  answers_asked (Cell to place (Value layout field) index rest) spans ways e =
      answers_asked rest (with_span to whole_i32 spans) ways (and_parts (is_trim shapes spans ways layout place index) (answers good shapes (with_span to whole_i32 spans) ways rest) e).1
  answers_asked (Cell to place Activity index rest) spans ways e =
      let parts = and_parts (sight_is_good good shapes spans ways place Activity index) (answers good shapes (with_span to whole_i32 spans) ways rest) e in
      all_both good (listed (way_of ways place).root) (asked ways rest)
      (and_parts (is_trim_in shapes spans ways (way_of ways place).root place index) (list_all good (listed (way_of ways place).root)) parts.0).1 (answers_asked rest (with_span to whole_i32 spans) ways parts.1)
  answers_asked (Do (SetVar var from) rest) spans ways e = answers_asked rest spans ways e
  answers_asked (Do (WriteOwn layout field from stmt) rest) spans ways e = answers_asked rest spans ways e
  answers_asked (Do (Contribute how layout field place from index stmt) rest) spans ways e =
      answers_asked rest spans ways (and_parts (is_trim shapes spans ways layout place index) (answers good shapes spans ways rest) e).1
  answers_asked (Do (Wish layout index stmt) rest) spans ways e = answers_asked rest spans ways e
  answers_asked (Branch cond block otherwise rest) spans ways e =
      let first = and_parts (answers good shapes spans ways block) (answers good shapes spans ways otherwise && answers good shapes spans ways rest) e in
      let second = and_parts (answers good shapes spans ways otherwise) (answers good shapes spans ways rest) first.1 in
      all_both good (asked ways block) (asked ways otherwise ++ asked ways rest) (answers_asked block spans ways first.0)
      (all_both good (asked ways otherwise) (asked ways rest) (answers_asked otherwise spans ways second.0) (answers_asked rest spans ways second.1))
  answers_asked (Loop var lo hi body rest) spans ways e =
      let parts = and_parts (answers good shapes (in_loop var lo hi spans) ways body) (answers good shapes spans ways rest) e in
      all_both good (asked ways body) (asked ways rest) (answers_asked body (in_loop var lo hi spans) ways parts.0) (answers_asked rest spans ways parts.1)

  -- and the other way
  pub both_answer : (block : Block) (spans : Spans) (ways : Ways) → accesses_are_trim shapes spans ways block ≡ true → list_all good (asked ways block) ≡ true → answers good shapes spans ways block ≡ true
  both_answer End spans ways e asks = refl
  both_answer (Word to how rest) spans ways e asks = both_answer rest (with_span to (op_span spans how) spans) ways e asks
  both_answer (Spot to how rest) spans ways e asks = both_answer rest spans ((to, way_behind ways to how) ∷ ways) e asks
  both_answer (Cell to place (Value layout field) index rest) spans ways e asks =
      let parts = and_parts (is_trim shapes spans ways layout place index) (accesses_are_trim shapes (with_span to whole_i32 spans) ways rest) e in
      and_from (is_trim shapes spans ways layout place index) (answers good shapes (with_span to whole_i32 spans) ways rest) parts.0 (both_answer rest (with_span to whole_i32 spans) ways parts.1 asks)
  both_answer (Cell to place Activity index rest) spans ways e asks =
      let parts = and_parts (is_trim_in shapes spans ways (way_of ways place).root place index) (accesses_are_trim shapes (with_span to whole_i32 spans) ways rest) e in
      let here = all_parts good (listed (way_of ways place).root) (asked ways rest) asks in
      and_from (sight_is_good good shapes spans ways place Activity index) (answers good shapes (with_span to whole_i32 spans) ways rest)
      (and_from (is_trim_in shapes spans ways (way_of ways place).root place index) (list_all good (listed (way_of ways place).root)) parts.0 here.0) (both_answer rest (with_span to whole_i32 spans) ways parts.1 here.1)
  both_answer (Do (SetVar var from) rest) spans ways e asks = both_answer rest spans ways e asks
  both_answer (Do (WriteOwn layout field from stmt) rest) spans ways e asks = both_answer rest spans ways e asks
  both_answer (Do (Contribute how layout field place from index stmt) rest) spans ways e asks =
      let parts = and_parts (is_trim shapes spans ways layout place index) (accesses_are_trim shapes spans ways rest) e in
      and_from (is_trim shapes spans ways layout place index) (answers good shapes spans ways rest) parts.0 (both_answer rest spans ways parts.1 asks)
  both_answer (Do (Wish layout index stmt) rest) spans ways e asks = both_answer rest spans ways e asks
  both_answer (Branch cond block otherwise rest) spans ways e asks =
      let first = and_parts (accesses_are_trim shapes spans ways block) (accesses_are_trim shapes spans ways otherwise && accesses_are_trim shapes spans ways rest) e in
      let second = and_parts (accesses_are_trim shapes spans ways otherwise) (accesses_are_trim shapes spans ways rest) first.1 in
      let one = all_parts good (asked ways block) (asked ways otherwise ++ asked ways rest) asks in
      let two = all_parts good (asked ways otherwise) (asked ways rest) one.1 in
      and_from (answers good shapes spans ways block) (answers good shapes spans ways otherwise && answers good shapes spans ways rest) (both_answer block spans ways first.0 one.0)
      (and_from (answers good shapes spans ways otherwise) (answers good shapes spans ways rest) (both_answer otherwise spans ways second.0 two.0) (both_answer rest spans ways second.1 two.1))
  both_answer (Loop var lo hi body rest) spans ways e asks =
      let parts = and_parts (accesses_are_trim shapes (in_loop var lo hi spans) ways body) (accesses_are_trim shapes spans ways rest) e in
      let turns = all_parts good (asked ways body) (asked ways rest) asks in
      and_from (answers good shapes (in_loop var lo hi spans) ways body) (answers good shapes spans ways rest) (both_answer body (in_loop var lo hi spans) ways parts.0 turns.0) (both_answer rest spans ways parts.1 turns.1)

-- ---- given code
pub all_ask : (roots : List (ℕ × ℕ)) (block : Block) → AsksGood (λ layout. true) roots block
all_ask roots End = tt
all_ask roots (Word to how rest) = all_ask roots rest
all_ask roots (Spot to how rest) = all_ask roots rest
all_ask roots (Cell to place (Value layout field) index rest) = (tt, all_ask roots rest)
all_ask roots (Cell to place Activity index rest) = (refl, all_ask roots rest)
all_ask roots (Do what rest) = all_ask roots rest
all_ask roots (Branch cond block otherwise rest) = (all_ask roots block, all_ask roots otherwise, all_ask roots rest)
all_ask roots (Loop var lo hi body rest) = (all_ask roots body, all_ask roots rest)

module _ (roots : List (ℕ × ℕ)) where
  -- the ways to the places in scope come from the roots that are known of them
  abbrev Ties : InScope → Ways → Type 0
  Ties scope ways = (p : ℕ) → scope.places p ≡ true → (way_of ways p).root ≡ Some (root_known roots p)

  root_behind : (scope : InScope) (ways : Ways) (to : ℕ) (how : Step) → AreSet scope.places (step_places how) → Ties scope ways → (way_behind ways to how).root ≡ Some (root_by roots how)
  root_behind scope ways to (step.Root layout) set ties = refl
  root_behind scope ways to (step.Check place axis extent index) set ties = ties place set.0
  root_behind scope ways to (step.Down descent place node offset) set ties = ties place set.0

  spot_ties : (scope : InScope) (ways : Ways) (to : ℕ) (how : Step) → AreSet scope.places (step_places how) → scope.places to ≡ false → root_known roots to ≡ root_by roots how → Ties scope ways
      → Ties (and_place to scope) ((to, way_behind ways to how) ∷ ways)
  spot_ties scope ways to how set free is ties p on = by_test (p == to) refl on
    where
      here : (way_of ((to, way_behind ways to how) ∷ ways) to).root ≡ Some (root_known roots to)
      here = ap (λ (w : Way). w.root) (way_here ways to (way_behind ways to how)) ∙ (root_behind scope ways to how set ties ∙ ap (λ l. Some l) (sym is))

      by_test : (test : Bool) → (p == to) ≡ test → (if test then true else scope.places p) ≡ true → (way_of ((to, way_behind ways to how) ∷ ways) p).root ≡ Some (root_known roots p)
      by_test true e there = subst (λ k. (way_of ((to, way_behind ways to how) ∷ ways) k).root ≡ Some (root_known roots k)) (sym (eqb-true p to e)) here
      by_test false e there = ap (λ (w : Way). w.root) (way_kept ways to p (way_behind ways to how) (other_place scope to p free there)) ∙ ties p there

  -- a block that asks good layouts does so by the roots that are known of its places
  pub covers : (good : ℕ → Bool) (block : Block) (scope : InScope) (ways : Ways) → IsScoped scope block → HasRoots roots block → Ties scope ways → list_all good (asked ways block) ≡ true → AsksGood good roots block
  covers good End scope ways scoped rooted ties e = tt
  covers good (Word to how rest) scope ways scoped rooted ties e = covers good rest (and_reg to scope) ways scoped.3 rooted ties e
  covers good (Spot to how rest) scope ways scoped rooted ties e =
      covers good rest (and_place to scope) ((to, way_behind ways to how) ∷ ways) scoped.3 rooted.1 (spot_ties scope ways to how scoped.1 scoped.2 rooted.0 ties) e
  covers good (Cell to place (Value layout field) index rest) scope ways scoped rooted ties e = (tt, covers good rest (and_reg to scope) ways scoped.2 rooted ties e)
  covers good (Cell to place Activity index rest) scope ways scoped rooted ties e =
      let parts = all_parts good (listed (way_of ways place).root) (asked ways rest) e in
      let here : (good (root_known roots place) && true) ≡ true = subst (λ (found : Option ℕ). list_all good (listed found) ≡ true) (ties place scoped.0.0) parts.0 in
      ((and_parts (good (root_known roots place)) true here).0, covers good rest (and_reg to scope) ways scoped.2 rooted ties parts.1)
  covers good (Do what rest) scope ways scoped rooted ties e = covers good rest scope ways scoped.2 rooted ties e
  covers good (Branch cond block otherwise rest) scope ways scoped rooted ties e =
      let one = all_parts good (asked ways block) (asked ways otherwise ++ asked ways rest) e in
      let two = all_parts good (asked ways otherwise) (asked ways rest) one.1 in
      (covers good block scope ways scoped.1 rooted.0 ties one.0, covers good otherwise scope ways scoped.2 rooted.1 ties two.0, covers good rest scope ways scoped.3 rooted.2 ties two.1)
  covers good (Loop var lo hi body rest) scope ways scoped rooted ties e =
      let parts = all_parts good (asked ways body) (asked ways rest) e in
      (covers good body scope ways scoped.0 rooted.0 ties parts.0, covers good rest scope ways scoped.1 rooted.1 ties parts.1)
