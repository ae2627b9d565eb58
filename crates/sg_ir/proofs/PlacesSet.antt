-- How often what instructions set sets a place.
use Rattle.std.proofs.Common.{◌≡◌, ℕ, ◌+◌, ◌≤◌, Bool, true, false, not, ◌||◌, ◌==◌, List, [], ◌∷◌, ◌++◌, refl, sym, subst, lit≤, zero-add, arith, eq-eqb}
use Rattle.std.specs.Prelude.{if◌then◌else◌}
use Rattle.std.specs.List.{list_any, flat_map}
use Rattle.std.proofs.lemmas.Bool.{both_ways, and_parts, eqb-true}
use Rattle.sg_ir.specs.WellTyped.{SetName, SetsReg, SetsPlace, SetsVar, place_number, has_no_twice}

abbrev pub times : ℕ → List SetName → ℕ
times p [] = 0
times p (SetsReg r ∷ set) = times p set
times p (SetsVar var ∷ set) = times p set
times p (SetsPlace q ∷ set) = times p set + (if q == p then 1 else 0)

pub times-append : (p : ℕ) (set more : List SetName) → times p (set ++ more) ≡ times p set + times p more
times-append p [] more = sym (zero-add (times p more))
times-append p (SetsReg r ∷ set) more = times-append p set more
times-append p (SetsVar var ∷ set) more = times-append p set more
times-append p (SetsPlace q ∷ set) more = turned (times p (set ++ more)) (times p set) (times p more) (if q == p then 1 else 0) (times-append p set more)
  where
    turned : (all a b one : ℕ) → all ≡ a + b → all + one ≡ (a + one) + b
    turned all a b one e = omega (arith, e)

none_times : (p : ℕ) (set : List SetName) → list_any (λ y. y == p) (flat_map place_number set) ≡ false → times p set ≡ 0
none_times p [] h = refl
none_times p (SetsReg r ∷ set) h = none_times p set h
none_times p (SetsVar var ∷ set) h = none_times p set h
none_times p (SetsPlace q ∷ set) h = by_test (q == p) h (none_times p set)
  where
    none_more : (n : ℕ) → n ≡ 0 → n + 0 ≡ 0
    none_more n is = omega (arith, is)

    by_test : (test : Bool) → (test || list_any (λ y. y == p) (flat_map place_number set)) ≡ false → (list_any (λ y. y == p) (flat_map place_number set) ≡ false → times p set ≡ 0) → times p set + (if test then 1 else 0) ≡ 0
    by_test true e more = absurd (cc)
    by_test false e more = none_more (times p set) (more e)

-- what has nothing twice, sets each place once at most
abbrev pub Once : List SetName → Type 0
Once set = (p : ℕ) → times p set ≤ 1

pub is_once : (set : List SetName) → has_no_twice (flat_map place_number set) ≡ true → Once set
is_once [] h p = lit≤ tt
is_once (SetsReg r ∷ set) h p = is_once set h p
is_once (SetsVar var ∷ set) h p = is_once set h p
is_once (SetsPlace q ∷ set) h p =
    let parts = and_parts (not (list_any (λ y. y == q) (flat_map place_number set))) (has_no_twice (flat_map place_number set)) h in
    by_test (q == p) refl (is_not (list_any (λ y. y == q) (flat_map place_number set)) parts.0) (is_once set parts.1 p)
  where
    is_not : (b : Bool) → not b ≡ true → b ≡ false
    is_not true e = absurd (cc)
    is_not false e = refl

    one_more : (n : ℕ) → n ≡ 0 → n + 1 ≤ 1
    one_more n e = omega (arith, e)

    few_more : (n : ℕ) → n ≤ 1 → n + 0 ≤ 1
    few_more n e = omega (arith, e)

    by_test : (test : Bool) → (q == p) ≡ test → list_any (λ y. y == q) (flat_map place_number set) ≡ false → times p set ≤ 1 → times p set + (if test then 1 else 0) ≤ 1
    by_test true e none few = one_more (times p set) (subst (λ (n : ℕ). times n set ≡ 0) (eqb-true q p e) (none_times q set none))
    by_test false e none few = few_more (times p set) few

pub sets_it : (to : ℕ) → times to (SetsPlace to ∷ []) ≡ 0 → ⊥
sets_it to none = by_test (to == to) (eq-eqb to to refl) none
  where
    one_is : 0 + 1 ≡ 0 → ⊥
    one_is e = absurd (omega (arith, e))

    by_test : (test : Bool) → test ≡ true → 0 + (if test then 1 else 0) ≡ 0 → ⊥
    by_test true e none = one_is none
    by_test false e none = both_ways false refl e

pub none_front : (p : ℕ) (set more : List SetName) → times p (set ++ more) ≡ 0 → times p set ≡ 0
none_front p set more none = let both = times-append p set more in omega (arith, none, both)

pub none_behind : (p : ℕ) (set more : List SetName) → times p (set ++ more) ≡ 0 → times p more ≡ 0
none_behind p set more none = let both = times-append p set more in omega (arith, none, both)

pub once_front : (set more : List SetName) → Once (set ++ more) → Once set
once_front set more once p = let both = times-append p set more in let few = once p in omega (arith, both, few)

pub once_behind : (set more : List SetName) → Once (set ++ more) → Once more
once_behind set more once p = let both = times-append p set more in let few = once p in omega (arith, both, few)
