-- Lists of slots with each member once: what they have, and how sums over them grow.
use Rattle.std.proofs.Common.{◌≡◌, ◌≢◌, ℕ, zero, suc, ◌+◌, ◌≤◌, Bool, true, false, cond, List, [], ◌∷◌, ◌++◌, length, refl, sym, ap, ◌∙◌, subst, arith, inl, inr, ◌⊎◌}
use Rattle.std.specs.List.{Contains, AllPairs, list_any, sum_by}
use Rattle.std.specs.Str.{bytes_eq}
use Rattle.std.specs.Cmp.Lexicographic.{bytes_decides}
use Rattle.std.proofs.lemmas.Bool.{cases_Bool, false≢true}
use Rattle.std.proofs.lemmas.List.{get_or_default}
use Rattle.std.proofs.lemmas.List.Elements.{Contains-append_left, Contains-append_right, Contains-append_cases}
use Rattle.std.proofs.lemmas.List.Sums.{sum_by-cons, sum_by-append}
use Rattle.std.proofs.lemmas.List.Folds.{Any-from_list_any, list_any-from_Any}
use Rattle.sg_layout.specs.Need.{distinct}
use Rattle.sg_words.proofs.Uses.{contains_none, contains_head, contains_rest, contains_cases}

-- the test that a list has a slot
has_slot : (slot : List ℕ) (slots : List (List ℕ)) → list_any (bytes_eq slot) slots ≡ true → Contains slots slot
has_slot slot slots found =
    let place = Any-from_list_any (bytes_eq slot) slots found in
    let same : slot ≡ place.1 = (bytes_decides slot place.1).0 place.4 in
    subst (λ s. Contains slots s) (sym same) (place.0, place.2, place.3)

tests_slot : (slot : List ℕ) (slots : List (List ℕ)) → Contains slots slot → list_any (bytes_eq slot) slots ≡ true
tests_slot slot slots (k, below, same) = list_any-from_Any (bytes_eq slot) slots (k, slot, below, same, (bytes_decides slot slot).1 refl)

abbrev pick : Bool → List ℕ → List (List ℕ) → List (List ℕ)
pick later slot slots = cond later (distinct slots) (slot ∷ distinct slots)

-- a list of distinct slots has what the list has
into_pick : (later : Bool) (slot : List ℕ) (slots : List (List ℕ)) (x : List ℕ) → Contains (distinct slots) x → Contains (pick later slot slots) x
into_pick true slot slots x has = has
into_pick false slot slots x has = contains_rest x slot (distinct slots) has

pub into_distinct : (slots : List (List ℕ)) (x : List ℕ) → Contains slots x → Contains (distinct slots) x
into_distinct [] x has = has
into_distinct (slot ∷ slots) x has = elim (contains_cases x slot slots has) [
  | inl same ↦ elim (cases_Bool (list_any (bytes_eq slot) slots)) [
    | inl later ↦
        let rest : Contains (distinct slots) x = into_distinct slots x (subst (λ s. Contains slots s) same (has_slot slot slots later)) in
        into_pick (list_any (bytes_eq slot) slots) slot slots x rest
    | inr first ↦ subst (λ b. Contains (pick b slot slots) x) (sym first) (contains_head x slot (distinct slots) same)
  ]
  | inr rest ↦ into_pick (list_any (bytes_eq slot) slots) slot slots x (into_distinct slots x rest)
]

from_pick : (later : Bool) (slot : List ℕ) (slots : List (List ℕ)) (x : List ℕ) → Contains (pick later slot slots) x → (slot ≡ x) ⊎ Contains (distinct slots) x
from_pick true slot slots x has = inr has
from_pick false slot slots x has = contains_cases x slot (distinct slots) has

pub from_distinct : (slots : List (List ℕ)) (x : List ℕ) → Contains (distinct slots) x → Contains slots x
from_distinct [] x has = has
from_distinct (slot ∷ slots) x has = elim (from_pick (list_any (bytes_eq slot) slots) slot slots x has) [
  | inl same ↦ contains_head x slot slots same
  | inr rest ↦ contains_rest x slot slots (from_distinct slots x rest)
]

-- each member once, by recursion: no member is in the rest
abbrev pub Once : List (List ℕ) → Type 0
Once [] = Unit {0}
Once (x ∷ xs) = (Contains xs x → ⊥) × Once xs

once_pick : (later : Bool) (slot : List ℕ) (slots : List (List ℕ)) → (later ≡ false → Contains slots slot → ⊥) → Once (distinct slots) → Once (pick later slot slots)
once_pick true slot slots apart rest = rest
once_pick false slot slots apart rest = ((λ has. apart refl (from_distinct slots slot has)), rest)

pub distinct_once : (slots : List (List ℕ)) → Once (distinct slots)
distinct_once [] = tt
distinct_once (slot ∷ slots) =
    once_pick (list_any (bytes_eq slot) slots) slot slots
    (λ first has. false≢true (sym first ∙ tests_slot slot slots has))
    (distinct_once slots)

pub once_pairs : (xs : List (List ℕ)) → Once xs → AllPairs (λ x y. x ≢ y) xs
once_pairs [] once i j default before below = absurd (omega arith)
once_pairs (x ∷ xs) once i zero default before below = absurd (omega arith)
once_pairs (x ∷ xs) once zero (suc j) default before below =
    (λ same. once.0 (j, omega arith, get_or_default xs j x default (omega arith) ∙ sym same))
once_pairs (x ∷ xs) once (suc i) (suc j) default before below = once_pairs xs once.1 i j default (omega arith) (omega arith)

-- a list around one of its members
around : {X : Type 0} (x : X) (xs : List X) → Contains xs x → (front : List X) × (back : List X) × (xs ≡ front ++ x ∷ back)
around x [] has = absurd (contains_none x has)
around x (y ∷ xs) (zero, below, same) = ([], xs, ap (λ z. z ∷ xs) same)
around x (y ∷ xs) (suc k, below, same) =
    let rest = around x xs (k, omega arith, same) in
    (y ∷ rest.0, rest.1, ap (λ zs. y ∷ zs) rest.2)

-- what is in a list and isn't a member that is taken out
apart_from : (x z : List ℕ) (front back : List (List ℕ)) → (z ≡ x → ⊥) → Contains (front ++ x ∷ back) z → Contains (front ++ back) z
apart_from x z front back apart has = elim (Contains-append_cases front (x ∷ back) z has) [
  | inl left ↦ Contains-append_left front back z left
  | inr right ↦ elim (contains_cases z x back right) [
    | inl same ↦ absurd (apart (sym same))
    | inr rest ↦ Contains-append_right front back z rest
  ]
]

-- a sum over members that are there once grows with the members and with the summands
pub sum_grows : (f g : List ℕ → ℕ) (xs ys : List (List ℕ)) → Once xs → ((x : List ℕ) → Contains xs x → Contains ys x) → ((x : List ℕ) → f x ≤ g x) → sum_by f xs ≤ sum_by g ys
sum_grows f g [] ys once all more = omega arith
sum_grows f g (x ∷ xs) ys once all more =
    let found = around x ys (all x (contains_head x x xs refl)) in
    let rest = sum_grows f g xs (found.0 ++ found.1) once.1
    (λ z has. apart_from x z found.0 found.1 (λ same. once.0 (subst (λ w. Contains xs w) same has))
    (subst (λ zs. Contains zs z) found.2 (all z (contains_rest z x xs has))))
    more in
    let whole : sum_by g ys ≡ sum_by g found.0 + (g x + sum_by g found.1) = ap (sum_by g) found.2 ∙ sum_by-append g found.0 (x ∷ found.1) ∙ ap (λ s. sum_by g found.0 + s) (sum_by-cons g x found.1) in
    let least : f x ≤ g x = more x in
    omega (arith, sum_by-cons f x xs, sum_by-append g found.0 found.1)

pub distinct_grows : (f g : List ℕ → ℕ) (xs ys : List (List ℕ)) → ((x : List ℕ) → Contains xs x → Contains ys x) → ((x : List ℕ) → f x ≤ g x) → sum_by f (distinct xs) ≤ sum_by g (distinct ys)
distinct_grows f g xs ys all more =
    sum_grows f g (distinct xs) (distinct ys) (distinct_once xs) (λ x has. into_distinct ys x (all x (from_distinct xs x has))) more

length_sum : (xs : List (List ℕ)) → sum_by (λ (x : List ℕ). 1) xs ≡ length xs
length_sum [] = refl
length_sum (x ∷ xs) = sum_by-cons (λ (x : List ℕ). 1) x xs ∙ ap (λ n. 1 + n) (length_sum xs) ∙ (omega arith)

pub distinct_length : (xs ys : List (List ℕ)) → ((x : List ℕ) → Contains xs x → Contains ys x) → length (distinct xs) ≤ length (distinct ys)
distinct_length xs ys all =
    let grown = distinct_grows (λ (x : List ℕ). 1) (λ (x : List ℕ). 1) xs ys all (λ x. omega arith) in
    omega (arith, length_sum (distinct xs), length_sum (distinct ys))
