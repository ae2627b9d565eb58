-- Lemmas on disjoint lists for the crates above.
use Rattle.std.proofs.Common.{◌≡◌, ℕ, zero, suc, ◌+◌, ◌<◌, ◌≤◌, List, [], ◌∷◌, length, refl, sym, ap, subst, arith, inl, inr}
use Rattle.std.specs.Prelude.{Some, None, slice_get, sum_by}
use Rattle.std.proofs.lemmas.Bool.{cases_eq, cases_lt}
use Rattle.std.proofs.lemmas.List.{get_or_past}
use Rattle.sg_links.specs.Lists.{Lists, list_of, times, times_in_lists, AreDisjoint}
use Rattle.sg_links.proofs.Times.{times-cons, times_same, times_at, times_two, total_is_sum, sums, sums_least}
use Rattle.sg_links.proofs.Changes.{stands}
pub use Rattle.sg_links.proofs.Times.{times-cons, times-append, times_same, times_other, times_in_set, times_at, times_two, sums, sums_least, sums_all, sums_same, sums_plus, total_is_sum, one_if}
pub use Rattle.sg_links.proofs.Changes.{stands}

-- a number that stands in a list at most once stands at one place
one_place : (x : ℕ) (xs : List ℕ) (k m : ℕ) → times x xs ≤ 1 → slice_get xs k ≡ Some x → slice_get xs m ≡ Some x → k ≡ m
one_place x [] k m once at there = cc
one_place x (y ∷ ys) zero zero once at there = refl
one_place x (y ∷ ys) zero (suc m) once at there =
    let same : y ≡ x = cc in
    let one : times x (y ∷ ys) ≡ 1 + times x ys = subst (λ z. times x (z ∷ ys) ≡ 1 + times x ys) (sym same) (times_same x ys) in
    absurd (omega (arith, stands ys m x there))
one_place x (y ∷ ys) (suc k) zero once at there =
    let same : y ≡ x = cc in
    let one : times x (y ∷ ys) ≡ 1 + times x ys = subst (λ z. times x (z ∷ ys) ≡ 1 + times x ys) (sym same) (times_same x ys) in
    absurd (omega (arith, stands ys k x at))
one_place x (y ∷ ys) (suc k) (suc m) once at there = ap suc (one_place x ys k m (omega (arith, times-cons x y ys)) at there)

-- where a number stands there is a list
pub there_is_list : (l : Lists) (x head place : ℕ) → slice_get (list_of l head) place ≡ Some x → head < length l.lists
there_is_list l x head place at = elim (cases_lt head (length l.lists)) [
  | inl there ↦ there
  | inr past ↦
      let nothing : list_of l head ≡ [] = get_or_past l.lists head [] past in
      let none : slice_get (list_of l head) place ≡ None = ap (λ xs. slice_get xs place) nothing in
      absurd (cc (none, at))
]

pub stands_at_one_place : (l : Lists) → AreDisjoint l → (x head place other there : ℕ) → slice_get (list_of l head) place ≡ Some x → slice_get (list_of l other) there ≡ Some x → (head ≡ other) × (place ≡ there)
stands_at_one_place l disjoint x head place other there at also =
    let first : head < length l.lists = there_is_list l x head place at in
    let second : other < length l.lists = there_is_list l x other there also in
    let here : 0 < times x (list_of l head) = stands (list_of l head) place x at in
    let once : times_in_lists x l.lists ≤ 1 = disjoint.once x in
    elim (cases_eq head other) [
      | inl same ↦ (same, one_place x (list_of l head) place there (omega (arith, times_at x l.lists head first)) at (subst (λ i. slice_get (list_of l i) there ≡ Some x) (sym same) also))
      | inr apart ↦ absurd (omega (arith, times_two x l.lists head other first second apart, stands (list_of l other) there x also))
    ]

pub fit_numbers : (l : Lists) → AreDisjoint l → sum_by length l.lists ≤ l.numbers
fit_numbers l disjoint = omega (arith, total_is_sum l.numbers l.lists disjoint.below, sums_least (λ x. times_in_lists x l.lists) l.numbers disjoint.once)
