-- How often a number stands in lists, and how many numbers there are in all.
use Rattle.std.proofs.Common.{◌≡◌, ◌≢◌, ℕ, zero, suc, ◌+◌, ◌<◌, ◌≤◌, Bool, ◌==◌, cond, List, [], ◌∷◌, ◌++◌, length, set, get_or, refl, sym, ap, ◌∙◌, subst, arith, inl, inr}
use Rattle.std.specs.Prelude.{sum_by}
use Rattle.std.proofs.lemmas.Bool.{cases_eq}
use Rattle.std.proofs.lemmas.Bool.Decides.{eqb_tells}
use Rattle.std.proofs.lemmas.List.{length-set, get_or-set_other}
use Rattle.std.proofs.lemmas.List.Sums.{sum_by-cons, sum_by-append, sum_by-set, get_or-le-sum_by}
use Rattle.sg_links.specs.Lists.{times, times_in_lists}

abbrev pub one_if : Bool → ℕ
one_if b = cond b 1 0

pub times-cons : (x y : ℕ) (ys : List ℕ) → times x (y ∷ ys) ≡ one_if (y == x) + times x ys
times-cons x y ys = sum_by-cons (λ (z : ℕ). cond (z == x) 1 0) y ys

pub times-append : (x : ℕ) (xs ys : List ℕ) → times x (xs ++ ys) ≡ times x xs + times x ys
times-append x xs ys = sum_by-append (λ (z : ℕ). cond (z == x) 1 0) xs ys

pub times_same : (x : ℕ) (ys : List ℕ) → times x (x ∷ ys) ≡ 1 + times x ys
times_same x ys = elim (eqb_tells x x) [
  | inl yes_is ↦ times-cons x x ys ∙ ap (λ b. one_if b + times x ys) yes_is.0
  | inr no_is ↦ absurd (no_is.1 refl)
]

pub times_other : (x y : ℕ) (ys : List ℕ) → y ≢ x → times x (y ∷ ys) ≡ times x ys
times_other x y ys other = elim (eqb_tells y x) [
  | inl yes_is ↦ absurd (other yes_is.1)
  | inr no_is ↦ omega (arith, times-cons x y ys, ap one_if no_is.0)
]

-- what does not stand in a list is another number than its first
pub none_apart : (x y : ℕ) (ys : List ℕ) → times x (y ∷ ys) ≡ 0 → (y ≢ x) × (times x ys ≡ 0)
none_apart x y ys none = elim (cases_eq y x) [
  | inl same ↦ absurd (let one : times x (y ∷ ys) ≡ 1 + times x ys = subst (λ z. times x (z ∷ ys) ≡ 1 + times x ys) (sym same) (times_same x ys) in omega arith)
  | inr other ↦ (other, sym (times_other x y ys other) ∙ none)
]

pub times_in_set : (x : ℕ) (lists : List (List ℕ)) (i : ℕ) (list : List ℕ) → i < length lists → times_in_lists x (set lists i list) + times x (get_or lists i []) ≡ times_in_lists x lists + times x list
times_in_set x lists i list below = sum_by-set (times x) lists i list [] below

pub times_at : (x : ℕ) (lists : List (List ℕ)) (i : ℕ) → i < length lists → times x (get_or lists i []) ≤ times_in_lists x lists
times_at x lists i below = get_or-le-sum_by (times x) lists i [] below

-- two lists have a number together at most as often as all lists
pub times_two : (x : ℕ) (lists : List (List ℕ)) (i j : ℕ) → i < length lists → j < length lists → i ≢ j → times x (get_or lists i []) + times x (get_or lists j []) ≤ times_in_lists x lists
times_two x lists i j there here apart =
    let without : List (List ℕ) = set lists j [] in
    let stays : get_or without i [] ≡ get_or lists i [] = get_or-set_other lists j i [] [] apart in
    let within : times x (get_or without i []) ≤ times_in_lists x without = times_at x without i (omega (arith, length-set lists j [])) in
    let same : times x (get_or without i []) ≡ times x (get_or lists i []) = ap (times x) stays in
    omega (arith, times_in_set x lists j [] here)

-- the sum of a function of the numbers from 0 to below a bound
abbrev pub sums : (ℕ → ℕ) → ℕ → ℕ
sums f zero = 0
sums f (suc n) = sums f n + f n

pub sums_least : (f : ℕ → ℕ) (n : ℕ) → ((x : ℕ) → f x ≤ 1) → sums f n ≤ n
sums_least f zero small = omega arith
sums_least f (suc n) small = omega (arith, sums_least f n small, small n)

pub sums_all : (f : ℕ → ℕ) (n : ℕ) → ((x : ℕ) → x < n → f x ≡ 1) → sums f n ≡ n
sums_all f zero ones = refl
sums_all f (suc n) ones = omega (arith, sums_all f n (λ x below. ones x (omega arith)), ones n (omega arith))

pub sums_same : (f g : ℕ → ℕ) (n : ℕ) → ((x : ℕ) → f x ≡ g x) → sums f n ≡ sums g n
sums_same f g zero same = refl
sums_same f g (suc n) same = omega (arith, sums_same f g n same, same n)

pub sums_plus : (f g : ℕ → ℕ) (n : ℕ) → sums (λ x. f x + g x) n ≡ sums f n + sums g n
sums_plus f g zero = refl
sums_plus f g (suc n) = omega (arith, sums_plus f g n)

sums_before : (y n : ℕ) → n ≤ y → sums (λ x. one_if (y == x)) n ≡ 0
sums_before y zero past = refl
sums_before y (suc n) past = elim (eqb_tells y n) [
  | inl yes_is ↦ absurd (omega (arith, yes_is.1))
  | inr no_is ↦ omega (arith, sums_before y n (omega arith), ap one_if no_is.0)
]

sums_one : (y n : ℕ) → y < n → sums (λ x. one_if (y == x)) n ≡ 1
sums_one y zero below = absurd (omega arith)
sums_one y (suc n) below = elim (eqb_tells y n) [
  | inl yes_is ↦ omega (arith, sums_before y n (omega (arith, yes_is.1)), ap one_if yes_is.0)
  | inr no_is ↦ omega (arith, sums_one y n (let other : y ≢ n = no_is.1 in omega arith), ap one_if no_is.0)
]

sums_zero : (n : ℕ) → sums (λ x. 0) n ≡ 0
sums_zero zero = refl
sums_zero (suc n) = omega (arith, sums_zero n)

-- a list has as many numbers as each of them stands in it, taken together
pub length_is_sum : (n : ℕ) (xs : List ℕ) → ((x : ℕ) → 0 < times x xs → x < n) → length xs ≡ sums (λ x. times x xs) n
length_is_sum n [] below = sym (sums_zero n)
length_is_sum n (y ∷ ys) below =
    let here : y < n = below y (omega (arith, times_same y ys)) in
    let rest : length ys ≡ sums (λ x. times x ys) n = length_is_sum n ys (λ x has. below x (omega (arith, times-cons x y ys))) in
    let split : sums (λ x. times x (y ∷ ys)) n ≡ sums (λ x. one_if (y == x) + times x ys) n = sums_same (λ x. times x (y ∷ ys)) (λ x. one_if (y == x) + times x ys) n (λ x. times-cons x y ys) in
    omega (arith, split, sums_plus (λ x. one_if (y == x)) (λ x. times x ys) n, sums_one y n here)

-- numbers below a bound, each once, are at most as many as the bound says
pub short : (n : ℕ) (xs : List ℕ) → ((x : ℕ) → times x xs ≤ 1) → ((x : ℕ) → 0 < times x xs → x < n) → length xs ≤ n
short n xs once below = omega (arith, length_is_sum n xs below, sums_least (λ x. times x xs) n once)

-- all lists together have as many numbers as each stands in them
pub total_is_sum : (n : ℕ) (lists : List (List ℕ)) → ((x : ℕ) → 0 < times_in_lists x lists → x < n) → sum_by length lists ≡ sums (λ x. times_in_lists x lists) n
total_is_sum n [] below = sym (sums_zero n)
total_is_sum n (list ∷ lists) below =
    let cons : (x : ℕ) → times_in_lists x (list ∷ lists) ≡ times x list + times_in_lists x lists = λ x. sum_by-cons (times x) list lists in
    let first : length list ≡ sums (λ x. times x list) n = length_is_sum n list (λ x has. below x (omega (arith, cons x))) in
    let rest : sum_by length lists ≡ sums (λ x. times_in_lists x lists) n = total_is_sum n lists (λ x has. below x (omega (arith, cons x))) in
    let split : sums (λ x. times_in_lists x (list ∷ lists)) n ≡ sums (λ x. times x list + times_in_lists x lists) n = sums_same (λ x. times_in_lists x (list ∷ lists)) (λ x. times x list + times_in_lists x lists) n cons in
    omega (arith, sum_by-cons {X = List ℕ} length list lists, split, sums_plus (λ x. times x list) (λ x. times_in_lists x lists) n)
