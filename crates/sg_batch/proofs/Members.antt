-- The kernels of a group, one by one.
use Rattle.std.proofs.Common.{◌≡◌, ℕ, zero, suc, ◌+◌, ◌<◌, Bool, true, false, not, inl, inr, List, [], ◌∷◌, ◌++◌, length, Option, Some, refl, sym, ap, ◌∙◌, subst, arith}
use Rattle.std.specs.Prelude.{slice_get, slice_index_or, All, Contains, reverse}
use Rattle.std.specs.List.{AllPairs, list_all, cons_option}
use Rattle.std.proofs.lemmas.Bool.{and_parts, and_from, both_ways, false_from_ne_true}
use Rattle.std.proofs.lemmas.List.{reverse-append}
use Rattle.std.proofs.lemmas.List.Elements.{All-head, All-tail, Contains-append_right}
use Rattle.sg_words.proofs.Uses.{contains_none, contains_head, contains_rest, contains_cases}
use Rattle.sg_store.specs.StoreWords.{StoreWords}
use Rattle.sg_ir.specs.declared.code.KernelCode.{KernelCode}
use Rattle.sg_ir.specs.Touches.{layouts_written, layouts_touched, is_among}
use Rattle.sg_exec.specs.Preparing.{AreSameWhereTouched, KeepsUnwritten}
use Rattle.sg_exec.proofs.Uses.{among_from}
use Rattle.sg_batch.specs.Batches.{members}
use Rattle.sg_batch.specs.Independent.{leaves_alone, are_independent}

pub at_below : {X : Type 0} (xs : List X) (i : ℕ) → i < length xs → (x : X) × (slice_get xs i ≡ Some x)
at_below [] i below = absurd (omega (arith, below))
at_below (x ∷ xs) zero below = (x, refl)
at_below (x ∷ xs) (suc i) below = at_below xs i (omega (arith, below))

pub members_next : (kernels : List KernelCode) (number : ℕ) (rest : List ℕ) (kernel : KernelCode) → slice_get kernels number ≡ Some kernel → members kernels (number ∷ rest) ≡ kernel ∷ members kernels rest
members_next kernels number rest kernel there = ap (λ (found : Option KernelCode). cons_option found (members kernels rest)) there

pub reverse_snoc : {X : Type 0} (xs : List X) (x : X) → reverse (xs ++ x ∷ []) ≡ x ∷ reverse xs
reverse_snoc xs x = reverse-append xs (x ∷ [])

-- what holds of all of a list that begins with one
pub head_of : (P : ℕ → Type 0) (group : List ℕ) (number : ℕ) (rest : List ℕ) → group ≡ number ∷ rest → All P group → P number
head_of P group number rest is all = All-head P number rest (subst (All P) is all)

pub tail_of : (P : ℕ → Type 0) (group : List ℕ) (number : ℕ) (rest : List ℕ) → group ≡ number ∷ rest → All P group → All P rest
tail_of P group number rest is all = All-tail P number rest (subst (All P) is all)

-- ---- pairs

pub pairs_tail : {X : Type 0} (R : X → X → Type 0) (x : X) (xs : List X) → AllPairs R (x ∷ xs) → AllPairs R xs
pairs_tail R x xs pairs = λ i j d low below. pairs (suc i) (suc j) d (omega (arith, low)) (omega (arith, below))

pairs_without : {X : Type 0} (R : X → X → Type 0) (x y : X) (xs : List X) → AllPairs R (x ∷ y ∷ xs) → AllPairs R (x ∷ xs)
pairs_without {X} R x y xs pairs = λ i j d low below. by i j d low below
  where
    by : (i j : ℕ) (d : X) → i < j → j < length (x ∷ xs) → R (slice_index_or (x ∷ xs) i d) (slice_index_or (x ∷ xs) j d)
    by zero zero d low below = absurd (omega (arith, low))
    by zero (suc j) d low below = pairs 0 (suc (suc j)) d (omega arith) (omega (arith, below))
    by (suc i) zero d low below = absurd (omega (arith, low))
    by (suc i) (suc j) d low below = pairs (suc (suc i)) (suc (suc j)) d (omega (arith, low)) (omega (arith, below))

pub pairs_head : {X : Type 0} (R : X → X → Type 0) (x : X) (xs : List X) → AllPairs R (x ∷ xs) → (y : X) → Contains xs y → R x y
pairs_head R x [] pairs y has = absurd (contains_none y has)
pairs_head R x (z ∷ xs) pairs y has = elim (contains_cases y z xs has) [
  | inl same ↦ subst (R x) same (pairs 0 1 x (omega arith) (omega arith))
  | inr later ↦ pairs_head R x xs (pairs_without R x z xs pairs) y later
]

pub pairs_last : {X : Type 0} (R : X → X → Type 0) (xs : List X) (y : X) → AllPairs R (xs ++ y ∷ []) → (x : X) → Contains xs x → R x y
pairs_last R [] y pairs x has = absurd (contains_none x has)
pairs_last {X} R (z ∷ xs) y pairs x has = elim (contains_cases x z xs has) [
  | inl same ↦ subst (λ (w : X). R w y) same (pairs_head R z (xs ++ y ∷ []) pairs y (Contains-append_right xs (y ∷ []) y (contains_head y y [] refl)))
  | inr later ↦ pairs_last R xs y (pairs_tail R z (xs ++ y ∷ []) pairs) x later
]

-- ---- independence

pub all_at : {X : Type 0} (test : X → Bool) (xs : List X) (x : X) → list_all test xs ≡ true → Contains xs x → test x ≡ true
all_at test [] x all has = absurd (contains_none x has)
all_at test (y ∷ xs) x all has =
    let both = and_parts (test y) (list_all test xs) all in
    elim (contains_cases x y xs has) [
      | inl same ↦ ap test (sym same) ∙ both.0
      | inr later ↦ all_at test xs x both.1 later
    ]

pub all_from : {X : Type 0} (test : X → Bool) (xs : List X) → ((x : X) → Contains xs x → test x ≡ true) → list_all test xs ≡ true
all_from test [] each = refl
all_from test (x ∷ xs) each = and_from (test x) (list_all test xs) (each x (contains_head x x xs refl)) (all_from test xs (λ y has. each y (contains_rest y x xs has)))

pub fails_at : {X : Type 0} (test : X → Bool) (xs : List X) (x : X) → Contains xs x → test x ≡ false → list_all test xs ≡ false
fails_at test xs x has fails = false_from_ne_true (list_all test xs) (λ all. both_ways (test x) fails (all_at test xs x all has))

not_both : (b : Bool) → not b ≡ true → b ≡ true → ⊥
not_both true none is = absurd (cc (none))
not_both false none is = absurd (cc (is))

-- what one kernel keeps is the same wherever an independent one goes
pub same_where : (kernel other : KernelCode) (olds news : List StoreWords) → are_independent kernel other ≡ true → KeepsUnwritten kernel olds news → AreSameWhereTouched other olds news
same_where kernel other olds news apart kept layout touched =
    kept layout (λ written. not_both (is_among (layouts_touched other) layout)
    (all_at (λ (l : ℕ). not (is_among (layouts_touched other) l)) (layouts_written kernel) layout (and_parts (leaves_alone kernel other) (leaves_alone other kernel) apart).0 written)
    (among_from (layouts_touched other) layout touched))
