-- The loops that end a race for slots: words copied from a table, the numbers that were taken, and those outside a set.
use Rattle.std.proofs.Common.{◌≡◌, ℕ, zero, suc, ◌+◌, ◌-◌, ◌<◌, ◌≢◌, ◌⊎◌, inl, inr, Bool, true, false, cond, not, ◌&&◌, ◌==◌, eqb, nat_lt, List, [], ◌∷◌, ◌++◌, length, get_or, set, take, drop, append_assoc, refl, sym, ap, ◌∙◌, subst, arith}
use Rattle.std.specs.Prelude.{slice_index}
use Rattle.std.specs.Ordering.{nat_cmp, is_eq}
use Rattle.std.specs.declared.cmp.Ordering.TheVariants.{Less, Equal, Greater}
use Rattle.std.specs.Cmp.{nat_cmp_is}
use Rattle.std.proofs.lemmas.Bool.{cases_order, eq-eqb, ne_eqb}
use Rattle.std.proofs.lemmas.Bool.Decides.{nat_tests}
use Rattle.std.proofs.lemmas.List.{take_more, get_or-set_same, get_or-set_other}
use mathlib.Core.Option.{some, some-injective, some-ne-none}
use mathlib.Core.Logic.{dite}
use native.Mathlib.Decide.{ℕ_discrete}
use lib.ListN.{get_elem?}
use Rattle.sg_words.specs.Counts.{one, times_in}
use Rattle.sg_words.proofs.RaceTotals.{total-append}
use Rattle.sg_words.specs.Stocks.{taken_of, outside}

-- a word more is copied
copied-suc : (links words : List ℕ) (i x : ℕ) → i < length links → take i links ≡ take i words → get_elem? words i ≡ some x → take (suc i) (set links i x) ≡ take (suc i) words
copied-suc [] words i x below e at = absurd (omega arith)
copied-suc (y ∷ ys) [] i x below e at = absurd (some-ne-none x (sym at))
copied-suc (y ∷ ys) (w ∷ ws) zero x below e at = ap (λ (a : ℕ). a ∷ []) (sym (some-injective w x at))
copied-suc (y ∷ ys) (w ∷ ws) (suc i) x below e at =
    let head : y ≡ w = (cc) in
    let tail : take i ys ≡ take i ws = (cc) in
    ap (λ (a : ℕ). a ∷ take (suc i) (set ys i x)) head ∙ ap (λ l. w ∷ l) (copied-suc ys ws i x (omega arith) tail at)

pub copied : (links words : List ℕ) (i x : ℕ) → i < length links → take i links ≡ take i words → get_elem? words i ≡ some x → take (i + 1) (set links i x) ≡ take (i + 1) words
copied links words i x below e at =
    let next : suc i ≡ i + 1 = omega arith in
    subst (λ n. take n (set links i x) ≡ take n words) next (copied-suc links words i x below e at)

-- a number more is in the set
is_eq-nat_cmp : (a b : ℕ) → is_eq (nat_cmp a b) ≡ eqb a b
is_eq-nat_cmp a b = elim (cases_order a b) [
  | inl same ↦ ap is_eq (sym (nat_cmp_is a b Equal same)) ∙ sym (eq-eqb a b same)
  | inr (inl below) ↦ ap is_eq (sym (nat_cmp_is a b Less below)) ∙ sym (ne_eqb a b (λ same. omega arith))
  | inr (inr above) ↦ ap is_eq (sym (nat_cmp_is a b Greater above)) ∙ sym (ne_eqb a b (λ same. omega arith))
]

-- a place more of a row of truth values is true
pub set-more : (row : List Bool) (k x : ℕ) → k < length row → get_or (set row k true) x false ≡ cond (is_eq (nat_cmp k x)) true (get_or row x false)
set-more row k x below = dite (ℕ_discrete k x)
    (λ same. subst (λ y. get_or (set row k true) y false ≡ cond true true (get_or row y false)) same (get_or-set_same row k true false below)
    ∙ sym (ap (λ b. cond b true (get_or row x false)) (is_eq-nat_cmp k x ∙ eq-eqb k x same)))
    (λ other. get_or-set_other row k x true false (λ same. other (sym same)) ∙ sym (ap (λ b. cond b true (get_or row x false)) (is_eq-nat_cmp k x ∙ ne_eqb k x other)))

pub number-more : (numbers : List ℕ) (i x k : ℕ) (before now : Bool) → i < length numbers → k ≡ slice_index numbers i → now ≡ cond (is_eq (nat_cmp k x)) true before
    → before ≡ nat_lt 0 (times_in x (take i numbers)) → now ≡ nat_lt 0 (times_in x (take (i + 1) numbers))
number-more numbers i x k before now below is e old =
    let more : take (i + 1) numbers ≡ take i numbers ++ slice_index numbers i ∷ [] = take_more numbers i 0 below in
    let count = total-append (λ (y : ℕ). one (y == x)) (take i numbers) (slice_index numbers i ∷ []) in
    let count' : times_in x (take (i + 1) numbers) ≡ times_in x (take i numbers) + (one (k == x) + 0) = ap (times_in x) more ∙ count ∙ ap (λ k. times_in x (take i numbers) + (one (k == x) + 0)) (sym is) in
    e ∙ ap (λ b. cond b true before) (is_eq-nat_cmp k x) ∙ both (times_in x (take i numbers)) (times_in x (take (i + 1) numbers)) (k == x) before count' old
  where
    both : (n m : ℕ) (b before : Bool) → m ≡ n + (one b + 0) → before ≡ nat_lt 0 n → cond b true before ≡ nat_lt 0 m
    both n m true before e old = let h : 0 < m = omega arith in grind (arith, nat_tests)
    both n m false before e old = old ∙ ap (nat_lt 0) (let h : n ≡ m = omega arith in h)

-- one word more of the slots: a new link, or none
pub taken-new : (old new done : List ℕ) (i : ℕ) → i < length old → length new ≡ length old → slice_index old i ≡ 0 → slice_index new i ≢ 0
    → (done ++ (slice_index new i - 1) ∷ []) ++ taken_of (drop (i + 1) old) (drop (i + 1) new) ≡ done ++ taken_of (drop i old) (drop i new)
taken-new old new done i below same empty full =
    append_assoc done ((slice_index new i - 1) ∷ []) (taken_of (drop (i + 1) old) (drop (i + 1) new)) ∙ ap (λ l. done ++ l) (go old new i below same empty full)
  where
    test : (n : ℕ) (xs ys : List ℕ) → n ≢ 0 → cond (not (n == 0)) xs ys ≡ xs
    test n xs ys full = let h : not (n == 0) ≡ true = grind (arith, nat_tests) in ap (λ b. cond b xs ys) h

    at : (old new : List ℕ) (i : ℕ) → i < length old → length new ≡ length old → slice_index old i ≡ 0 → slice_index new i ≢ 0
        → (slice_index new i - 1) ∷ taken_of (drop (suc i) old) (drop (suc i) new) ≡ taken_of (drop i old) (drop i new)
    at [] new i below same empty full = absurd (omega arith)
    at (o ∷ os) [] i below same empty full = absurd (omega arith)
    at (o ∷ os) (n ∷ ns) zero below same empty full =
        sym (ap (λ o. cond ((o == 0) && not (n == 0)) ((n - 1) ∷ taken_of os ns) (taken_of os ns)) empty ∙ test n ((n - 1) ∷ taken_of os ns) (taken_of os ns) full)
    at (o ∷ os) (n ∷ ns) (suc i) below same empty full = at os ns i (omega arith) (omega arith) empty full

    go : (old new : List ℕ) (i : ℕ) → i < length old → length new ≡ length old → slice_index old i ≡ 0 → slice_index new i ≢ 0
        → (slice_index new i - 1) ∷ taken_of (drop (i + 1) old) (drop (i + 1) new) ≡ taken_of (drop i old) (drop i new)
    go old new i below same empty full =
        let next : suc i ≡ i + 1 = omega arith in
        subst (λ k. (slice_index new i - 1) ∷ taken_of (drop k old) (drop k new) ≡ taken_of (drop i old) (drop i new)) next (at old new i below same empty full)

pub taken-none : (old new : List ℕ) (i : ℕ) → i < length old → length new ≡ length old → (slice_index old i ≢ 0) ⊎ (slice_index new i ≡ 0)
    → taken_of (drop (i + 1) old) (drop (i + 1) new) ≡ taken_of (drop i old) (drop i new)
taken-none old new i below same none =
    let next : suc i ≡ i + 1 = omega arith in
    subst (λ k. taken_of (drop k old) (drop k new) ≡ taken_of (drop i old) (drop i new)) next (at old new i below same none)
  where
    both : (o n : ℕ) → (o ≢ 0) ⊎ (n ≡ 0) → ((o == 0) && not (n == 0)) ≡ false
    both o n (inl full) = let h : (o == 0) ≡ false = grind (arith, nat_tests) in ap (λ b. b && not (n == 0)) h
    both o n (inr empty) = let h : not (n == 0) ≡ false = grind (arith, nat_tests) in ap (λ b. (o == 0) && b) h ∙ last (o == 0)
      where
        last : (b : Bool) → (b && false) ≡ false
        last true = refl
        last false = refl

    at : (old new : List ℕ) (i : ℕ) → i < length old → length new ≡ length old → (slice_index old i ≢ 0) ⊎ (slice_index new i ≡ 0)
        → taken_of (drop (suc i) old) (drop (suc i) new) ≡ taken_of (drop i old) (drop i new)
    at [] new i below same none = absurd (omega arith)
    at (o ∷ os) [] i below same none = absurd (omega arith)
    at (o ∷ os) (n ∷ ns) zero below same none = sym (ap (λ b. cond b ((n - 1) ∷ taken_of os ns) (taken_of os ns)) (both o n none))
    at (o ∷ os) (n ∷ ns) (suc i) below same none = at os ns i (omega arith) (omega arith) none

-- one number more of those that don't pass a test
pub outside-more : (test : ℕ → Bool) (numbers done after : List ℕ) (i : ℕ) → i < length numbers
    → after ≡ cond (test (slice_index numbers i)) done (done ++ slice_index numbers i ∷ [])
    → after ++ outside test (drop (i + 1) numbers) ≡ done ++ outside test (drop i numbers)
outside-more test numbers done after i below e =
    let next : suc i ≡ i + 1 = omega arith in
    subst (λ k. after ++ outside test (drop k numbers) ≡ done ++ outside test (drop i numbers)) next (at numbers i below e)
  where
    split : (b : Bool) (x : ℕ) (rest : List ℕ) → after ≡ cond b done (done ++ x ∷ []) → after ++ rest ≡ done ++ cond b rest (x ∷ rest)
    split true x rest e = ap (λ l. l ++ rest) e
    split false x rest e = ap (λ l. l ++ rest) e ∙ append_assoc done (x ∷ []) rest

    at : (numbers : List ℕ) (i : ℕ) → i < length numbers → after ≡ cond (test (slice_index numbers i)) done (done ++ slice_index numbers i ∷ [])
        → after ++ outside test (drop (suc i) numbers) ≡ done ++ outside test (drop i numbers)
    at [] i below e = absurd (omega arith)
    at (x ∷ xs) zero below e = split (test x) x (outside test xs) e
    at (x ∷ xs) (suc i) below e = at xs i (omega arith) e

-- two tests that agree leave the same numbers outside
pub outside-same : (test other : ℕ → Bool) (xs : List ℕ) → ((x : ℕ) → test x ≡ other x) → outside test xs ≡ outside other xs
outside-same test other [] same = refl
outside-same test other (x ∷ xs) same =
    ap (λ b. cond b (outside test xs) (x ∷ outside test xs)) (same x) ∙ ap (λ l. cond (other x) l (x ∷ l)) (outside-same test other xs same)
