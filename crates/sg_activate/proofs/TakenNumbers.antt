-- The numbers of new links: of two lists of slot words, those of the slots that were empty and aren't.
use Rattle.std.proofs.Common.{◌≡◌, ℕ, zero, suc, ◌+◌, ◌-◌, ◌<◌, ◌≢◌, ◌⊎◌, inl, inr, Bool, true, false, cond, not, ◌&&◌, ◌==◌, List, [], ◌∷◌, length, get_or, refl, sym, ap, ◌∙◌, subst, arith}
use Rattle.std.specs.Prelude.{slice_index}
use Rattle.std.specs.List.{Contains, All, AllPairs}
use Rattle.std.proofs.lemmas.Bool.{cases_eq}
use Rattle.std.proofs.lemmas.Bool.Decides.{nat_tests}
use Rattle.std.proofs.lemmas.List.Elements.{Contains-get_or}
use Rattle.std.proofs.lemmas.List.Kept.{AllPairs-cons}
use Rattle.sg_words.specs.Counts.{one}
use Rattle.sg_words.proofs.Uses.{contains_none, contains_head, contains_rest, contains_cases}
use Rattle.sg_words.specs.Stocks.{full_words, taken_of}

-- a word that isn't 0 stands in the list
pub index_within : (words : List ℕ) (i : ℕ) → 0 < slice_index words i → i < length words
index_within [] i some = absurd (omega arith)
index_within (w ∷ ws) zero some = omega arith
index_within (w ∷ ws) (suc i) some = let r = index_within ws i some in omega arith

pub contains_word : (words : List ℕ) (i n : ℕ) → slice_index words i ≡ suc n → Contains words (suc n)
contains_word words i n is =
    let below : i < length words = index_within words i (omega arith) in
    subst (λ w. Contains words w) is (Contains-get_or words i 0 below)

-- and what stands in a list stands at a place
pub word_at : (words : List ℕ) (n : ℕ) → Contains words n → (i : ℕ) × (i < length words) × (slice_index words i ≡ n)
word_at [] n is = absurd (contains_none n is)
word_at (w ∷ ws) n is = elim (contains_cases n w ws is) [
  | inl here ↦ (zero, omega arith, here)
  | inr later ↦ let r = word_at ws n later in (suc r.0, omega (arith, r.1), r.2)
]

new_true : (o n : ℕ) → o ≡ 0 → n ≢ 0 → ((o == 0) && not (n == 0)) ≡ true
new_true o n empty full = grind (arith, nat_tests)

new_false : (o n : ℕ) → (o ≢ 0) ⊎ (n ≡ 0) → ((o == 0) && not (n == 0)) ≡ false
new_false o n (inl full) = let h : (o == 0) ≡ false = grind (arith, nat_tests) in ap (λ b. b && not (n == 0)) h
new_false o n (inr empty) = let h : not (n == 0) ≡ false = grind (arith, nat_tests) in ap (λ b. (o == 0) && b) h ∙ last (o == 0)
  where
    last : (b : Bool) → (b && false) ≡ false
    last true = refl
    last false = refl

-- by cases: the first slot was empty and isn't, or it gives nothing
first_slot : (P : List ℕ → Type 0) (o n : ℕ) (rest : List ℕ) → (o ≡ 0 → n ≢ 0 → P ((n - 1) ∷ rest)) → ((o ≢ 0) ⊎ (n ≡ 0) → P rest)
    → P (cond ((o == 0) && not (n == 0)) ((n - 1) ∷ rest) rest)
first_slot P o n rest new none = elim (cases_eq o 0) [
  | inr full ↦ subst (λ b. P (cond b ((n - 1) ∷ rest) rest)) (sym (new_false o n (inl full))) (none (inl full))
  | inl empty ↦ elim (cases_eq n 0) [
    | inl still ↦ subst (λ b. P (cond b ((n - 1) ∷ rest) rest)) (sym (new_false o n (inr still))) (none (inr still))
    | inr full ↦ subst (λ b. P (cond b ((n - 1) ∷ rest) rest)) (sym (new_true o n empty full)) (new empty full)
  ]
]

-- the number of a new link is taken
pub taken_has : (old new : List ℕ) (slot n : ℕ) → length new ≡ length old → slice_index old slot ≡ 0 → slice_index new slot ≡ suc n → Contains (taken_of old new) n
taken_has [] [] slot n long empty is = absurd (omega arith)
taken_has [] (w ∷ ws) slot n long empty is = absurd (omega arith)
taken_has (o ∷ os) [] slot n long empty is = absurd (omega arith)
taken_has (o ∷ os) (w ∷ ws) zero n long empty is =
    first_slot (λ l. Contains l n) o w (taken_of os ws) (λ _ _. contains_head n (w - 1) (taken_of os ws) (omega arith)) (λ none. absurd (not_none none))
  where
    not_none : (o ≢ 0) ⊎ (w ≡ 0) → ⊥
    not_none (inl full) = full empty
    not_none (inr zeroed) = omega arith
taken_has (o ∷ os) (w ∷ ws) (suc slot) n long empty is =
    let rest : Contains (taken_of os ws) n = taken_has os ws slot n (omega arith) empty is in
    first_slot (λ l. Contains l n) o w (taken_of os ws) (λ _ _. contains_rest n (w - 1) (taken_of os ws) rest) (λ _. rest)

-- and a taken number is that of a new link
pub taken_from : (old new : List ℕ) (n : ℕ) → Contains (taken_of old new) n → (slot : ℕ) × (slice_index old slot ≡ 0) × (slice_index new slot ≡ suc n)
taken_from [] new n is = absurd (contains_none n is)
taken_from (o ∷ os) [] n is = absurd (contains_none n is)
taken_from (o ∷ os) (w ∷ ws) n is = first_slot (λ l. Contains l n → (slot : ℕ) × (slice_index (o ∷ os) slot ≡ 0) × (slice_index (w ∷ ws) slot ≡ suc n)) o w (taken_of os ws)
    (λ empty full has. elim (contains_cases n (w - 1) (taken_of os ws) has) [
      | inl here ↦ (zero, empty, omega arith)
      | inr later ↦ let r = taken_from os ws n later in (suc r.0, r.1, r.2)
    ])
    (λ none has. let r = taken_from os ws n has in (suc r.0, r.1, r.2)) is

-- each once, if no number is in two slots
pub taken_once : (old new : List ℕ) → length new ≡ length old
    → ((i j : ℕ) → slice_index old i ≡ 0 → 0 < slice_index new i → slice_index new i ≡ slice_index new j → i ≡ j)
    → AllPairs (λ (x y : ℕ). x ≢ y) (taken_of old new)
taken_once [] new long once = λ i j d before within. absurd (omega arith)
taken_once (o ∷ os) [] long once = λ i j d before within. absurd (omega arith)
taken_once (o ∷ os) (w ∷ ws) long once =
    let rest : AllPairs (λ (x y : ℕ). x ≢ y) (taken_of os ws) = taken_once os ws (omega arith) (λ i j empty some same. let e : suc i ≡ suc j = once (suc i) (suc j) empty some same in omega arith) in
    first_slot (AllPairs (λ (x y : ℕ). x ≢ y)) o w (taken_of os ws)
    (λ empty full. AllPairs-cons (λ (x y : ℕ). x ≢ y) (w - 1) (taken_of os ws)
    (λ k d below same.
    let r = taken_from os ws (get_or (taken_of os ws) k d) (Contains-get_or (taken_of os ws) k d below) in
    let e : zero ≡ suc r.0 = once zero (suc r.0) empty (omega arith) (let f : slice_index ws r.0 ≡ suc (get_or (taken_of os ws) k d) = r.2 in omega arith) in
    omega arith)
    rest)
    (λ _. rest)

-- as many slots are filled as before and new ones
pub taken_count : (old new : List ℕ) → length new ≡ length old → ((slot : ℕ) → 0 < slice_index old slot → slice_index new slot ≡ slice_index old slot)
    → full_words new ≡ full_words old + length (taken_of old new)
taken_count [] [] long stay = refl
taken_count [] (w ∷ ws) long stay = absurd (omega arith)
taken_count (o ∷ os) [] long stay = absurd (omega arith)
taken_count (o ∷ os) (w ∷ ws) long stay =
    let r : full_words ws ≡ full_words os + length (taken_of os ws) = taken_count os ws (omega arith) (λ slot. stay (suc slot)) in
    first_slot (λ l. one (not (w == 0)) + full_words ws ≡ one (not (o == 0)) + full_words os + length l) o w (taken_of os ws)
    (λ empty full. let a = filled w full in let b = unfilled o empty in omega arith)
    (λ none. elim (cases_eq o 0) [
      | inr full ↦ let same : w ≡ o = stay zero (omega arith) in let a = filled o full in let b : one (not (w == 0)) ≡ one (not (o == 0)) = ap (λ n. one (not (n == 0))) same in omega arith
      | inl empty ↦ let a = unfilled o empty in let b = unfilled w (no_word none empty) in omega arith
    ])
  where
    filled : (n : ℕ) → n ≢ 0 → one (not (n == 0)) ≡ 1
    filled n some = let h : not (n == 0) ≡ true = grind (arith, nat_tests) in ap one h

    unfilled : (n : ℕ) → n ≡ 0 → one (not (n == 0)) ≡ 0
    unfilled n none = let h : not (n == 0) ≡ false = grind (arith, nat_tests) in ap one h

    no_word : (o ≢ 0) ⊎ (w ≡ 0) → o ≡ 0 → w ≡ 0
    no_word (inl full) empty = absurd (full empty)
    no_word (inr is) empty = is

-- what holds of the number of each new link holds of all taken
pub taken_all : (P : ℕ → Type 0) (old new : List ℕ) → ((slot n : ℕ) → slice_index old slot ≡ 0 → slice_index new slot ≡ suc n → P n) → All P (taken_of old new)
taken_all P old new each = λ k d below.
    let r = taken_from old new (get_or (taken_of old new) k d) (Contains-get_or (taken_of old new) k d below) in
    each r.0 (get_or (taken_of old new) k d) r.1 r.2
