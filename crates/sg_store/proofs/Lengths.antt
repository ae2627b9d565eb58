-- A sum over lengths against a sum over slots that each have a length of their own.
use Rattle.std.proofs.Common.{◌≡◌, ◌≢◌, ℕ, zero, suc, ◌+◌, ◌<◌, List, [], ◌∷◌, length, get_or, refl, sym, ap, ◌∙◌, arith, inl, inr}
use Rattle.std.specs.Prelude.{sum_by, slice_index, slice_set}
use Rattle.std.proofs.lemmas.Bool.{cases_eq}
use Rattle.std.proofs.lemmas.List.{length-set, get_or-set_same, get_or-set_other}
use Rattle.std.proofs.lemmas.List.Sums.{sum_by-cons, sum_by-set}

-- a sum over zeros
zeros_sum : (f : ℕ → ℕ) (lengths : List ℕ) → f 0 ≡ 0 → ((p : ℕ) → slice_index lengths p ≡ 0) → sum_by f lengths ≡ 0
zeros_sum f [] none zero_all = refl
zeros_sum f (x ∷ xs) none zero_all =
    let first : x ≡ 0 = zero_all 0 in
    let rest : sum_by f xs ≡ 0 = zeros_sum f xs none (λ p. zero_all (suc p)) in
    omega (arith, sum_by-cons {X = ℕ} f x xs, ap f first, none, rest)

-- each item has a place among the lengths, different ones for different items, and no other length is anything but 0
pub record AreMatched (items : List (List ℕ)) (lengths : List ℕ) (at : List ℕ → ℕ) (f : ℕ → ℕ) (g : List ℕ → ℕ) : Type 0 where
  pub there : (k : ℕ) → k < length items → at (get_or items k []) < length lengths
  pub same : (k : ℕ) → k < length items → g (get_or items k []) ≡ f (slice_index lengths (at (get_or items k [])))
  pub once : (i j : ℕ) → i < j → j < length items → at (get_or items i []) ≢ at (get_or items j [])
  pub all : (p : ℕ) → slice_index lengths p ≢ 0 → (k : ℕ) × (k < length items) × (at (get_or items k []) ≡ p)

rest_matched : (item : List ℕ) (items : List (List ℕ)) (lengths : List ℕ) (at : List ℕ → ℕ) (f : ℕ → ℕ) (g : List ℕ → ℕ) → AreMatched (item ∷ items) lengths at f g → AreMatched items (slice_set lengths (at item) 0) at f g
rest_matched item items lengths at f g are =
    let p : ℕ = at item in
    let after : List ℕ = slice_set lengths p 0 in
    let many : length after ≡ length lengths = length-set lengths p 0 in
    let here : p < length lengths = are.there 0 (omega arith) in
    let apart : (k : ℕ) → k < length items → at (get_or items k []) ≢ p = λ k below same. are.once 0 (suc k) (omega arith) (omega (arith, below)) (sym same) in
    record {
      there = λ k below. omega (arith, many, are.there (suc k) (omega (arith, below)));
      same = λ k below.
          are.same (suc k) (omega (arith, below)) ∙ ap f (sym (get_or-set_other lengths p (at (get_or items k [])) 0 0 (apart k below)));
      once = λ i j before below. are.once (suc i) (suc j) (omega (arith, before)) (omega (arith, below));
      all = λ q some. elim (cases_eq q p) [
        | inl same ↦ absurd (some (ap (slice_index after) same ∙ get_or-set_same lengths p 0 0 here))
        | inr other ↦
            let found = are.all q (λ none. some (get_or-set_other lengths p q 0 0 other ∙ none)) in
            later found.0 found.1 found.2 other
      ];
    }
  where
    later : {q : ℕ} (k : ℕ) → k < length (item ∷ items) → at (get_or (item ∷ items) k []) ≡ q → q ≢ at item → (m : ℕ) × (m < length items) × (at (get_or items m []) ≡ q)
    later zero below is other = absurd (other (sym is))
    later (suc k) below is other = (k, omega (arith, below), is)

pub matched_sum : (items : List (List ℕ)) (lengths : List ℕ) (at : List ℕ → ℕ) (f : ℕ → ℕ) (g : List ℕ → ℕ) → f 0 ≡ 0 → AreMatched items lengths at f g → sum_by f lengths ≡ sum_by g items
matched_sum [] lengths at f g none are =
    zeros_sum f lengths none (λ p. elim (cases_eq (slice_index lengths p) 0) [
      | inl is ↦ is
      | inr some ↦ (let found = are.all p some in absurd (omega (arith, found.1)))
    ])
matched_sum (item ∷ items) lengths at f g none are =
    let p : ℕ = at item in
    let rest : sum_by f (slice_set lengths p 0) ≡ sum_by g items = matched_sum items (slice_set lengths p 0) at f g none (rest_matched item items lengths at f g are) in
    let own : g item ≡ f (slice_index lengths p) = are.same 0 (omega arith) in
    let changed : sum_by f (slice_set lengths p 0) + f (slice_index lengths p) ≡ sum_by f lengths + f 0 = sum_by-set {X = ℕ} f lengths p 0 0 (are.there 0 (omega arith)) in
    omega (arith, rest, own, changed, none, sum_by-cons {X = List ℕ} g item items)
