-- Pairs that were added to a list, and that follow in another.
use Rattle.std.proofs.Common.{◌≡◌, ℕ, ◌+◌, ◌<◌, ◌⊎◌, inl, inr, List, [], ◌∷◌, ◌++◌, refl, arith}
use Rattle.std.specs.Prelude.{◌&&◌, ◌==◌}
use Rattle.std.proofs.lemmas.Bool.{cases_eq}
use Rattle.sg_words.specs.Counts.{one, pairs, firsts}
use Rattle.sg_words.proofs.Uses.{total-append, pairs-snoc, pair_cases}

pub pairs-append : (a b : ℕ) (xs ys : List (ℕ × ℕ)) → pairs a b (xs ++ ys) ≡ pairs a b xs + pairs a b ys
pairs-append a b xs ys = total-append (λ (x : ℕ × ℕ). one ((x.0 == a) && (x.1 == b))) xs ys

pub firsts-append : (a : ℕ) (xs ys : List (ℕ × ℕ)) → firsts a (xs ++ ys) ≡ firsts a xs + firsts a ys
firsts-append a xs ys = total-append (λ (x : ℕ × ℕ). one (x.0 == a)) xs ys

-- a pair at the end stands
pub pair_at_end : (a b : ℕ) (xs : List (ℕ × ℕ)) → 0 < pairs a b (xs ++ (a, b) ∷ [])
pair_at_end a b xs =
    let e = pairs-snoc a b xs (a, b) in
    let here : 0 < one ((a == a) && (b == b)) = pair_cases (λ n. 0 < n) a b a b (λ _ _. omega arith) (λ other. absurd (other refl refl)) in
    omega arith

-- and one that stands with another at the end stood before, or is that one
pub pair_before : (a b c d : ℕ) (xs : List (ℕ × ℕ)) → 0 < pairs a b (xs ++ (c, d) ∷ []) → (0 < pairs a b xs) ⊎ (c ≡ a)
pair_before a b c d xs some = elim (cases_eq c a) [
  | inl same ↦ inr same
  | inr other ↦
      let e = pairs-snoc a b xs (c, d) in
      let none : one ((c == a) && (d == b)) ≡ 0 = pair_cases (λ n. n ≡ 0) c d a b (λ s _. absurd (other s)) (λ _. refl) in
      inl (omega arith)
]
