-- Contributions that come to the same as others.
use Rattle.std.proofs.Common.{◌≡◌, ℕ, List, [], ◌∷◌, ◌++◌, fold, refl, sym, ap, ◌∙◌}
use Rattle.std.proofs.lemmas.List.Sums.{fold-append}
use Rattle.sg_exec.specs.steps.Racing.{ComeTo}

pub come_same : (into : ℕ → ℕ → ℕ) (xs ys : List ℕ) → xs ≡ ys → ComeTo into xs ys
come_same into xs ys same = record { words = λ old. ap (fold into old) same; none = λ none. same ∙ none }

pub come_on : (into : ℕ → ℕ → ℕ) (xs ys zs : List ℕ) → ComeTo into xs ys → ComeTo into ys zs → ComeTo into xs zs
come_on into xs ys zs first second = record { words = λ old. first.words old ∙ second.words old; none = λ none. first.none (second.none none) }

both_none : (xs ys : List ℕ) → xs ++ ys ≡ [] → (xs ≡ []) × (ys ≡ [])
both_none [] ys h = (refl, h)
both_none (x ∷ xs) ys h = absurd (cc)

pub come_both : (into : ℕ → ℕ → ℕ) (xs ys us vs : List ℕ) → ComeTo into xs us → ComeTo into ys vs → ComeTo into (xs ++ ys) (us ++ vs)
come_both into xs ys us vs first second = record {
  words = λ old. fold-append into old xs ys ∙ second.words (fold into old xs) ∙ ap (λ (n : ℕ). fold into n vs) (first.words old) ∙ sym (fold-append into old us vs);
  none = λ none. let parts = both_none us vs none in ap (λ (zs : List ℕ). zs ++ ys) (first.none parts.0) ∙ second.none parts.1;
}

-- more that comes after
pub come_more : (into : ℕ → ℕ → ℕ) (xs us ys : List ℕ) → ComeTo into xs us → ComeTo into (xs ++ ys) (us ++ ys)
come_more into xs us ys first = come_both into xs ys us ys first (come_same into ys ys refl)

-- two that are joined first
pub come_joined : (into : ℕ → ℕ → ℕ) (x y : ℕ) → ((old : ℕ) → into old (into x y) ≡ into (into old x) y) → ComeTo into (into x y ∷ []) (x ∷ y ∷ [])
come_joined into x y grouped = record { words = λ old. grouped old; none = λ none. absurd (cc) }
