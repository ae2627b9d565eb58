-- Marks that rise past numbers.
use Rattle.std.proofs.Common.{◌≡◌, ℕ, zero, suc, ◌+◌, ◌<◌, ◌≤◌, List, [], ◌∷◌, ◌++◌, length, get_or, take, refl, sym, ap, ◌∙◌, subst, arith}
use Rattle.std.specs.List.{All}
use Rattle.std.proofs.lemmas.List.{length-append, get_or_append_left, get_or_push, take_more}
use Rattle.std.proofs.lemmas.List.Elements.{All-push}
use Rattle.sg_pool.specs.Numbers.{IsRaised}

pub raised_none : (mark : ℕ) → IsRaised mark [] mark
raised_none mark = record { rises = omega arith; past = λ i d below. absurd (omega arith); least = λ other rises all. rises }

all_front : (P : ℕ → Type 0) (xs : List ℕ) (x : ℕ) → All P (xs ++ x ∷ []) → All P xs
all_front P xs x all i d below =
    subst P (get_or_append_left xs (x ∷ []) d i below) (all i d (omega (arith, length-append xs (x ∷ []))))

all_last : (P : ℕ → Type 0) (xs : List ℕ) (x : ℕ) → All P (xs ++ x ∷ []) → P x
all_last P xs x all =
    subst P (get_or_push xs x 0 (length xs) refl) (all (length xs) 0 (omega (arith, length-append xs (x ∷ []))))

all_one : (P : ℕ → Type 0) (x : ℕ) → P x → All P (x ∷ [])
all_one P x p zero d below = p
all_one P x p (suc i) d below = absurd (omega arith)

pub raised_more : (old now new : ℕ) (taken : List ℕ) (x : ℕ) → IsRaised old taken now → IsRaised now (x ∷ []) new → IsRaised old (taken ++ x ∷ []) new
raised_more old now new taken x first later = record {
  rises = omega (arith, first.rises, later.rises);
  past = All-push (λ n. n < new) taken x (λ i d below. let h : get_or taken i d < now = first.past i d below in omega (arith, later.rises)) (later.past 0 x (omega arith));
  least = λ other rises all.
      later.least other (first.least other rises (all_front (λ n. n < other) taken x all)) (all_one (λ n. n < other) x (all_last (λ n. n < other) taken x all));
}

-- one more of some numbers
pub raised_next : (old now new : ℕ) (taken : List ℕ) (i x : ℕ) → i < length taken → x ≡ get_or taken i x → IsRaised old (take i taken) now → IsRaised now (x ∷ []) new → IsRaised old (take (i + 1) taken) new
raised_next old now new taken i x below at first later =
    let more : take (i + 1) taken ≡ take i taken ++ get_or taken i x ∷ [] = take_more taken i x below in
    subst (λ list. IsRaised old list new) (sym (more ∙ ap (λ y. take i taken ++ y ∷ []) (sym at))) (raised_more old now new (take i taken) x first later)

pub raised_stays : (mark x : ℕ) → x < mark → IsRaised mark (x ∷ []) mark
raised_stays mark x below = record {
  rises = omega arith;
  past = all_one (λ n. n < mark) x below;
  least = λ other rises all. rises;
}

pub raised_past : (mark x : ℕ) → mark ≤ x → IsRaised mark (x ∷ []) (x + 1)
raised_past mark x above = record {
  rises = omega arith;
  past = all_one (λ n. n < x + 1) x (omega arith);
  least = λ other rises all. let h : x < other = all 0 x (omega arith) in omega arith;
}

-- a mark that has risen past numbers below an end isn't past the end
pub raised_within : (old new end : ℕ) (taken : List ℕ) → IsRaised old taken new → old ≤ end → All (λ n. n < end) taken → new ≤ end
raised_within old new end taken raised within below = raised.least end within below
