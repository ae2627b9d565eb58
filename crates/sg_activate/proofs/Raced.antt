-- What workers have done, half after half.
use Rattle.std.proofs.Common.{◌≡◌, ℕ, ◌+◌, inl, inr, subst, arith}
use Rattle.std.specs.Prelude.{Result, Ok, Err, OnOk}
use Rattle.std.proofs.lemmas.Bool.{cases_lt}
use Rattle.sg_activate.specs.steps.Racing.{HaveDone}

-- one worker's part
pub done_one : {S E : Type 0} (HasDone : ℕ → S → Type 0) (from to : ℕ) (seat : S) (done : Result Unit E) → to ≡ from + 1
    → OnOk done (HasDone from seat) → OnOk done (HaveDone HasDone from to seat)
done_one HasDone from to seat (Err e) one part = tt
done_one HasDone from to seat (Ok u) one part = λ worker low high.
    let same : from ≡ worker = omega arith in subst (λ (w : ℕ). HasDone w seat) same part

-- two halves
pub done_halves : {S E : Type 0} (HasDone : ℕ → S → Type 0) (from mid to : ℕ) (left right both : S) (mine theirs done : Result Unit E)
    → OnOk done (mine ≡ done) → OnOk done (theirs ≡ done)
    → OnOk mine (HaveDone HasDone from mid left) → OnOk theirs (HaveDone HasDone mid to right)
    → OnOk done ((worker : ℕ) → HasDone worker left → HasDone worker both) → OnOk done ((worker : ℕ) → HasDone worker right → HasDone worker both)
    → OnOk done (HaveDone HasDone from to both)
done_halves HasDone from mid to left right both mine theirs (Err e) same same' left_done right_done stays others = tt
done_halves HasDone from mid to left right both mine theirs (Ok u) same same' left_done right_done stays others = λ worker low high. elim (cases_lt worker mid) [
  | inl below ↦ stays worker (first worker low below)
  | inr above ↦ others worker (second worker above high)
]
  where
    first : HaveDone HasDone from mid left
    first = subst (λ r. OnOk r (HaveDone HasDone from mid left)) same left_done

    second : HaveDone HasDone mid to right
    second = subst (λ r. OnOk r (HaveDone HasDone mid to right)) same' right_done
