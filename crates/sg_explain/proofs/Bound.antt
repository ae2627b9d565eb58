-- Answers in turn: what an answer that comes after others comes from.
use Rattle.std.specs.Prelude.{◌≡◌, refl, ◌⊎◌, Option, Some, None, Result, Ok, Err}
use Rattle.std.proofs.Common.{ap, inl, inr}
use Rattle.sg_words.specs.Results.{◌>>=◌, fault_or, fault_as}

pub same_ok : {A E : Type 0} (x y : A) → ◌≡◌ {A = Result A E} (Ok x) (Ok y) → x ≡ y
same_ok x y e = cc

pub same_err : {A E : Type 0} (x y : E) → ◌≡◌ {A = Result A E} (Err x) (Err y) → x ≡ y
same_err x y e = cc

-- an answer after another has come from one
pub record Passed {A B E : Type 0} (r : Result A E) (f : A → Result B E) (whole : Result B E) : Type 0 where
  pub x : A
  pub is : r ≡ Ok x
  pub gives : f x ≡ whole

pub bound_ok : {A B E : Type 0} (r : Result A E) (f : A → Result B E) (y : B) → (r >>= f) ≡ Ok y → Passed r f (Ok y)
bound_ok (Ok x) f y e = record { x = x; is = refl; gives = e }
bound_ok (Err fault) f y e = absurd (cc)

-- a fault is the first answer's, or comes after it
pub bound_err : {A B E : Type 0} (r : Result A E) (f : A → Result B E) (fault : E) → (r >>= f) ≡ Err fault → (r ≡ Err fault) ⊎ Passed r f (Err fault)
bound_err (Ok x) f fault e = inr (record { x = x; is = refl; gives = e })
bound_err (Err first) f fault e = let same : first ≡ fault = cc in inl (ap Err same)

pub as_ok : {A D E : Type 0} (tell : D → E) (r : Result A D) (x : A) → fault_as tell r ≡ Ok x → r ≡ Ok x
as_ok tell (Ok y) x e = let same : y ≡ x = cc in ap Ok same
as_ok tell (Err d) x e = absurd (cc)

-- a fault that is told is told of one
pub as_err : {A D E : Type 0} (tell : D → E) (r : Result A D) (fault : E) → fault_as tell r ≡ Err fault → (d : D) × (r ≡ Err d) × (tell d ≡ fault)
as_err tell (Ok x) fault e = absurd (cc)
as_err {A} tell (Err d) fault e = (d, refl, same_err {A = A} (tell d) fault e)

pub fault_or_err : {A E : Type 0} (first : Option E) (answer : Result A E) (fault : E) → fault_or first answer ≡ Err fault → (first ≡ Some fault) ⊎ (answer ≡ Err fault)
fault_or_err None answer fault e = inr e
fault_or_err {A} (Some first) answer fault e = inl (ap Some (same_err {A = A} first fault e))

-- a fault of what is made of an answer is the answer's
pub made_err : {A B E : Type 0} (r : Result A E) (f : A → B) (fault : E) → (r >>= (λ x. Ok (f x))) ≡ Err fault → r ≡ Err fault
made_err (Ok x) f fault e = absurd (cc)
made_err (Err first) f fault e = let same : first ≡ fault = cc in ap Err same
