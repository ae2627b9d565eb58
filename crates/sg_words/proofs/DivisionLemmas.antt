-- Quotients that are rounded toward zero, and what they leave.
use Rattle.std.specs.Prelude.{◌≡◌, ◌≢◌, ℕ, zero, suc, ◌/◌, ℤ, pos, negsuc, ◌+ℤ◌, ◌-ℤ◌, ◌*ℤ◌, neg_ℤ, int_div, int_rem, unsigned_abs, FitsSigned}
use Rattle.std.proofs.Common.{arith, rules, refl, ap, ap₂, ◌∙◌, lt_of_le_of_lt, to_z, of_z, w64, to_z-of_z}
use Rattle.std.proofs.lemmas.Int.{ints, quot-rem}
use lib.Signed.{mag_rem}
use Rattle.sg_words.specs.declared.operators.Ty.{Ty}
use Rattle.sg_words.specs.Words.{number, quotient}

rest_of_sum : (z r x : ℤ) → z +ℤ r ≡ x → r ≡ x -ℤ z
rest_of_sum z r x e = omega (arith, ints)

pub int_rem-is : (x y : ℤ) → int_rem x y ≡ x -ℤ (int_div x y *ℤ y)
int_rem-is x y = rest_of_sum (int_div x y *ℤ y) (int_rem x y) x (quot-rem x y)

rem_fits : (x y : ℤ) → FitsSigned w64 x → FitsSigned w64 (int_rem x y)
rem_fits x y f = record { sfits = lt_of_le_of_lt (mag_rem x y) f.sfits }

-- what the code's `%` gives
pub computed_rem : (x y : ℤ) → FitsSigned w64 x → FitsSigned w64 y → to_z w64 (of_z w64 (int_rem (to_z w64 (of_z w64 x)) (to_z w64 (of_z w64 y)))) ≡ int_rem x y
computed_rem x y f g =
    ap (λ (z : ℤ). to_z w64 (of_z w64 z)) (ap₂ int_rem (to_z-of_z f) (to_z-of_z g))
    ∙ to_z-of_z (rem_fits x y f)

pub int_div-quotient : (t : Ty) (a b : ℕ) → b ≢ 0 → int_div (number t a) (number t b) ≡ quotient t a b
int_div-quotient t a b h = search rules

abs-neg : (n : ℕ) → unsigned_abs (neg_ℤ (pos n)) ≡ n
abs-neg zero = refl
abs-neg (suc n) = refl

pub abs-int_div : (x y : ℤ) → unsigned_abs (int_div x y) ≡ unsigned_abs x / unsigned_abs y
abs-int_div (pos a) (pos b) = refl
abs-int_div (pos a) (negsuc b) = abs-neg (a / suc b)
abs-int_div (negsuc a) (pos b) = abs-neg (suc a / b)
abs-int_div (negsuc a) (negsuc b) = refl
