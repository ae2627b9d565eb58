-- Places in a box of numbers: the row number of three parts, and the parts of a row number.
use Rattle.std.proofs.Common.{◌≡◌, ℕ, ◌+◌, ◌*◌, ◌/◌, ◌%◌, ◌<◌, ◌≤◌, ◌⊎◌, inl, inr, arith, sym, ap, ◌∙◌}
use Rattle.std.proofs.lemmas.Nat.{mul-add-lt, div-mul-add, mod-mul-add, div_below, div-add-mod'}
use Rattle.std.proofs.lemmas.Bool.{cases_order}
use Rattle.std.proofs.Math.Nat.{pos_of_ne-zero, mul-lt-mul_of_pos_right, mul-le-mul_right, mul_comm, div-div-eq-div-mul}

-- the number of a place is below the product of the extents
pub place_below : (m n l a b c : ℕ) → a < m → b < n → c < l → (a * n + b) * l + c < m * n * l
place_below m n l a b c p q r =
    let line = mul-add-lt a n b m p q in
    let plane : a * n + b < m * n = omega (arith, line) in
    omega (arith, mul-add-lt (a * n + b) l c (m * n) plane r)

-- a place without its last part
pub place_line : (n l a b c : ℕ) → c < l → ((a * n + b) * l + c) / l ≡ a * n + b
place_line n l a b c r = div-mul-add (a * n + b) l c r

-- the parts of a place
pub place_third : (n l a b c : ℕ) → c < l → ((a * n + b) * l + c) % l ≡ c
place_third n l a b c r = mod-mul-add (a * n + b) l c r

pub place_second : (n l a b c : ℕ) → b < n → c < l → ((a * n + b) * l + c) / l % n ≡ b
place_second n l a b c q r = ap (λ k. k % n) (place_line n l a b c r) ∙ mod-mul-add a n b q

pub place_first : (n l a b c : ℕ) → b < n → c < l → ((a * n + b) * l + c) / (n * l) ≡ a
place_first n l a b c q r =
    let rest : b * l + c < n * l = omega (arith, mul-add-lt b l c n q r) in
    let split : (a * n + b) * l + c ≡ a * (n * l) + (b * l + c) = omega arith in
    ap (λ k. k / (n * l)) split ∙ div-mul-add a (n * l) (b * l + c) rest

-- if a number is below a product, no factor is 0
pub factors_above : (m n l k : ℕ) → k < m * n * l → (0 < m) × (0 < n) × (0 < l)
factors_above m n l k h = (
  pos_of_ne-zero (λ e. omega (arith, ap (λ x. x * n * l) e)),
  pos_of_ne-zero (λ e. omega (arith, ap (λ x. m * x * l) e)),
  pos_of_ne-zero (λ e. omega (arith, ap (λ x. m * n * x) e)),
)

-- the first part of a number below the product is below the first extent
pub first_below : (m n l k : ℕ) → k < m * n * l → k / (n * l) < m
first_below m n l k h =
    let some = factors_above m n l k h in
    let plane : 0 < n * l = omega (arith, mul-lt-mul_of_pos_right some.1 some.2) in
    div_below k (n * l) m plane (omega arith)

-- the parts of a number make that number
pub place_of_parts : (n l k : ℕ) → (k / (n * l) * n + k / l % n) * l + k % l ≡ k
place_of_parts n l k =
    let turned : k / (n * l) ≡ k / l / n = ap (λ x. k / x) (mul_comm n l) ∙ sym (div-div-eq-div-mul k l n) in
    let line : k / (n * l) * n + k / l % n ≡ k / l = ap (λ x. x * n + k / l % n) turned ∙ div-add-mod' (k / l) n in
    ap (λ x. x * l + k % l) line ∙ div-add-mod' k l

-- a step in the first part outweighs the rest
pub step_first : (n a b d e : ℕ) → b < n → a < d → a * n + b < d * n + e
step_first n a b d e p q =
    let next : a + 1 ≤ d = omega arith in
    omega (arith, mul-le-mul_right n next)

-- a step in the first part of three, and in the second
pub step_of_three : (n l a b c d e f : ℕ) → b < n → c < l → a < d → (a * n + b) * l + c < (d * n + e) * l + f
step_of_three n l a b c d e f p q h = step_first l (a * n + b) c (d * n + e) f q (step_first n a b d e p h)

pub step_second : (n l a b c e f : ℕ) → c < l → b < e → (a * n + b) * l + c < (a * n + e) * l + f
step_second n l a b c e f q h = let line : a * n + b < a * n + e = omega arith in step_first l (a * n + b) c (a * n + e) f q line

-- the parts a, b, c come before d, e, f, compared from the first on
abbrev pub Lower : (a b c d e f : ℕ) → Type 0
Lower a b c d e f = (a < d) ⊎ ((a ≡ d) × ((b < e) ⊎ ((b ≡ e) × (c < f))))

-- places follow the order of their parts
pub lower_place : (n l a b c d e f : ℕ) → b < n → c < l → Lower a b c d e f → (a * n + b) * l + c < (d * n + e) * l + f
lower_place n l a b c d e f p q (inl first) = step_of_three n l a b c d e f p q first
lower_place n l a b c d e f p q (inr (same, inl second)) =
    rw (← same) (step_second n l a b c e f q second)
lower_place n l a b c d e f p q (inr (same, inr (alike, third))) =
    rw (← same, ← alike) (omega arith)

pub lower_parts : (n l a b c d e f : ℕ) → b < n → c < l → e < n → f < l → (a * n + b) * l + c < (d * n + e) * l + f → Lower a b c d e f
lower_parts n l a b c d e f p q r s less = elim (cases_order a d) [
  | inl same_first ↦ elim (cases_order b e) [
    | inl same_second ↦ inr (same_first, inr (same_second, (let h : (d * n + e) * l + c < (d * n + e) * l + f = rw same_first at rw same_second at less in omega arith)))
    | inr (inl below) ↦ inr (same_first, inl below)
    | inr (inr above) ↦ absurd (omega (arith, lower_place n l d e f a b c r s (inr (sym same_first, inl above))))
  ]
  | inr (inl below) ↦ inl below
  | inr (inr above) ↦ absurd (omega (arith, lower_place n l d e f a b c r s (inl above)))
]
