-- Operators on a row and one word, and quotients by a product and a shift.
use Rattle.std.proofs.Common.{◌≡◌, ℕ, zero, suc, ◌+◌, ◌-◌, ◌*◌, ◌/◌, ◌%◌, ◌^◌, ◌<◌, ◌≤◌, Bool, true, false, cond, ℤ, pos, negsuc, neg_ℤ, List, [], ◌∷◌, length, map, get_or, inl, inr, refl, sym, ap, ap₂, ◌∙◌, subst, arith, pow_mono, pow-add, mod-lt, div-add-mod'}
use Rattle.std.specs.Prelude.{◌==◌, nat_lt, int_div, if◌then◌else◌}
use Rattle.std.proofs.lemmas.Bool.{cases_eq, cases_lt, cond-true, cond-false, ltb-true, ltb-false, lt-ltb, le-ltb, eqb-true}
use Rattle.std.proofs.lemmas.Int.{ints}
use Rattle.std.proofs.lemmas.Nat.{mul-le, div-mul-add}
use lib.Lanes.{zip2}
use Rattle.sg_words.specs.declared.operators.Ty.TheVariants as ty
use Rattle.sg_words.specs.declared.operators.BinOp.TheVariants as bin
use Rattle.sg_words.specs.Words.{applied, number, word_of}
use Rattle.sg_exec.proofs.EachLane.{EachBefore, same_lanes}

-- ---- rows

-- where all second words are one
pub zip_word : (f : ℕ → ℕ → ℕ) (word : ℕ) (xs ys : List ℕ) → length xs ≡ length ys → ((k : ℕ) → k < length ys → get_or ys k 0 ≡ word) → map (λ x. f x word) xs ≡ zip2 f xs ys
zip_word f word [] [] long all = refl
zip_word f word [] (y ∷ ys) long all = absurd (omega (arith, long))
zip_word f word (x ∷ xs) [] long all = absurd (omega (arith, long))
zip_word f word (x ∷ xs) (y ∷ ys) long all =
    ap₂ (λ (z : ℕ) (zs : List ℕ). z ∷ zs) (ap (f x) (sym (all 0 (omega arith)))) (zip_word f word xs ys (omega (arith, long)) (λ k below. all (suc k) (omega (arith, below))))

pub map_long : (f : ℕ → ℕ) (xs : List ℕ) → length (map f xs) ≡ length xs
map_long f [] = refl
map_long f (x ∷ xs) = ap suc (map_long f xs)

map_at : (f : ℕ → ℕ) (xs : List ℕ) (k : ℕ) → k < length xs → get_or (map f xs) k 0 ≡ f (get_or xs k 0)
map_at f [] k below = absurd (omega (arith, below))
map_at f (x ∷ xs) zero below = refl
map_at f (x ∷ xs) (suc k) below = map_at f xs k (omega (arith, below))

-- lanes that were made one after the other
pub each_of_one : (f : ℕ → ℕ) (xs lanes : List ℕ) (at : ℕ) → length xs ≡ 32 → 32 ≤ at → EachBefore (λ k. f (get_or xs k 0)) at lanes → lanes ≡ map f xs
each_of_one f xs lanes at long whole so =
    same_lanes lanes (map f xs) (omega (arith, so.long, map_long f xs, long))
    (λ k below. so.each k (omega (arith, below, so.long, whole)) ∙ sym (map_at f xs k (omega (arith, below, so.long, long))))

-- ---- quotients

-- a quotient by a product, where the number times the divisor is below the power
fast_over : (w d m top : ℕ) → 1 ≤ d → w * d < top → m ≡ top / d + 1 → w * m / top ≡ w / d
fast_over w d m top some few is =
    let q : ℕ = w / d in
    let s : ℕ = w % d in
    let p : ℕ = top / d in
    let r : ℕ = top % d in
    let e : ℕ = d - r in
    let t : ℕ = s * m + q * e in
    let w_is : q * d + s ≡ w = div-add-mod' w d in
    let k_is : p * d + r ≡ top = div-add-mod' top d in
    let s_low : s < d = mod-lt w (omega arith) in
    let r_low : r < d = mod-lt top (omega arith) in
    let dm : d * m ≡ top + e = ap (λ x. d * x) is ∙ omega arith in
    let qdm : q * (d * m) ≡ q * (top + e) = ap (λ x. q * x) dm in
    let wm0 : (q * d + s) * m ≡ w * m = ap (λ x. x * m) w_is in
    let wm : w * m ≡ q * top + t = omega arith in
    let sdm : s * (d * m) ≡ s * (top + e) = ap (λ x. s * x) dm in
    let we : (q * d + s) * e ≡ w * e = ap (λ x. x * e) w_is in
    let dt : d * t ≡ w * e + s * top = omega arith in
    let low : w * e ≤ w * d = mul-le w e w d (omega arith) (omega arith) in
    let rest : (s + 1) * top ≤ d * top = mul-le (s + 1) top d top (omega arith) (omega arith) in
    let below : t < top = elim (cases_lt t top) [
      | inl less ↦ less
      | inr more ↦ let over : d * top ≤ d * t = mul-le d top d t (omega arith) more in absurd (omega arith)
    ] in
    ap (λ x. x / top) wm ∙ div-mul-add q top t below

-- what the code knows of a divisor and of what it takes in place of it
pub record IsOver (div log over : ℕ) : Type 0 where
  pub few : log ≤ 30
  pub low : 2 ^ log ≤ div
  pub high : div < 2 ^ (log + 1)
  pub is : over ≡ 2 ^ (log + 32) / div + 1

top_is : (log : ℕ) → 2 ^ (log + 32) ≡ 2 ^ log * 2 ^ 32
top_is log = pow-add 2 log 32

pub next_is : (log : ℕ) → 2 ^ (log + 1) ≡ 2 ^ log * 2
next_is log = pow-add 2 log 1

below_top : (size div log : ℕ) → size ≤ 2 ^ 31 → div < 2 ^ (log + 1) → size * div < 2 ^ (log + 32)
below_top size div log small high =
    let most : size * div ≤ 2 ^ 31 * div = mul-le size div (2 ^ 31) div small (omega arith) in
    omega (arith, most, high, top_is log, next_is log)

pub quotient_is : (size div log over : ℕ) → size ≤ 2 ^ 31 → 1 ≤ div → IsOver div log over → size * over / 2 ^ (log + 32) ≡ size / div
quotient_is size div log over small some so = fast_over size div over (2 ^ (log + 32)) some (below_top size div log small so.high) so.is

-- the product has room in 64 bits
pub product_fits : (size div log over : ℕ) → size ≤ 2 ^ 31 → 1 ≤ div → IsOver div log over → size * over < 2 ^ 64
product_fits size div log over small some so =
    let p : ℕ = 2 ^ (log + 32) / div in
    let is : p * div + 2 ^ (log + 32) % div ≡ 2 ^ (log + 32) = div-add-mod' (2 ^ (log + 32)) div in
    let low : 2 ^ log * 2 ^ 32 ≤ div * 2 ^ 32 = mul-le (2 ^ log) (2 ^ 32) div (2 ^ 32) so.low (omega arith) in
    let most : p ≤ 2 ^ 32 = elim (cases_lt (2 ^ 32) p) [
      | inr at_most ↦ at_most
      | inl more ↦ let over : (2 ^ 32 + 1) * div ≤ p * div = mul-le (2 ^ 32 + 1) div p div (omega (arith, more)) (omega arith) in absurd (omega (arith, over, is, low, top_is log, some))
    ] in
    let room : size * over ≤ 2 ^ 31 * (2 ^ 32 + 1) = mul-le size over (2 ^ 31) (2 ^ 32 + 1) small (omega (arith, most, so.is)) in
    omega (arith, room)

quotient_low : (size div : ℕ) → 1 ≤ div → size / div ≤ size
quotient_low size div some =
    let is : size / div * div + size % div ≡ size = div-add-mod' size div in
    let more : size / div * 1 ≤ size / div * div = mul-le (size / div) 1 (size / div) div (omega arith) some in
    omega (arith, is, more)

pub quotient_most : (size div : ℕ) → size ≤ 2 ^ 31 → 1 ≤ div → size / div ≤ 2 ^ 31
quotient_most size div small some = omega (arith, quotient_low size div some, small)

-- ---- signs

number_low : (a : ℕ) → a < 2 ^ 31 → number ty.I32 a ≡ pos a
number_low a low = grind (arith, ints)

number_high : (a : ℕ) → 2 ^ 31 ≤ a → a < 2 ^ 32 → number ty.I32 a ≡ negsuc (2 ^ 32 - 1 - a)
number_high a high fits = grind (arith, ints)

word_of_neg : (q : ℕ) → q ≤ 2 ^ 31 → word_of (neg_ℤ (pos q)) ≡ (2 ^ 32 - q) % 2 ^ 32
word_of_neg zero low = refl
word_of_neg (suc q) low = omega (arith, low)

div_is : (a d : ℕ) → 1 ≤ d → applied bin.Div ty.I32 a d ≡ word_of (int_div (number ty.I32 a) (number ty.I32 d))
div_is a d some = by_test (d == 0) refl
  where
    by_test : (b : Bool) → (d == 0) ≡ b → word_of (if b then pos 0 else int_div (number ty.I32 a) (number ty.I32 d)) ≡ word_of (int_div (number ty.I32 a) (number ty.I32 d))
    by_test true none = absurd (omega (arith, some, eqb-true d 0 none))
    by_test false is = refl

pub signed_is : (a d size : ℕ) → a < 2 ^ 32 → 1 ≤ d → d < 2 ^ 31 → size ≡ (if nat_lt a (2 ^ 31) then a else 2 ^ 32 - a) / d → (if nat_lt a (2 ^ 31) then size else (2 ^ 32 - size) % 2 ^ 32) ≡ applied bin.Div ty.I32 a d
signed_is a d size fits some few is = by_sign (nat_lt a (2 ^ 31)) refl is ∙ sym (div_is a d some)
  where
    by_sign : (b : Bool) → nat_lt a (2 ^ 31) ≡ b → size ≡ (if b then a else 2 ^ 32 - a) / d → (if b then size else (2 ^ 32 - size) % 2 ^ 32) ≡ word_of (int_div (number ty.I32 a) (number ty.I32 d))
    by_sign true low is' =
        let small : a < 2 ^ 31 = ltb-true a (2 ^ 31) low in
        let value : word_of (int_div (number ty.I32 a) (number ty.I32 d)) ≡ a / d % 2 ^ 32 = ap₂ (λ (x y : ℤ). word_of (int_div x y)) (number_low a small) (number_low d few) in
        omega (arith, is', value, quotient_low a d some, small)
    by_sign false high is' =
        let big : 2 ^ 31 ≤ a = ltb-false a (2 ^ 31) high in
        let far : suc (2 ^ 32 - 1 - a) ≡ 2 ^ 32 - a = omega (arith, fits) in
        let value : word_of (int_div (number ty.I32 a) (number ty.I32 d)) ≡ word_of (neg_ℤ (pos (suc (2 ^ 32 - 1 - a) / d))) = ap₂ (λ (x y : ℤ). word_of (int_div x y)) (number_high a big fits) (number_low d few) in
        let same : suc (2 ^ 32 - 1 - a) / d ≡ size = ap (λ (n : ℕ). n / d) far ∙ sym is' in
        let most : size ≤ 2 ^ 31 = omega (arith, is', quotient_low (2 ^ 32 - a) d some, big, fits) in
        sym (word_of_neg size most) ∙ ap (λ (n : ℕ). word_of (neg_ℤ (pos n))) (sym same) ∙ sym value

-- one of two numbers by the sign
pub choose_low : (a x y : ℕ) → a < 2 ^ 31 → x ≡ (if nat_lt a (2 ^ 31) then x else y)
choose_low a x y low = sym (cond-true (nat_lt a (2 ^ 31)) x y (lt-ltb a (2 ^ 31) low))

pub choose_high : (a x y : ℕ) → 2 ^ 31 ≤ a → y ≡ (if nat_lt a (2 ^ 31) then x else y)
choose_high a x y high = sym (cond-false (nat_lt a (2 ^ 31)) x y (le-ltb a (2 ^ 31) high))

-- ---- powers of two

pub div_few : (div log : ℕ) → log ≤ 30 → div < 2 ^ (log + 1) → div < 2 ^ 31
div_few div log few high =
    let h : log + 1 ≤ 31 = omega (arith, few) in
    let low : 2 ^ (log + 1) ≤ 2 ^ 31 = pow_mono h in
    omega (arith, high, low)

pub power_fits : (log : ℕ) → log ≤ 30 → 2 ^ (log + 32) < 2 ^ 64
power_fits log few =
    let h : log + 32 ≤ 62 = omega (arith, few) in
    let low : 2 ^ (log + 32) ≤ 2 ^ 62 = pow_mono h in
    omega (arith, low)

-- the exponent of a power up to a number that is one as I32
pub log_few : (log number : ℕ) → log < 32 → 2 ^ log ≤ number → number < 2 ^ 31 → log ≤ 30
log_few log number few low small = elim (cases_eq log 31) [
  | inl same ↦
      let least : 2 ^ 31 ≤ number = subst (λ (n : ℕ). 2 ^ n ≤ number) same low in
      absurd (omega (arith, least, small))
  | inr other ↦ omega (arith, few, other)
]
