-- A quotient of a small word by a product and a shift.
use Rattle.std.proofs.Common.{◌≡◌, ℕ, suc, ◌+◌, ◌-◌, ◌*◌, ◌/◌, ◌%◌, ◌^◌, ◌<◌, ◌≤◌, inl, inr, refl, sym, ap, ◌∙◌, subst, arith}
use Rattle.std.proofs.lemmas.Nat.{mul-le, div-mul-add, div-add-mod'}
use Rattle.std.proofs.lemmas.Bool.{cases_lt}
use Rattle.std.proofs.Math.Nat.{mod-lt}

pub fast : (w d m : ℕ) → w < 65536 → 1 ≤ d → d ≤ 32768 → m ≡ 2147483648 / d + 1 → w * m / 2147483648 ≡ w / d
fast w d m small some few is =
    let q : ℕ = w / d in
    let s : ℕ = w % d in
    let p : ℕ = 2147483648 / d in
    let r : ℕ = 2147483648 % d in
    let e : ℕ = d - r in
    let t : ℕ = s * m + q * e in
    let w_is : q * d + s ≡ w = div-add-mod' w d in
    let k_is : p * d + r ≡ 2147483648 = div-add-mod' 2147483648 d in
    let s_low : s < d = mod-lt w {m = d} (omega arith) in
    let r_low : r < d = mod-lt 2147483648 {m = d} (omega arith) in
    let dm : d * m ≡ 2147483648 + e = ap (λ x. d * x) is ∙ omega arith in
    let qdm : q * (d * m) ≡ q * (2147483648 + e) = ap (λ x. q * x) dm in
    let wm0 : (q * d + s) * m ≡ w * m = ap (λ x. x * m) w_is in
    let wm : w * m ≡ q * 2147483648 + t = omega arith in
    let sdm : s * (d * m) ≡ s * (2147483648 + e) = ap (λ x. s * x) dm in
    let we : (q * d + s) * e ≡ w * e = ap (λ x. x * e) w_is in
    let dt : d * t ≡ w * e + s * 2147483648 = omega arith in
    let low : w * e ≤ 65535 * 32768 = mul-le w e 65535 32768 (omega arith) (omega arith) in
    let below : t < 2147483648 = elim (cases_lt t 2147483648) [
      | inl less ↦ less
      | inr more ↦ let over : d * 2147483648 ≤ d * t = mul-le d 2147483648 d t (omega arith) more in absurd (omega arith)
    ] in
    ap (λ x. x / 2147483648) wm ∙ div-mul-add q 2147483648 t below

-- a quotient doesn't pass the number, and what is left is the remainder
pub quotient_low : (w d : ℕ) → 1 ≤ d → w / d ≤ w
quotient_low w d some =
    let is : w / d * d + w % d ≡ w = div-add-mod' w d in
    let more : w / d * 1 ≤ w / d * d = mul-le (w / d) 1 (w / d) d (omega arith) some in
    omega arith

pub rest : (w d : ℕ) → (w / d * d ≤ w) × (w - w / d * d ≡ w % d)
rest w d = let is : w / d * d + w % d ≡ w = div-add-mod' w d in (omega arith, omega arith)
