-- The places of a hash node's table: the least power of two that is at least twice the cap, as the code finds it.
use Rattle.std.proofs.Common.{◌≡◌, ℕ, suc, ◌*◌, ◌/◌, ◌^◌, ◌<◌, ◌≤◌, leb, get_or, max, sym, ap, ◌∙◌, arith, inl, inr}
use Rattle.std.specs.List.{position_or_len, range_with_len}
use Rattle.std.specs.Int.{IsPowerOfTwo}
use Rattle.std.proofs.Math.Pow.{pow_mono}
use Rattle.std.proofs.Math.Nat.{pow-suc}
use Rattle.std.proofs.lemmas.Bool.{false≢true, le-leb, lt-leb, leb-true, cases_lt}
use Rattle.std.proofs.lemmas.List.FromFn.{get_or-range_with_len, length-range_with_len}
use Rattle.std.proofs.lemmas.List.Sums.{position_or_len_is, passes_at_first, fails_before_first}
use Rattle.sg_layout.specs.StorageWords.{power_for}

power_place : (n k : ℕ) → k ≤ 17 → n ≤ 2 ^ k → 2 ^ k / 2 < max 1 n → 1 ≤ n → position_or_len (λ j. leb n (2 ^ j)) (range_with_len 0 18) ≡ k
power_place n k low enough half some =
    position_or_len_is (λ j. leb n (2 ^ j)) (range_with_len 0 18) k 0 (omega (arith, length-range_with_len 0 18))
    (λ j below.
    let at : get_or (range_with_len 0 18) j 0 ≡ j = get_or-range_with_len 0 18 j 0 (omega arith) ∙ (omega arith) in
    let next : 2 ^ suc j ≤ 2 ^ k = pow_mono {i = suc j} {j = k} (omega arith) in
    let doubled : 2 ^ suc j ≡ 2 ^ j * 2 = pow-suc 2 j in
    ap (λ m. leb n (2 ^ m)) at ∙ lt-leb n (2 ^ j) (omega arith))
    (λ within.
    let at : get_or (range_with_len 0 18) k 0 ≡ k = get_or-range_with_len 0 18 k 0 (omega arith) ∙ (omega arith) in
    ap (λ m. leb n (2 ^ m)) at ∙ le-leb n (2 ^ k) enough)

small_power : (n k : ℕ) → 2 ^ k / 2 < max 1 n → n ≤ 2 ^ 17 → k ≤ 17
small_power n k half few = elim (cases_lt 17 k) [
  | inl long ↦ (let high : 2 ^ 18 ≤ 2 ^ k = pow_mono {i = 18} {j = k} (omega arith) in absurd (omega arith))
  | inr short ↦ short
]

pub power_is : (n p : ℕ) → IsPowerOfTwo p → n ≤ p → p / 2 < max 1 n → 1 ≤ n → n ≤ 2 ^ 17 → p ≡ power_for n
power_is n p (k, is) enough half some few =
    let half_k : 2 ^ k / 2 < max 1 n = rw is at half in
    let low : k ≤ 17 = small_power n k half_k few in
    is ∙ ap (λ j. 2 ^ j) (sym (power_place n k low (omega arith) half_k some))

-- it is large enough
pub power_reaches : (n : ℕ) → n ≤ 2 ^ 17 → n ≤ power_for n
power_reaches n few = elim (cases_lt (position_or_len (λ j. leb n (2 ^ j)) (range_with_len 0 18)) 18) [
  | inl within ↦
      let at : get_or (range_with_len 0 18) (position_or_len (λ j. leb n (2 ^ j)) (range_with_len 0 18)) 0 ≡ position_or_len (λ j. leb n (2 ^ j)) (range_with_len 0 18) =
      get_or-range_with_len 0 18 (position_or_len (λ j. leb n (2 ^ j)) (range_with_len 0 18)) 0 within ∙ (omega arith) in
      leb-true n (power_for n) (ap (λ m. leb n (2 ^ m)) (sym at)
      ∙ passes_at_first (λ j. leb n (2 ^ j)) (range_with_len 0 18) 0 (omega (arith, within, length-range_with_len 0 18)))
  | inr past ↦
      let at : get_or (range_with_len 0 18) 17 0 ≡ 17 = get_or-range_with_len 0 18 17 0 (omega arith) ∙ (omega arith) in
      let fails = fails_before_first (λ j. leb n (2 ^ j)) (range_with_len 0 18) 17 0 (omega (arith, past)) in
      absurd (false≢true (sym fails ∙ ap (λ m. leb n (2 ^ m)) at ∙ le-leb n (2 ^ 17) few))
]

-- and leaves a place empty at a full cap
pub table_large : (cap : ℕ) → 1 ≤ cap → cap ≤ 2 ^ 16 → cap < power_for (2 * cap)
table_large cap some few = omega (arith, power_reaches (2 * cap) (omega arith))
