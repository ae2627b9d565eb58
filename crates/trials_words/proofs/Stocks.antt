-- Slots and stocks of the tests.
use Rattle.std.proofs.Common.{◌≡◌, ℕ, zero, suc, ◌+◌, ◌<◌, List, [], ◌∷◌, ◌++◌, length, replicate, refl, ap, ◌∙◌, arith}
use Rattle.std.specs.Prelude.{slice_index}
use Rattle.std.specs.List.{range_with_len}
use Rattle.std.proofs.lemmas.List.FromFn.{length-range_with_len, get_or-range_with_len}
use Rattle.sg_words.specs.Stocks.{AreLinks, IsFreshStock}

zeros : (n i : ℕ) → slice_index (replicate n 0) i ≡ 0
zeros zero i = refl
zeros (suc n) zero = refl
zeros (suc n) (suc i) = zeros n i

range-suc : (a n : ℕ) → range_with_len a (suc n) ≡ range_with_len a n ++ (a + n) ∷ []
range-suc a zero = let e : a ≡ a + 0 = omega arith in ap (λ (x : ℕ). x ∷ []) e
range-suc a (suc n) =
    let e : a + 1 + n ≡ a + suc n = omega arith in
    ap (λ l. a ∷ l) (range-suc (a + 1) n ∙ ap (λ (x : ℕ). range_with_len (a + 1) n ++ x ∷ []) e)

-- a number more
pub range-more : (a n : ℕ) → range_with_len a (n + 1) ≡ range_with_len a n ++ (a + n) ∷ []
range-more a n = let e : n + 1 ≡ suc n = omega arith in ap (range_with_len a) e ∙ range-suc a n

-- empty slots hold no number
pub empty-links : (links : List ℕ) (n : ℕ) → links ≡ replicate n 0 → AreLinks links
empty-links links n e i = let h : slice_index links i ≡ 0 = ap (λ l. slice_index l i) e ∙ zeros n i in omega arith

-- so every stock of numbers in a row is fresh
pub fresh-range : (links stock : List ℕ) (n a m : ℕ) → links ≡ replicate n 0 → stock ≡ range_with_len a m → IsFreshStock links stock
fresh-range links stock n a m e f = record {
  distinct = λ t u below below' same.
      let x = at t below in let y = at u below' in omega arith;
  unlinked = λ t i below same. let h : slice_index links i ≡ 0 = ap (λ l. slice_index l i) e ∙ zeros n i in omega arith;
}
  where
    long : length stock ≡ m
    long = ap length f ∙ length-range_with_len a m

    at : (t : ℕ) → t < length stock → slice_index stock t ≡ a + t
    at t below = ap (λ l. slice_index l t) f ∙ get_or-range_with_len a m t 0 (let h = long in omega (arith, h))
