-- Masks: which lanes aren't 0.
use Rattle.std.proofs.Common.{◌≡◌, ℕ, ◌+◌, ◌<◌, ◌≤◌, ◌/◌, ◌%◌, ◌^◌, inl, inr, List, Bool, true, false, cond, eqb, ltb, length, get_or, refl, sym, ap, ◌∙◌, arith}
use Rattle.std.specs.Prelude.{not, ◌==◌, ◌&&◌, replicate, slice_set}
use Rattle.std.proofs.lemmas.Bool.{cases_eq}
use Rattle.std.proofs.lemmas.Bool.Decides.{nat_tests}
use Rattle.std.proofs.lemmas.List.{get_or-set_same, get_or-set_other, length-set}
use Rattle.std.proofs.lemmas.Simd.{length-replicate, get_or-zip2, get_or-replicate, bit_mask_l}
use lib.Lanes.{zip2, sel_l, mask_l}
use Rattle.sg_exec.specs.steps.Rows.{is_on, On}
use Rattle.sg_exec.proofs.Rows.{below_or_past, past, mixed, mixed_long, mixed_at}

and_false : (a : Bool) → false ≡ (a && false)
and_false true = refl
and_false false = refl

and_true : (a : Bool) → a ≡ (a && true)
and_true true = refl
and_true false = refl

both_from : (b : Bool) (x : ℕ) → not (cond b 0 x == 0) ≡ (not (x == 0) && not b)
both_from true x = and_false (not (x == 0))
both_from false x = and_true (not (x == 0))

rest_from : (b : Bool) (x : ℕ) → not (cond b x 0 == 0) ≡ (not (x == 0) && not (not b))
rest_from true x = and_true (not (x == 0))
rest_from false x = and_false (not (x == 0))

-- the columns of a mask in which another's lane isn't 0, and those in which it is
pub both_on : (lanes other : List ℕ) → length lanes ≡ 32 → length other ≡ 32 → (k : ℕ) → is_on (sel_l {A = ℕ} (zip2 eqb other (replicate 32 0)) (replicate 32 0) lanes) k ≡ (is_on lanes k && is_on other k)
both_on lanes other a b k = elim (below_or_past k 32) [
  | inl small ↦
      ap (λ (x : ℕ). not (x == 0)) (mixed_at other lanes (replicate 32 0) k small b a (length-replicate {A = ℕ} 32 0) ∙ ap (λ (x : ℕ). cond (get_or other k 0 == 0) x (get_or lanes k 0)) (get_or-replicate 32 k 0 0 small))
      ∙ both_from (get_or other k 0 == 0) (get_or lanes k 0)
  | inr high ↦
      ap (λ (x : ℕ). not (x == 0)) (past (mixed other lanes (replicate 32 0)) 0 k (omega (arith, high, mixed_long other lanes (replicate 32 0) b a (length-replicate {A = ℕ} 32 0))))
      ∙ sym (ap (λ (x : ℕ). not (x == 0) && is_on other k) (past lanes 0 k (omega (arith, high, a))))
]

pub rest_on : (lanes other : List ℕ) → length lanes ≡ 32 → length other ≡ 32 → (k : ℕ) → is_on (sel_l {A = ℕ} (zip2 eqb other (replicate 32 0)) lanes (replicate 32 0)) k ≡ (is_on lanes k && not (is_on other k))
rest_on lanes other a b k = elim (below_or_past k 32) [
  | inl small ↦
      ap (λ (x : ℕ). not (x == 0)) (mixed_at other (replicate 32 0) lanes k small b (length-replicate {A = ℕ} 32 0) a ∙ ap (λ (x : ℕ). cond (get_or other k 0 == 0) (get_or lanes k 0) x) (get_or-replicate 32 k 0 0 small))
      ∙ rest_from (get_or other k 0 == 0) (get_or lanes k 0)
  | inr high ↦
      ap (λ (x : ℕ). not (x == 0)) (past (mixed other (replicate 32 0) lanes) 0 k (omega (arith, high, mixed_long other (replicate 32 0) lanes b (length-replicate {A = ℕ} 32 0) a)))
      ∙ sym (ap (λ (x : ℕ). not (x == 0) && not (is_on other k)) (past lanes 0 k (omega (arith, high, a))))
]

zero_half : (m : ℕ) → 0 / m % 2 ≡ 0
zero_half m = omega arith

on_below : (x : ℕ) → not (x == 0) ≡ true → ltb 0 x ≡ true
on_below x on = grind (arith, nat_tests, on)

one_isnt_zero : ◌≡◌ {A = ℕ} 1 0 → ⊥
one_isnt_zero h = absurd (omega (arith, h))

set_lane : (x : ℕ) → ◌≡◌ {A = ℕ} (cond (ltb 0 x) 1 0) 0 → not (x == 0) ≡ true → ⊥
set_lane x none on = one_isnt_zero (sym (ap {B = ℕ} (λ (b : Bool). cond b 1 0) (on_below x on)) ∙ none)

-- where no bit of a mask is set, no lane is on
pub none_set : (lanes : List ℕ) → length lanes ≡ 32 → mask_l (zip2 ltb (replicate 32 0) lanes) ≡ 0 → (k : ℕ) → k < 32 → On lanes k → ⊥
none_set lanes long none k small on =
    let bit : ◌≡◌ {A = ℕ} (0 / 2 ^ k % 2) (cond (get_or (zip2 {C = Bool} ltb (replicate 32 0) lanes) k false) 1 0) =
    ap (λ (m : ℕ). m / 2 ^ k % 2) (sym none) ∙ bit_mask_l (zip2 {C = Bool} ltb (replicate 32 0) lanes) k in
    let lane : get_or (zip2 {C = Bool} ltb (replicate 32 0) lanes) k false ≡ ltb 0 (get_or lanes k 0) =
    get_or-zip2 ltb (replicate 32 0) lanes k 0 0 false (omega (arith, small, length-replicate {A = ℕ} 32 0)) (omega (arith, small, long))
    ∙ ap (λ (z : ℕ). ltb z (get_or lanes k 0)) (get_or-replicate 32 k 0 0 small) in
    set_lane (get_or lanes k 0) (sym (ap {B = ℕ} (λ (b : Bool). cond b 1 0) lane) ∙ sym bit ∙ zero_half (2 ^ k)) on

unset_lane : (x : ℕ) → ◌≡◌ {A = ℕ} (cond (eqb x 0) 1 0) 0 → not (x == 0) ≡ true
unset_lane x none = by_test (x == 0) none
  where
    by_test : (b : Bool) → ◌≡◌ {A = ℕ} (cond b 1 0) 0 → not b ≡ true
    by_test true is = absurd (one_isnt_zero is)
    by_test false is = refl

-- where no lane is 0, all are on
pub all_set : (lanes : List ℕ) → length lanes ≡ 32 → mask_l (zip2 eqb lanes (replicate 32 0)) ≡ 0 → (k : ℕ) → k < 32 → On lanes k
all_set lanes long none k small =
    let bit : ◌≡◌ {A = ℕ} (0 / 2 ^ k % 2) (cond (get_or (zip2 {C = Bool} eqb lanes (replicate 32 0)) k false) 1 0) =
    ap (λ (m : ℕ). m / 2 ^ k % 2) (sym none) ∙ bit_mask_l (zip2 {C = Bool} eqb lanes (replicate 32 0)) k in
    let lane : get_or (zip2 {C = Bool} eqb lanes (replicate 32 0)) k false ≡ eqb (get_or lanes k 0) 0 =
    get_or-zip2 eqb lanes (replicate 32 0) k 0 0 false (omega (arith, small, long)) (omega (arith, small, length-replicate {A = ℕ} 32 0))
    ∙ ap (λ (z : ℕ). eqb (get_or lanes k 0) z) (get_or-replicate 32 k 0 0 small) in
    unset_lane (get_or lanes k 0) (sym (ap {B = ℕ} (λ (b : Bool). cond b 1 0) lane) ∙ sym bit ∙ zero_half (2 ^ k))

equal_lane : (x word : ℕ) → ◌≡◌ {A = ℕ} (cond (not (eqb x word)) 1 0) 0 → x ≡ word
equal_lane x word none = grind (arith, nat_tests, by_test (eqb x word) none)
  where
    by_test : (b : Bool) → ◌≡◌ {A = ℕ} (cond (not b) 1 0) 0 → b ≡ true
    by_test true is = refl
    by_test false is = absurd (one_isnt_zero is)

-- where no bit of a mask of differences is set, all lanes are one word
pub all_same : (lanes : List ℕ) (word : ℕ) → length lanes ≡ 32 → mask_l (zip2 (λ a b. not (eqb a b)) lanes (replicate 32 word)) ≡ 0 → (k : ℕ) → k < 32 → get_or lanes k 0 ≡ word
all_same lanes word long none k small =
    let differ : ℕ → ℕ → Bool = λ a b. not (eqb a b) in
    let bit : ◌≡◌ {A = ℕ} (0 / 2 ^ k % 2) (cond (get_or (zip2 {C = Bool} differ lanes (replicate 32 word)) k false) 1 0) =
    ap (λ (m : ℕ). m / 2 ^ k % 2) (sym none) ∙ bit_mask_l (zip2 {C = Bool} differ lanes (replicate 32 word)) k in
    let lane : get_or (zip2 {C = Bool} differ lanes (replicate 32 word)) k false ≡ not (eqb (get_or lanes k 0) word) =
    get_or-zip2 differ lanes (replicate 32 word) k 0 0 false (omega (arith, small, long)) (omega (arith, small, length-replicate {A = ℕ} 32 word))
    ∙ ap (λ (z : ℕ). not (eqb (get_or lanes k 0) z)) (get_or-replicate 32 k word 0 small) in
    equal_lane (get_or lanes k 0) word (sym (ap {B = ℕ} (λ (b : Bool). cond b 1 0) lane) ∙ sym bit ∙ zero_half (2 ^ k))
