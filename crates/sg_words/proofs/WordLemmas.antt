-- The laws of words, over any numbers.
use Rattle.std.specs.Prelude.{◌≡◌, ◌≢◌, ℕ, zero, suc, ◌+◌, ◌-◌, ◌*◌, ◌/◌, ◌%◌, ◌^◌, ◌<◌, ◌≤◌, bit_and, bit_or, bit_xor, List, ℤ, pos, negsuc, ◌+ℤ◌, ◌-ℤ◌, ◌*ℤ◌, neg_ℤ, ◌≤ℤ◌, ◌<ℤ◌, unsigned_abs, int_div}
use Rattle.std.proofs.Common.{arith, refl, sym, ap, ap₂, subst, ⊎_elim, ◌∙◌, mul-add, mul_comm, div-mul-le_self}
use Rattle.std.proofs.lemmas.Bool.{cases_lt}
use Rattle.std.proofs.lemmas.Bool.Decides.{nat_tests}
use Rattle.std.proofs.lemmas.Int.{ints, unsigned_abs-mul, rem_below}
use Rattle.std.proofs.lemmas.Nat.{and_le_l, or_of_32, xor_of_32}
use Rattle.std.proofs.lemmas.Nat.Bits.{same_from_bits, bit_at_or, bit_at_and, bit_at_xor}
use Rattle.sg_words.specs.declared.operators.Ty.{Ty}
use Rattle.sg_words.specs.declared.operators.Ty.TheVariants as ty
use Rattle.sg_words.specs.declared.operators.BinOp.{BinOp}
use Rattle.sg_words.specs.declared.operators.BinOp.TheVariants as bin
use Rattle.sg_words.specs.declared.operators.UnOp.{UnOp}
use Rattle.sg_words.specs.declared.operators.UnOp.TheVariants as un
use Rattle.sg_words.specs.declared.operators.AccOp.{AccOp}
use Rattle.sg_words.specs.declared.operators.AccOp.TheVariants as acc
use Rattle.sg_words.specs.Words.{number, word_of, floor_over, quotient, folded}
use Rattle.sg_words.specs.WordLaws.{IsWord, WordHasNumber, NumberHasWord, SumIsModular, DifferenceIsModular, ProductIsModular, QuotientIsTruncated, FloorIsGreatest, RankKeepsOrder, RankIsInverted, UnrankIsInverted, AppliedIsWord, AppliedUnIsWord, MulqIsWord, FoldedIsWord, FoldedIsApplied, FoldsAlike}
use Rattle.sg_words.proofs.DivisionLemmas.{int_rem-is, int_div-quotient, abs-int_div}
use Rattle.sg_words.proofs.FoldLemmas.{fold-IsPermutation}

pub word_has_number : (t : Ty) (w : ℕ) → WordHasNumber t w
word_has_number ty.I32 w h = grind (arith, ints)
word_has_number ty.U32 w h = grind (arith, ints)
word_has_number ty.Bool w h = grind (arith, ints)

pub number_has_word : (t : Ty) (z : ℤ) → NumberHasWord t z
number_has_word ty.I32 (pos n) h = grind (arith, ints)
number_has_word ty.I32 (negsuc n) h = grind (arith, ints)
number_has_word ty.U32 (pos n) h = grind (arith, ints)
number_has_word ty.U32 (negsuc n) h = grind (arith, ints)
number_has_word ty.Bool (pos n) h = grind (arith, ints)
number_has_word ty.Bool (negsuc n) h = grind (arith, ints)

pub rank_keeps_order : (t : Ty) (a b : ℕ) → RankKeepsOrder t a b
rank_keeps_order ty.I32 a b p q = grind (arith, ints)
rank_keeps_order ty.U32 a b p q = grind (arith, ints)
rank_keeps_order ty.Bool a b p q = grind (arith, ints)

pub rank_is_inverted : (t : Ty) (w : ℕ) → RankIsInverted t w
rank_is_inverted ty.I32 w h = grind arith
rank_is_inverted ty.U32 w h = grind arith
rank_is_inverted ty.Bool w h = grind arith

pub unrank_is_inverted : (t : Ty) (k : ℕ) → UnrankIsInverted t k
unrank_is_inverted ty.I32 k h = grind arith
unrank_is_inverted ty.U32 k h = grind arith
unrank_is_inverted ty.Bool k h = grind arith

pub sum_is_modular : (t : Ty) (a b : ℕ) → SumIsModular t a b
sum_is_modular ty.I32 a b p q = grind (arith, ints)
sum_is_modular ty.U32 a b p q = refl
sum_is_modular ty.Bool a b p q = refl

pub difference_is_modular : (t : Ty) (a b : ℕ) → DifferenceIsModular t a b
difference_is_modular ty.I32 a b p q = grind (arith, ints)
difference_is_modular ty.U32 a b p q = grind (arith, ints)
difference_is_modular ty.Bool a b p q = grind (arith, ints)

-- the same for -(n + 1), over any quotient q
below_floor : (n m q : ℕ) → suc n ≤ suc q * m → (negsuc q *ℤ pos m) ≤ℤ negsuc n
below_floor n m q h = grind (arith, ints)

above_floor : (n m q : ℕ) → q * m ≤ n → negsuc n <ℤ ((negsuc q +ℤ pos 1) *ℤ pos m)
above_floor n m zero h = grind (arith, ints)
above_floor n m (suc q) h = grind (arith, ints)

mod_lt_split : (n m : ℕ) → 0 < m → suc n ≤ suc (n / m) * m
mod_lt_split n m h = grind arith

pub floor_is_greatest : (z : ℤ) (m : ℕ) → FloorIsGreatest z m
floor_is_greatest (pos n) m h = grind (arith, ints)
floor_is_greatest (negsuc n) m h = (below_floor n m (n / m) (mod_lt_split n m h), above_floor n m (n / m) (div-mul-le_self n m))

pub applied_un_is_word : (op : UnOp) (a : ℕ) → AppliedUnIsWord op a
applied_un_is_word un.Neg a = omega arith
applied_un_is_word un.Not a = omega arith
applied_un_is_word un.LNot a = grind (arith, nat_tests)

word_of_is_word : (z : ℤ) → IsWord (word_of z)
word_of_is_word (pos n) = omega arith
word_of_is_word (negsuc n) = omega arith

pub mulq_is_word : (a b s : ℕ) → MulqIsWord a b s
mulq_is_word a b s = word_of_is_word (floor_over (number ty.I32 a *ℤ number ty.I32 b) (2 ^ (s % 32)))

pub applied_is_word : (op : BinOp) (t : Ty) (a b : ℕ) → AppliedIsWord op t a b
applied_is_word bin.Add t a b p q = omega arith
applied_is_word bin.Sub t a b p q = omega arith
applied_is_word bin.Mul t a b p q = omega arith
applied_is_word bin.Div t a b p q = word_of_is_word (quotient t a b)
applied_is_word bin.Rem t a b p q = word_of_is_word (number t a -ℤ (quotient t a b *ℤ number t b))
applied_is_word bin.And t a b p q = omega (arith, and_le_l a b)
applied_is_word bin.Or t a b p q = or_of_32 a b p q
applied_is_word bin.Xor t a b p q = xor_of_32 a b p q
applied_is_word bin.LAnd t a b p q = grind (arith, nat_tests)
applied_is_word bin.LOr t a b p q = grind (arith, nat_tests)
applied_is_word bin.Shl t a b p q = omega arith
applied_is_word bin.Shr t a b p q = word_of_is_word (floor_over (number t a) (2 ^ (b % 32)))
applied_is_word bin.Min t a b p q = grind arith
applied_is_word bin.Max t a b p q = grind arith
applied_is_word bin.Eq t a b p q = grind arith
applied_is_word bin.Ne t a b p q = grind arith
applied_is_word bin.Lt t a b p q = grind arith
applied_is_word bin.Le t a b p q = grind arith
applied_is_word bin.Gt t a b p q = grind arith
applied_is_word bin.Ge t a b p q = grind arith

pub folded_is_word : (op : AccOp) (t : Ty) (a b : ℕ) → FoldedIsWord op t a b
folded_is_word acc.Add t a b p q = omega arith
folded_is_word acc.Min ty.I32 a b p q = omega arith
folded_is_word acc.Min ty.U32 a b p q = omega arith
folded_is_word acc.Min ty.Bool a b p q = omega arith
folded_is_word acc.Max ty.I32 a b p q = omega arith
folded_is_word acc.Max ty.U32 a b p q = omega arith
folded_is_word acc.Max ty.Bool a b p q = omega arith
folded_is_word acc.Or t a b p q = or_of_32 a b p q
folded_is_word acc.And t a b p q = omega (arith, and_le_l a b)
folded_is_word acc.Xor t a b p q = xor_of_32 a b p q

pub folded_is_applied : (op : AccOp) (t : Ty) (a b : ℕ) → FoldedIsApplied op t a b
folded_is_applied acc.Add t a b p q = refl
folded_is_applied acc.Min ty.I32 a b p q = grind (arith, ints)
folded_is_applied acc.Min ty.U32 a b p q = grind (arith, ints)
folded_is_applied acc.Min ty.Bool a b p q = grind (arith, ints)
folded_is_applied acc.Max ty.I32 a b p q = grind (arith, ints)
folded_is_applied acc.Max ty.U32 a b p q = grind (arith, ints)
folded_is_applied acc.Max ty.Bool a b p q = grind (arith, ints)
folded_is_applied acc.Or t a b p q = refl
folded_is_applied acc.And t a b p q = refl
folded_is_applied acc.Xor t a b p q = refl

-- ---- products
mod_same : (p q b s : ℕ) → p + b * 2 ^ 32 ≡ q + s * 2 ^ 32 → p % 2 ^ 32 ≡ q % 2 ^ 32
mod_same p q b s e = omega arith

-- a number that lacks the word m by k times 2 ^ 32
word_of_is : (z : ℤ) (k m : ℕ) → z +ℤ pos (k * 2 ^ 32) ≡ pos m → word_of z ≡ m % 2 ^ 32
word_of_is (pos n) k m e = omega (arith, ints)
word_of_is (negsuc n) k m e = omega (arith, ints)

-- n + 1 is what the word b lacks to 2 ^ 32
product_split : (a b n : ℕ) → suc n + b ≡ 2 ^ 32 → a * suc n + a * b ≡ a * 2 ^ 32
product_split a b n e = sym (mul-add a (suc n) b) ∙ ap (λ (k : ℕ). a * k) e

shifted_neg : (x k m : ℕ) → x + m ≡ k → neg_ℤ (pos x) +ℤ pos k ≡ pos m
shifted_neg x k m e = omega (arith, ints)

product_pos_neg : (a b n : ℕ) → suc n + b ≡ 2 ^ 32 → word_of (pos a *ℤ negsuc n) ≡ (a * b) % 2 ^ 32
product_pos_neg a b n e = word_of_is (pos a *ℤ negsuc n) a (a * b) (shifted_neg (a * suc n) (a * 2 ^ 32) (a * b) (product_split a b n e))

product_neg_neg : (a b m n : ℕ) → suc m + a ≡ 2 ^ 32 → suc n + b ≡ 2 ^ 32 → word_of (negsuc m *ℤ negsuc n) ≡ (a * b) % 2 ^ 32
product_neg_neg a b m n d e =
    let left = product_split (suc m) b n e in
    let right = product_split b a m d in
    let turned = mul_comm a b in
    mod_same (suc m * suc n) (a * b) b (suc m) (omega arith)

-- the integer stands for the word as I32
abbrev Stands : ℤ → ℕ → Type 0
Stands (pos n) w = n ≡ w
Stands (negsuc n) w = suc n + w ≡ 2 ^ 32

stands_low : (w : ℕ) → w < 2 ^ 31 → number ty.I32 w ≡ pos w
stands_low w h = grind (arith, ints)

stands_high : (w : ℕ) → 2 ^ 31 ≤ w → w < 2 ^ 32 → number ty.I32 w ≡ negsuc (2 ^ 32 - 1 - w)
stands_high w h k = grind (arith, ints)

stands : (w : ℕ) → IsWord w → Stands (number ty.I32 w) w
stands w h = ⊎_elim
    (λ (low : w < 2 ^ 31). subst (λ (z : ℤ). Stands z w) (sym (stands_low w low)) refl)
    (λ (high : 2 ^ 31 ≤ w). let e : suc (2 ^ 32 - 1 - w) + w ≡ 2 ^ 32 = omega arith in subst (λ (z : ℤ). Stands z w) (sym (stands_high w high h)) e)
    (cases_lt w (2 ^ 31))

product_of_standing : (x y : ℤ) (a b : ℕ) → Stands x a → Stands y b → (a * b) % 2 ^ 32 ≡ word_of (x *ℤ y)
product_of_standing (pos m) (pos n) a b d e = ap₂ (λ (k l : ℕ). (k * l) % 2 ^ 32) (sym d) (sym e)
product_of_standing (pos m) (negsuc n) a b d e = sym (product_pos_neg a b n e) ∙ ap (λ (k : ℕ). word_of (pos k *ℤ negsuc n)) (sym d)
product_of_standing (negsuc m) (pos n) a b d e = ap (λ (k : ℕ). k % 2 ^ 32) (mul_comm a b) ∙ sym (product_pos_neg b a m d) ∙ ap (λ (k : ℕ). word_of (neg_ℤ (pos k))) (mul_comm b (suc m) ∙ ap (λ (l : ℕ). suc m * l) (sym e))
product_of_standing (negsuc m) (negsuc n) a b d e = sym (product_neg_neg a b m n d e)

pub product_is_modular : (t : Ty) (a b : ℕ) → ProductIsModular t a b
product_is_modular ty.I32 a b p q = product_of_standing (number ty.I32 a) (number ty.I32 b) a b (stands a p) (stands b q)
product_is_modular ty.U32 a b p q = refl
product_is_modular ty.Bool a b p q = refl

-- ---- quotients
not_zero : (t : Ty) (b : ℕ) → IsWord b → b ≢ 0 → 0 < unsigned_abs (number t b)
not_zero ty.I32 b q h = grind (arith, ints)
not_zero ty.U32 b q h = grind arith
not_zero ty.Bool b q h = grind arith

truncated : (x y q : ℤ) → int_div x y ≡ q → 0 < unsigned_abs y → (unsigned_abs (q *ℤ y) ≤ unsigned_abs x) × (unsigned_abs (x -ℤ (q *ℤ y)) < unsigned_abs y)
truncated x y q e h = (
  subst (λ (n : ℕ). n ≤ unsigned_abs x) (sym (unsigned_abs-mul q y ∙ ap (λ (z : ℤ). unsigned_abs z * unsigned_abs y) (sym e) ∙ ap (λ (n : ℕ). n * unsigned_abs y) (abs-int_div x y))) (div-mul-le_self (unsigned_abs x) (unsigned_abs y)),
  subst (λ (z : ℤ). unsigned_abs z < unsigned_abs y) (int_rem-is x y ∙ ap (λ (z : ℤ). x -ℤ (z *ℤ y)) e) (rem_below x y h),
)

pub quotient_is_truncated : (t : Ty) (a b : ℕ) → QuotientIsTruncated t a b
quotient_is_truncated t a b p q h = truncated (number t a) (number t b) (quotient t a b) (int_div-quotient t a b h) (not_zero t b q h)

-- ---- contributions in any order
pub folded_exchanged : (op : AccOp) (t : Ty) (b x y : ℕ) → folded op t (folded op t b x) y ≡ folded op t (folded op t b y) x
folded_exchanged acc.Add t b x y = omega arith
folded_exchanged acc.Min ty.I32 b x y = omega arith
folded_exchanged acc.Min ty.U32 b x y = omega arith
folded_exchanged acc.Min ty.Bool b x y = omega arith
folded_exchanged acc.Max ty.I32 b x y = omega arith
folded_exchanged acc.Max ty.U32 b x y = omega arith
folded_exchanged acc.Max ty.Bool b x y = omega arith
folded_exchanged acc.Or t b x y = same_from_bits (bit_or (bit_or b x) y) (bit_or (bit_or b y) x)
    (λ i. omega (arith, bit_at_or (bit_or b x) y i, bit_at_or b x i, bit_at_or (bit_or b y) x i, bit_at_or b y i))
folded_exchanged acc.And t b x y = same_from_bits (bit_and (bit_and b x) y) (bit_and (bit_and b y) x)
    (λ i. omega (arith, bit_at_and (bit_and b x) y i, bit_at_and b x i, bit_at_and (bit_and b y) x i, bit_at_and b y i))
folded_exchanged acc.Xor t b x y = same_from_bits (bit_xor (bit_xor b x) y) (bit_xor (bit_xor b y) x)
    (λ i. omega (arith, bit_at_xor (bit_xor b x) y i, bit_at_xor b x i, bit_at_xor (bit_xor b y) x i, bit_at_xor b y i))

-- a contribution may be joined to the next one first
pub folded_grouped : (op : AccOp) (t : Ty) (b x y : ℕ) → folded op t b (folded op t x y) ≡ folded op t (folded op t b x) y
folded_grouped acc.Add t b x y = omega arith
folded_grouped acc.Min ty.I32 b x y = omega arith
folded_grouped acc.Min ty.U32 b x y = omega arith
folded_grouped acc.Min ty.Bool b x y = omega arith
folded_grouped acc.Max ty.I32 b x y = omega arith
folded_grouped acc.Max ty.U32 b x y = omega arith
folded_grouped acc.Max ty.Bool b x y = omega arith
folded_grouped acc.Or t b x y = same_from_bits (bit_or b (bit_or x y)) (bit_or (bit_or b x) y)
    (λ i. omega (arith, bit_at_or b (bit_or x y) i, bit_at_or x y i, bit_at_or (bit_or b x) y i, bit_at_or b x i))
folded_grouped acc.And t b x y = same_from_bits (bit_and b (bit_and x y)) (bit_and (bit_and b x) y)
    (λ i. omega (arith, bit_at_and b (bit_and x y) i, bit_at_and x y i, bit_at_and (bit_and b x) y i, bit_at_and b x i))
folded_grouped acc.Xor t b x y = same_from_bits (bit_xor b (bit_xor x y)) (bit_xor (bit_xor b x) y)
    (λ i. omega (arith, bit_at_xor b (bit_xor x y) i, bit_at_xor x y i, bit_at_xor (bit_xor b x) y i, bit_at_xor b x i))

pub folds_alike : (op : AccOp) (t : Ty) (old : ℕ) (xs ys : List ℕ) → FoldsAlike op t old xs ys
folds_alike op t old xs ys same = sym (fold-IsPermutation (folded op t) (folded_exchanged op t) old xs ys same)
