-- Laws of words: numbers and words, arithmetic modulo 2 ^ 32, rounding, order, and that the order of contributions doesn't matter.
use Rattle.std.specs.Prelude.{◌≡◌, ◌≢◌, ◌↔◌, ℕ, ◌^◌, ◌<◌, ◌≤◌, List, fold, IsPermutation, ℤ, pos, ◌+ℤ◌, ◌-ℤ◌, ◌*ℤ◌, ◌≤ℤ◌, ◌<ℤ◌, unsigned_abs, FitsSigned}
use Rattle.std.specs.Int.{w32, FitsUnsigned}
use Rattle.sg_words.specs.declared.operators.Ty.{Ty}
use Rattle.sg_words.specs.declared.operators.Ty.TheVariants as ty
use Rattle.sg_words.specs.declared.operators.BinOp.{BinOp}
use Rattle.sg_words.specs.declared.operators.BinOp.TheVariants as bin
use Rattle.sg_words.specs.declared.operators.UnOp.{UnOp}
use Rattle.sg_words.specs.declared.operators.AccOp.{AccOp}
use Rattle.sg_words.specs.declared.operators.AccOp.TheVariants as acc
use Rattle.sg_words.specs.Words.{number, word_of, floor_over, quotient, applied, applied_un, mulq_of, rank_of, unrank_of, folded}

-- a word of 32 bits
abbrev pub IsWord : ℕ → Type 0
IsWord w = w < 2 ^ 32

-- a number that words of the type stand for: from -2 ^ 31 to 2 ^ 31 - 1, or from 0 to 2 ^ 32 - 1
abbrev pub IsOfType : Ty → ℤ → Type 0
IsOfType ty.I32 z = FitsSigned w32 z
IsOfType ty.U32 z = FitsUnsigned w32 z
IsOfType ty.Bool z = FitsUnsigned w32 z

-- a word stands for a number of its type, and is that number modulo 2 ^ 32
abbrev pub WordHasNumber : Ty → ℕ → Type 0
WordHasNumber t w = IsWord w → IsOfType t (number t w) × (word_of (number t w) ≡ w)

-- a number of a type is what a word stands for
abbrev pub NumberHasWord : Ty → ℤ → Type 0
NumberHasWord t z = IsOfType t z → IsWord (word_of z) × (number t (word_of z) ≡ z)

-- in each type the word of a sum is that of the sum of the numbers, modulo 2 ^ 32
abbrev pub SumIsModular : Ty → ℕ → ℕ → Type 0
SumIsModular t a b = IsWord a → IsWord b → applied bin.Add t a b ≡ word_of (number t a +ℤ number t b)

-- the word of a difference is that of the difference of the numbers
abbrev pub DifferenceIsModular : Ty → ℕ → ℕ → Type 0
DifferenceIsModular t a b = IsWord a → IsWord b → applied bin.Sub t a b ≡ word_of (number t a -ℤ number t b)

-- the word of a product is that of the product of the numbers
abbrev pub ProductIsModular : Ty → ℕ → ℕ → Type 0
ProductIsModular t a b = IsWord a → IsWord b → applied bin.Mul t a b ≡ word_of (number t a *ℤ number t b)

-- a quotient is rounded toward zero: times the divisor it doesn't pass the dividend, and what is left is less than the divisor
abbrev pub QuotientIsTruncated : Ty → ℕ → ℕ → Type 0
QuotientIsTruncated t a b = IsWord a → IsWord b → b ≢ 0 → (unsigned_abs (quotient t a b *ℤ number t b) ≤ unsigned_abs (number t a)) × (unsigned_abs (number t a -ℤ (quotient t a b *ℤ number t b)) < unsigned_abs (number t b))

-- a floor is the greatest whole number that, times m, doesn't pass z
abbrev pub FloorIsGreatest : ℤ → ℕ → Type 0
FloorIsGreatest z m = 0 < m → ((floor_over z m *ℤ pos m) ≤ℤ z) × (z <ℤ ((floor_over z m +ℤ pos 1) *ℤ pos m))

-- ranks are in the order of the numbers
abbrev pub RankKeepsOrder : Ty → ℕ → ℕ → Type 0
RankKeepsOrder t a b = IsWord a → IsWord b → (rank_of t a < rank_of t b) ↔ (number t a <ℤ number t b)

-- each word has a rank below 2 ^ 32, and is the word at its rank
abbrev pub RankIsInverted : Ty → ℕ → Type 0
RankIsInverted t w = IsWord w → (rank_of t w < 2 ^ 32) × (unrank_of t (rank_of t w) ≡ w)

-- each number below 2 ^ 32 is the rank of the word that stands at it
abbrev pub UnrankIsInverted : Ty → ℕ → Type 0
UnrankIsInverted t k = k < 2 ^ 32 → IsWord (unrank_of t k) × (rank_of t (unrank_of t k) ≡ k)

-- an operator with two sides gives a word on words
abbrev pub AppliedIsWord : BinOp → Ty → ℕ → ℕ → Type 0
AppliedIsWord op t a b = IsWord a → IsWord b → IsWord (applied op t a b)

-- an operator with one side gives a word on every number
abbrev pub AppliedUnIsWord : UnOp → ℕ → Type 0
AppliedUnIsWord op a = IsWord (applied_un op a)

-- a product of fixed-point numbers is a word
abbrev pub MulqIsWord : ℕ → ℕ → ℕ → Type 0
MulqIsWord a b s = IsWord (mulq_of a b s)

-- an accumulation of two words gives a word
abbrev pub FoldedIsWord : AccOp → Ty → ℕ → ℕ → Type 0
FoldedIsWord op t a b = IsWord a → IsWord b → IsWord (folded op t a b)

-- the operator that joins as an accumulation does
abbrev pub joining_operator : AccOp → BinOp
joining_operator acc.Add = bin.Add
joining_operator acc.Min = bin.Min
joining_operator acc.Max = bin.Max
joining_operator acc.Or = bin.Or
joining_operator acc.And = bin.And
joining_operator acc.Xor = bin.Xor

-- an accumulation joins two words as its operator does
abbrev pub FoldedIsApplied : AccOp → Ty → ℕ → ℕ → Type 0
FoldedIsApplied op t a b = IsWord a → IsWord b → folded op t a b ≡ applied (joining_operator op) t a b

-- contributions joined to an old word give the same in every order
abbrev pub FoldsAlike : AccOp → Ty → ℕ → List ℕ → List ℕ → Type 0
FoldsAlike op t old xs ys = IsPermutation xs ys → fold (folded op t) old xs ≡ fold (folded op t) old ys
