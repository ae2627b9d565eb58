-- Words of 32 bits, the numbers that they stand for, and what each operator makes of them.
-- A word is a ℕ below 2 ^ 32. Each definition is total, and gives a word where it is given words.
use Rattle.std.specs.Prelude.{◌≡◌, refl, ℕ, ◌+◌, ◌-◌, ◌*◌, ◌/◌, ◌%◌, ◌^◌, min, max, Bool, not, ◌&&◌, ◌||◌, ◌==◌, if◌then◌else◌, nat_lt, bit_and, bit_or, bit_xor, ℤ, pos, negsuc, ◌-ℤ◌, ◌*ℤ◌, int_lt, int_le, int_div}
use Rattle.sg_words.specs.declared.operators.Ty.{Ty}
use Rattle.sg_words.specs.declared.operators.Ty.TheVariants as ty
use Rattle.sg_words.specs.declared.operators.BinOp.{BinOp}
use Rattle.sg_words.specs.declared.operators.BinOp.TheVariants as bin
use Rattle.sg_words.specs.declared.operators.UnOp.{UnOp}
use Rattle.sg_words.specs.declared.operators.UnOp.TheVariants as un
use Rattle.sg_words.specs.declared.operators.AccOp.{AccOp}
use Rattle.sg_words.specs.declared.operators.AccOp.TheVariants as acc

-- the number that a word stands for in a type: as I32 a word from 2 ^ 31 on stands for itself minus 2 ^ 32
abbrev pub number : Ty → ℕ → ℤ
number ty.I32 w = if nat_lt w (2 ^ 31) then pos w else (pos w -ℤ pos (2 ^ 32))
number ty.U32 w = pos w
number ty.Bool w = pos w

-- a whole number modulo 2 ^ 32; `negsuc n` is -(n + 1)
abbrev pub word_of : ℤ → ℕ
word_of (pos n) = n % 2 ^ 32
word_of (negsuc n) = 2 ^ 32 - 1 - n % 2 ^ 32

-- a number divided by m and rounded down
abbrev pub floor_over : ℤ → ℕ → ℤ
floor_over (pos n) m = pos (n / m)
floor_over (negsuc n) m = negsuc (n / m)

-- the word of a truth value: 1 or 0
abbrev pub flag : Bool → ℕ
flag b = if b then 1 else 0

-- the quotient of two words' numbers in a type, rounded toward zero; 0 if the divisor is 0
abbrev pub quotient : Ty → ℕ → ℕ → ℤ
quotient t a b = if b == 0 then pos 0 else int_div (number t a) (number t b)

-- what an operator gives on two words in a type
abbrev pub applied : BinOp → Ty → ℕ → ℕ → ℕ
applied bin.Add t a b = (a + b) % 2 ^ 32
applied bin.Sub t a b = (a + (2 ^ 32 - b)) % 2 ^ 32
applied bin.Mul t a b = (a * b) % 2 ^ 32
applied bin.Div t a b = word_of (quotient t a b)
applied bin.Rem t a b = word_of (number t a -ℤ (quotient t a b *ℤ number t b))
applied bin.And t a b = bit_and a b
applied bin.Or t a b = bit_or a b
applied bin.Xor t a b = bit_xor a b
applied bin.LAnd t a b = flag (not (a == 0) && not (b == 0))
applied bin.LOr t a b = flag (not (a == 0) || not (b == 0))
applied bin.Shl t a b = (a * 2 ^ (b % 32)) % 2 ^ 32
applied bin.Shr t a b = word_of (floor_over (number t a) (2 ^ (b % 32)))
applied bin.Min t a b = if int_le (number t a) (number t b) then a else b
applied bin.Max t a b = if int_le (number t a) (number t b) then b else a
applied bin.Eq t a b = flag (a == b)
applied bin.Ne t a b = flag (not (a == b))
applied bin.Lt t a b = flag (int_lt (number t a) (number t b))
applied bin.Le t a b = flag (int_le (number t a) (number t b))
applied bin.Gt t a b = flag (int_lt (number t b) (number t a))
applied bin.Ge t a b = flag (int_le (number t b) (number t a))

-- what an operator gives on one word
abbrev pub applied_un : UnOp → ℕ → ℕ
applied_un un.Neg a = (2 ^ 32 - a) % 2 ^ 32
applied_un un.Not a = 2 ^ 32 - 1 - a
applied_un un.LNot a = flag (a == 0)

-- the product of two words as I32, divided by 2 ^ (s modulo 32) and rounded down
abbrev pub mulq_of : ℕ → ℕ → ℕ → ℕ
mulq_of a b s = word_of (floor_over (number ty.I32 a *ℤ number ty.I32 b) (2 ^ (s % 32)))

-- a number below 2 ^ 32 for a word, that is the smaller the smaller the word's number is
abbrev pub rank_of : Ty → ℕ → ℕ
rank_of ty.I32 w = (w + 2 ^ 31) % 2 ^ 32
rank_of ty.U32 w = w
rank_of ty.Bool w = w

-- the word of a rank
abbrev pub unrank_of : Ty → ℕ → ℕ
unrank_of ty.I32 k = (k + 2 ^ 31) % 2 ^ 32
unrank_of ty.U32 k = k
unrank_of ty.Bool k = k

-- an old word a and a contribution b, joined: their sum, the one of smaller or greater rank, or what an operator of bits gives
abbrev pub folded : AccOp → Ty → ℕ → ℕ → ℕ
folded acc.Add t a b = (a + b) % 2 ^ 32
folded acc.Min t a b = unrank_of t (min (rank_of t a) (rank_of t b))
folded acc.Max t a b = unrank_of t (max (rank_of t a) (rank_of t b))
folded acc.Or t a b = applied bin.Or t a b
folded acc.And t a b = applied bin.And t a b
folded acc.Xor t a b = applied bin.Xor t a b

-- worked equations
smallest-by-minus_one : applied bin.Div ty.I32 2147483648 4294967295 ≡ 2147483648
smallest-by-minus_one = refl

smallest-rem-minus_one : applied bin.Rem ty.I32 2147483648 4294967295 ≡ 0
smallest-rem-minus_one = refl

minus_seven-by-two : applied bin.Div ty.I32 4294967289 2 ≡ 4294967293
minus_seven-by-two = refl

minus_seven-rem-two : applied bin.Rem ty.I32 4294967289 2 ≡ 4294967295
minus_seven-rem-two = refl

seven-by-zero : applied bin.Div ty.U32 7 0 ≡ 0
seven-by-zero = refl

seven-rem-zero : applied bin.Rem ty.U32 7 0 ≡ 7
seven-rem-zero = refl

smallest-shr : applied bin.Shr ty.I32 2147483648 31 ≡ 4294967295
smallest-shr = refl

top_bit-shr : applied bin.Shr ty.U32 2147483648 31 ≡ 1
top_bit-shr = refl

one-shl-33 : applied bin.Shl ty.I32 1 33 ≡ 2
one-shl-33 = refl

one_by_one : mulq_of 65536 65536 16 ≡ 65536
one_by_one = refl

greatest_twice : mulq_of 2147483647 2 0 ≡ 4294967294
greatest_twice = refl

minus_three-halved : mulq_of 4294967293 1 1 ≡ 4294967294
minus_three-halved = refl

rank-five : rank_of ty.I32 5 ≡ 2147483653
rank-five = refl

rank-minus_three : rank_of ty.I32 4294967293 ≡ 2147483645
rank-minus_three = refl

add-wraps : applied bin.Add ty.U32 4294967295 2 ≡ 1
add-wraps = refl

sub-wraps : applied bin.Sub ty.I32 3 5 ≡ 4294967294
sub-wraps = refl

mul-wraps : applied bin.Mul ty.U32 65536 65537 ≡ 65536
mul-wraps = refl

and-or-xor : applied bin.And ty.U32 12 10 + applied bin.Or ty.U32 12 10 + applied bin.Xor ty.U32 12 10 ≡ 8 + 14 + 6
and-or-xor = refl

land-lor : applied bin.LAnd ty.Bool 2 1 + applied bin.LOr ty.Bool 0 0 ≡ 1
land-lor = refl

min-signed : applied bin.Min ty.I32 4294967293 5 ≡ 4294967293
min-signed = refl

min-unsigned : applied bin.Min ty.U32 4294967293 5 ≡ 5
min-unsigned = refl

max-signed : applied bin.Max ty.I32 4294967293 5 ≡ 5
max-signed = refl

lt-signed : applied bin.Lt ty.I32 4294967293 5 ≡ 1
lt-signed = refl

lt-unsigned : applied bin.Lt ty.U32 4294967293 5 ≡ 0
lt-unsigned = refl

le-ge-same : applied bin.Le ty.I32 7 7 + applied bin.Ge ty.I32 7 7 + applied bin.Gt ty.I32 7 7 ≡ 2
le-ge-same = refl

eq-ne : applied bin.Eq ty.U32 7 7 + applied bin.Ne ty.U32 7 7 ≡ 1
eq-ne = refl

neg-five : applied_un un.Neg 5 ≡ 4294967291
neg-five = refl

neg-zero : applied_un un.Neg 0 ≡ 0
neg-zero = refl

not-one : applied_un un.Not 1 ≡ 4294967294
not-one = refl

lnot-two : applied_un un.LNot 2 ≡ 0
lnot-two = refl

folded-min-signed : folded acc.Min ty.I32 4294967293 5 ≡ 4294967293
folded-min-signed = refl

folded-max-unsigned : folded acc.Max ty.U32 4294967293 5 ≡ 4294967293
folded-max-unsigned = refl

folded-add-wraps : folded acc.Add ty.U32 4294967295 2 ≡ 1
folded-add-wraps = refl

folded-or : folded acc.Or ty.I32 12 10 ≡ 14
folded-or = refl

folded-and-signed : folded acc.And ty.I32 4294967293 5 ≡ 5
folded-and-signed = refl

folded-xor-signed : folded acc.Xor ty.I32 4294967295 1 ≡ 4294967294
folded-xor-signed = refl
