-- How often a number stands in a list.
use Rattle.std.proofs.Common.{◌≡◌, ℕ, zero, suc, ◌+◌, ◌<◌, ◌≤◌, Bool, true, false, ◌==◌, cond, count_by, List, [], ◌∷◌, ◌++◌, refl, sym, ap, ◌∙◌, arith}
use Rattle.std.specs.List.{range_with_len}
use Rattle.std.proofs.lemmas.Bool.{eqb-true, eqb-false, eq-eqb}
use Rattle.std.proofs.lemmas.List.Recursion.{is_count_by}

-- ---- numbers

pub zero_le : (n : ℕ) → 0 ≤ n
zero_le n = omega arith

pub add_zero : (n : ℕ) → n ≡ 0 + n
add_zero n = omega arith

pub sum_le : (t a b d x y : ℕ) → t ≡ a + b → d ≡ x + y → a ≤ x → b ≤ y → t ≤ d
sum_le t a b d x y p q h k = omega (arith, p, q, h, k)

pub first_same : (t a b d x y : ℕ) → t ≡ a + b → d ≡ x + y → a ≤ x → b ≤ y → d ≡ t → x ≡ a
first_same t a b d x y p q h k same = omega (arith, p, q, h, k, same)

pub second_same : (t a b d x y : ℕ) → t ≡ a + b → d ≡ x + y → a ≤ x → b ≤ y → d ≡ t → y ≡ b
second_same t a b d x y p q h k same = omega (arith, p, q, h, k, same)

pub sum_same : (s p q t a b : ℕ) → s ≡ p + q → t ≡ a + b → p ≡ a → q ≡ b → s ≡ t
sum_same s p q t a b h k l m = omega (arith, h, k, l, m)

pub add_le : (c a b : ℕ) → a ≤ b → c + a ≤ c + b
add_le c a b h = omega (arith, h)

pub cancel : (c a b : ℕ) → c + a ≡ c + b → a ≡ b
cancel c a b h = omega (arith, h)

pub at_most : (a b n : ℕ) → b ≡ a + 0 → a ≤ n → b ≤ n
at_most a b n p h = omega (arith, p, h)

pub there_first : (a b : ℕ) → a ≡ 1 → 1 ≤ a + b
there_first a b h = omega (arith, h)

pub there_more : (t a b : ℕ) → t ≡ a + b → 1 ≤ b → 1 ≤ t
there_more t a b p h = omega (arith, p, h)

pub itself_le : (n : ℕ) → n ≤ n
itself_le n = omega arith

pub none_of : (t d : ℕ) → t ≤ d → d ≡ 0 → t ≡ 0
none_of t d h none = omega (arith, h, none)

pub one_of : (t d : ℕ) → 1 ≤ t → t ≤ d → d ≤ 1 → t ≡ 1
one_of t d there h few = omega (arith, there, h, few)

-- ---- how often

abbrev pub one_if : Bool → ℕ
one_if true = 1
one_if false = 0

abbrev pub times : ℕ → List ℕ → ℕ
times v [] = 0
times v (x ∷ xs) = one_if (x == v) + times v xs

pub times-append : (v : ℕ) (xs ys : List ℕ) → times v (xs ++ ys) ≡ times v xs + times v ys
times-append v [] ys = add_zero (times v ys)
times-append v (x ∷ xs) ys = by_sum (one_if (x == v)) (times v (xs ++ ys)) (times v xs) (times v ys) (times-append v xs ys)
  where
    by_sum : (c n a b : ℕ) → n ≡ a + b → c + n ≡ (c + a) + b
    by_sum c n a b h = omega (arith, h)

pub counted : (v : ℕ) (xs : List ℕ) → count_by (λ x. x == v) xs ≡ times v xs
counted v xs = sym (is_count_by (times v) (λ x. x == v) refl (λ x xs. step (x == v) (times v xs)) xs)
  where
    step : (b : Bool) (n : ℕ) → one_if b + n ≡ cond b (1 + n) n
    step true n = refl
    step false n = sym (add_zero n)

pub itself : (v : ℕ) → one_if (v == v) ≡ 1
itself v = ap one_if (eq-eqb v v refl)

none_before : (v a n : ℕ) → v < a → times v (range_with_len a n) ≡ 0
none_before v a zero below = refl
none_before v a (suc n) below = by_test (a == v) refl (none_before v (a + 1) n (omega (arith, below)))
  where
    by_test : (b : Bool) → (a == v) ≡ b → times v (range_with_len (a + 1) n) ≡ 0 → one_if b + times v (range_with_len (a + 1) n) ≡ 0
    by_test true e none = let same = eqb-true a v e in absurd (omega (arith, same, below))
    by_test false e none = sym (add_zero (times v (range_with_len (a + 1) n))) ∙ none

pub once_in_range : (v a n : ℕ) → times v (range_with_len a n) ≤ 1
once_in_range v a zero = zero_le 1
once_in_range v a (suc n) = by_test (a == v) refl (once_in_range v (a + 1) n)
  where
    few : (b : Bool) (n : ℕ) → n ≡ 0 → one_if b + n ≤ 1
    few true n none = omega (arith, none)
    few false n none = omega (arith, none)

    by_test : (b : Bool) → (a == v) ≡ b → times v (range_with_len (a + 1) n) ≤ 1 → one_if b + times v (range_with_len (a + 1) n) ≤ 1
    by_test true e more = let same = eqb-true a v e in few true (times v (range_with_len (a + 1) n)) (none_before v (a + 1) n (omega (arith, same)))
    by_test false e more = omega (arith, more)

pub there_in_range : (v a n : ℕ) → a ≤ v → v < a + n → 1 ≤ times v (range_with_len a n)
there_in_range v a zero low high = absurd (omega (arith, low, high))
there_in_range v a (suc n) low high = by_test (a == v) refl (λ past. there_in_range v (a + 1) n past (omega (arith, high)))
  where
    by_test : (b : Bool) → (a == v) ≡ b → (a + 1 ≤ v → 1 ≤ times v (range_with_len (a + 1) n)) → 1 ≤ one_if b + times v (range_with_len (a + 1) n)
    by_test true e more = there_first 1 (times v (range_with_len (a + 1) n)) refl
    by_test false e more = there_more (0 + times v (range_with_len (a + 1) n)) 0 (times v (range_with_len (a + 1) n)) refl (more (differs (eqb-false a v e)))
      where
        differs : (a ≡ v → ⊥) → a + 1 ≤ v
        differs other = omega (arith, low, other)

-- Numbers after those of a range, where all together are a range: each stands once, and those of the first range don't stand there.
pub once_behind : (v n m : ℕ) (rest : List ℕ) → range_with_len 0 n ++ rest ≡ range_with_len 0 m → times v rest ≤ 1
once_behind v n m rest same = last (times v (range_with_len 0 n)) (times v rest) (times v (range_with_len 0 m)) (sym (times-append v (range_with_len 0 n) rest) ∙ ap (times v) same) (once_in_range v 0 m)
  where
    last : (a b t : ℕ) → a + b ≡ t → t ≤ 1 → b ≤ 1
    last a b t h k = omega (arith, h, k)

pub none_behind : (v n m : ℕ) (rest : List ℕ) → range_with_len 0 n ++ rest ≡ range_with_len 0 m → v < n → times v rest ≡ 0
none_behind v n m rest same below =
    last (times v (range_with_len 0 n)) (times v rest) (times v (range_with_len 0 m)) (sym (times-append v (range_with_len 0 n) rest) ∙ ap (times v) same) (once_in_range v 0 m)
    (there_in_range v 0 n (zero_le v) (omega (arith, below)))
  where
    last : (a b t : ℕ) → a + b ≡ t → t ≤ 1 → 1 ≤ a → b ≡ 0
    last a b t h k there = omega (arith, h, k, there)
