-- How often something stands in a list, and sums over the workers of a race.
use Rattle.std.specs.Prelude.{◌≡◌, refl, ℕ, ◌+◌, ◌-◌, ◌/◌, ◌%◌, min, max, Bool, ◌&&◌, ◌==◌, if◌then◌else◌, List, [], ◌∷◌, slice_index}
use Rattle.std.specs.Int.{bit_at}
use mathlib.Core.Option.{some}
use lib.ListN.{get_elem?}

-- 1 if a test holds, else 0
abbrev pub one : Bool → ℕ
one b = if b then 1 else 0

-- 1 if t is below n, else 0
abbrev pub once_below : ℕ → ℕ → ℕ
once_below t n = min 1 (n - t)

-- the sum of a number of each element
abbrev pub total : {A : Type 0} → (A → ℕ) → List A → ℕ
total f [] = 0
total f (x ∷ xs) = f x + total f xs

-- the greatest of a number of each element, or 0 if there is no element
abbrev pub greatest : {A : Type 0} → (A → ℕ) → List A → ℕ
greatest f [] = 0
greatest f (x ∷ xs) = max (f x) (greatest f xs)

-- a fact of each element of a list
abbrev pub Each : {A : Type 0} → (A → Type 0) → List A → Type 0
Each {A} F xs = (id : ℕ) (x : A) → get_elem? xs id ≡ some x → F x

-- how often a number stands in a list
abbrev pub times_in : ℕ → List ℕ → ℕ
times_in a xs = total (λ x. one (x == a)) xs

-- how often the pair of two numbers stands in a list
abbrev pub pairs : ℕ → ℕ → List (ℕ × ℕ) → ℕ
pairs a b xs = total (λ x. one ((x.0 == a) && (x.1 == b))) xs

-- how many pairs of a list begin with a number
abbrev pub firsts : ℕ → List (ℕ × ℕ) → ℕ
firsts a xs = total (λ x. one (x.0 == a)) xs

-- the pairs that don't begin with a number
abbrev pub without : ℕ → List (ℕ × ℕ) → List (ℕ × ℕ)
without a [] = []
without a (x ∷ xs) = if x.0 == a then without a xs else (x ∷ without a xs)

-- bit number b of a list of words of 64 bits
abbrev pub bit_in : List ℕ → ℕ → ℕ
bit_in words b = bit_at (slice_index words (b / 64)) (b % 64)

-- worked equations
three-of-five : once_below 3 5 + once_below 5 5 ≡ 1
three-of-five = refl

pairs-stand : pairs 2 7 ((2, 7) ∷ (3, 7) ∷ (2, 8) ∷ []) + firsts 2 ((2, 7) ∷ (3, 7) ∷ (2, 8) ∷ []) ≡ 3
pairs-stand = refl

taken_out : without 2 ((2, 7) ∷ (3, 7) ∷ []) ≡ (3, 7) ∷ []
taken_out = refl

second_word : bit_in (0 ∷ 4 ∷ []) 66 ≡ 1
second_word = refl
