-- Numbers as bytes: four each, the lowest first.
use Rattle.std.specs.Prelude.{◌≡◌, ℕ, ◌+◌, ◌*◌, ◌/◌, ◌%◌, List, [], ◌∷◌, ◌++◌, Option, Some, None, option_map, refl}

-- the four bytes of a number below 2 ^ 32
abbrev pub number_bytes : ℕ → List ℕ
number_bytes number = number % 256 ∷ number / 256 % 256 ∷ number / 65536 % 256 ∷ number / 16777216 % 256 ∷ []

-- the bytes of numbers, one after the other
abbrev pub bytes_of : List ℕ → List ℕ
bytes_of [] = []
bytes_of (number ∷ numbers) = number_bytes number ++ bytes_of numbers

-- the numbers that bytes are; none where the last has fewer than four
abbrev pub numbers_of : List ℕ → Option (List ℕ)
numbers_of [] = Some []
numbers_of (a ∷ []) = None
numbers_of (a ∷ (b ∷ [])) = None
numbers_of (a ∷ (b ∷ (c ∷ []))) = None
numbers_of (a ∷ (b ∷ (c ∷ (d ∷ bytes)))) = option_map (λ numbers. (a + 256 * b + 65536 * c + 16777216 * d) ∷ numbers) (numbers_of bytes)

two_numbers : bytes_of (7 ∷ 258 ∷ []) ≡ 7 ∷ 0 ∷ 0 ∷ 0 ∷ 2 ∷ 1 ∷ 0 ∷ 0 ∷ []
two_numbers = refl

two_numbers_back : numbers_of (7 ∷ 0 ∷ 0 ∷ 0 ∷ 2 ∷ 1 ∷ 0 ∷ 0 ∷ []) ≡ Some (7 ∷ 258 ∷ [])
two_numbers_back = refl
