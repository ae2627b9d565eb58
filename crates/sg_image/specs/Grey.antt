-- The grey of a number between two bounds.
use Rattle.std.specs.Prelude.{◌≡◌, refl, ℕ, ◌*◌, ◌/◌, ℤ, pos, negsuc, ◌-ℤ◌, int_le, if◌then◌else◌, [], ◌∷◌, map}
use Rattle.sg_coord.specs.Coord.{count_of}

-- 0 up to the lower bound, 255 from the upper one on; between them the part that the number has of the way, of 255, rounded down
abbrev pub grey_of : ℤ → ℤ → ℤ → ℕ
grey_of lo hi number =
    if int_le number lo then 0
    else (if int_le hi number then 255 else count_of (number -ℤ lo) * 255 / count_of (hi -ℤ lo))

-- ---- examples: from 0 to 12
of_twelve : map (grey_of (pos 0) (pos 12)) (negsuc 4 ∷ pos 0 ∷ pos 1 ∷ pos 5 ∷ pos 7 ∷ pos 9 ∷ pos 11 ∷ pos 12 ∷ pos 13 ∷ []) ≡ 0 ∷ 0 ∷ 21 ∷ 106 ∷ 148 ∷ 191 ∷ 233 ∷ 255 ∷ 255 ∷ []
of_twelve = refl

-- from -3 to -1
below_zero : map (grey_of (negsuc 2) (negsuc 0)) (negsuc 3 ∷ negsuc 2 ∷ negsuc 1 ∷ negsuc 0 ∷ pos 0 ∷ []) ≡ 0 ∷ 0 ∷ 127 ∷ 255 ∷ 255 ∷ []
below_zero = refl

-- over more numbers than there are greys
wide : map (grey_of (negsuc 4294967294) (pos 4294967295)) (negsuc 2147483647 ∷ negsuc 0 ∷ pos 0 ∷ pos 1 ∷ pos 4294967294 ∷ []) ≡ 63 ∷ 127 ∷ 127 ∷ 127 ∷ 254 ∷ []
wide = refl
