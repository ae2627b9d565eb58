-- What other crates use of coordinates: parts as counts, and equal coordinates by their parts.
use Rattle.std.proofs.Common.{◌≡◌, ℕ, ◌<◌, ℤ, pos, negsuc, ◌≤ℤ◌, ◌<ℤ◌, arith, refl, ap, ◌∙◌}
use Rattle.std.proofs.lemmas.Int.{ints}
use Rattle.sg_coord.specs.declared.coord.Coord.{Coord}
use Rattle.sg_coord.specs.Coord.{count_of}

-- a part that is at least 0 is its offset, which is below what the part is below
pub part_is : (z : ℤ) → pos 0 ≤ℤ z → z ≡ pos (count_of z)
part_is (pos k) low = refl
part_is (negsuc k) low = absurd (omega (arith, ints))

pub offset_below : (z : ℤ) (n : ℕ) → pos 0 ≤ℤ z → z <ℤ pos n → count_of z < n
offset_below (pos k) n low high = omega (arith, ints)
offset_below (negsuc k) n low high = absurd (omega (arith, ints))

-- coordinates with equal parts are equal
made : ℕ → ℤ → ℤ → ℤ → Coord
made n a b c = record { n = n; a = a; b = b; c = c }

pub same_parts : (x y : Coord) → x.n ≡ y.n → x.a ≡ y.a → x.b ≡ y.b → x.c ≡ y.c → x ≡ y
unfolding made
same_parts x y n a b c =
    ap (λ v. made v x.a x.b x.c) n ∙ ap (λ v. made y.n v x.b x.c) a ∙ ap (λ v. made y.n y.a v x.c) b ∙ ap (λ v. made y.n y.a y.b v) c
