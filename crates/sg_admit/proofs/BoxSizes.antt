-- A box has as many points as its size says.
use Rattle.std.proofs.Common.{◌≡◌, ℕ, ◌*◌, Bool, true, false, nat_le, ℤ, ◌-ℤ◌, List, [], ◌∷◌, map, length, refl, ap, ◌∙◌, arith}
use Rattle.std.specs.List.{flat_map, range_with_len}
use Rattle.std.proofs.lemmas.List.{length-append, length-map}
use Rattle.std.proofs.lemmas.List.FromFn.{length-range_with_len}
use Rattle.sg_coord.specs.declared.coord.Coord.{Coord}
use Rattle.sg_layout.specs.Axes.{count_of}
use Rattle.sg_flat.specs.Domain.{parts_of}
use Rattle.sg_admit.specs.Bounds.{side_of}
use Rattle.sg_admit.specs.Laws.{BoxHasItsSize}

each_as_long : {X Y : Type 0} (f : X → List Y) (n : ℕ) → ((x : X) → length (f x) ≡ n) → (xs : List X) → length (flat_map f xs) ≡ length xs * n
each_as_long f n h [] = omega arith
each_as_long f n h (x ∷ xs) = omega (arith, length-append (f x) (flat_map f xs), h x, each_as_long f n h xs)

parts_many : (used : Bool) (lo hi : ℤ) → length (parts_of used lo hi) ≡ side_of used lo hi
parts_many true lo hi = length-map (range_with_len 0 (count_of (hi -ℤ lo))) _ ∙ length-range_with_len 0 (count_of (hi -ℤ lo))
parts_many false lo hi = refl

pub box_has_its_size : BoxHasItsSize
box_has_its_size lo hi =
    let a = parts_of (nat_le 1 lo.n) lo.a hi.a in
    let b = parts_of (nat_le 2 lo.n) lo.b hi.b in
    let c = parts_of (nat_le 3 lo.n) lo.c hi.c in
    let rows : (x : ℤ) → length (flat_map (λ (y : ℤ). map (λ (z : ℤ). point lo x y z) c) b) ≡ length b * length c =
    λ x. each_as_long (λ (y : ℤ). map (λ (z : ℤ). point lo x y z) c) (length c) (λ y. length-map c (point lo x y)) b in
    each_as_long (λ (x : ℤ). flat_map (λ (y : ℤ). map (λ (z : ℤ). point lo x y z) c) b) (length b * length c) rows a
    ∙ (ap (λ (n : ℕ). n * (length b * length c)) (parts_many (nat_le 1 lo.n) lo.a hi.a)
    ∙ (ap (λ (n : ℕ). side_of (nat_le 1 lo.n) lo.a hi.a * (n * length c)) (parts_many (nat_le 2 lo.n) lo.b hi.b)
    ∙ ap (λ (n : ℕ). side_of (nat_le 1 lo.n) lo.a hi.a * (side_of (nat_le 2 lo.n) lo.b hi.b * n)) (parts_many (nat_le 3 lo.n) lo.c hi.c)))
  where
    point : Coord → ℤ → ℤ → ℤ → Coord
    point lo x y z = record { n = lo.n; a = x; b = y; c = z }
