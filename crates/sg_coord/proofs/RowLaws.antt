-- The laws of row numbers, from the facts on numbers.
use Rattle.std.proofs.Common.{◌≡◌, ℕ, ◌*◌, ◌/◌, ◌%◌, ◌<◌, inl, inr, ℤ, pos, negsuc, ◌≤ℤ◌, ◌<ℤ◌, arith, refl, sym, ap, ◌∙◌, to_z, w32}
use Rattle.std.proofs.lemmas.Nat.{mod_below}
use Rattle.std.proofs.lemmas.Int.{ints, to_z_pos}
use Rattle.sg_coord.specs.declared.coord.Coord.{Coord}
use Rattle.sg_coord.specs.Bounds.{Bounds, IsBounds, volume}
use Rattle.sg_coord.specs.Coord.{Inside, count_of, row_of, point_at, ComesBefore}
use Rattle.sg_coord.specs.Laws.{PointInside, RowOfPoint, RowBelow, PointOfRow, RowOrder, PointsRise}
use Rattle.sg_coord.proofs.Uses.{part_is, offset_below, same_parts}
use Rattle.sg_coord.proofs.Places.{place_below, place_first, place_second, place_third, factors_above, first_below, place_of_parts, Lower, lower_place, lower_parts}

pub point_inside : PointInside
point_inside e k below =
    let some = factors_above e.a e.b e.c k below in
    let first = first_below e.a e.b e.c k below in
    let second = mod_below (k / e.c) e.b some.1 in
    let third = mod_below k e.c some.2 in
    record {
      same_axes = refl;
      a_low = omega (arith, ints);
      a_high = omega (arith, ints);
      b_low = omega (arith, ints);
      b_high = omega (arith, ints);
      c_low = omega (arith, ints);
      c_high = omega (arith, ints);
    }

pub row_of_point : RowOfPoint
row_of_point e k below = place_of_parts e.b e.c k

pub row_below : RowBelow
row_below e at inside =
    place_below e.a e.b e.c (count_of at.a) (count_of at.b) (count_of at.c)
    (offset_below at.a e.a inside.a_low inside.a_high)
    (offset_below at.b e.b inside.b_low inside.b_high)
    (offset_below at.c e.c inside.c_low inside.c_high)

pub point_of_row : PointOfRow
point_of_row e at inside =
    let b_below = offset_below at.b e.b inside.b_low inside.b_high in
    let c_below = offset_below at.c e.c inside.c_low inside.c_high in
    same_parts (point_at e (row_of e at)) at (sym inside.same_axes)
    (ap pos (place_first e.b e.c (count_of at.a) (count_of at.b) (count_of at.c) b_below c_below) ∙ sym (part_is at.a inside.a_low))
    (ap pos (place_second e.b e.c (count_of at.a) (count_of at.b) (count_of at.c) b_below c_below) ∙ sym (part_is at.b inside.b_low))
    (ap pos (place_third e.b e.c (count_of at.a) (count_of at.b) (count_of at.c) c_below) ∙ sym (part_is at.c inside.c_low))

-- the point as the code makes it, by casts of its parts
unfoldable pub cast_point : ℕ → ℕ → ℕ → ℕ → Coord
cast_point n a b c = record { n = n; a = to_z w32 a; b = to_z w32 b; c = to_z w32 c }

pub cast_point_is : (e : Bounds) (k a b c : ℕ) → a ≡ k / (e.b * e.c) → b ≡ k / e.c % e.b → c ≡ k % e.c → IsBounds e → k < volume e → cast_point e.n a b c ≡ point_at e k
unfolding cast_point
cast_point_is e k a b c a_is b_is c_is bounds below =
    let some = factors_above e.a e.b e.c k below in
    let first = first_below e.a e.b e.c k below in
    let second = mod_below (k / e.c) e.b some.1 in
    let third = mod_below k e.c some.2 in
    same_parts (cast_point e.n a b c) (point_at e k) refl
    (ap (to_z w32) a_is ∙ to_z_pos w32 (k / (e.b * e.c)) (omega (arith, bounds.a_most)))
    (ap (to_z w32) b_is ∙ to_z_pos w32 (k / e.c % e.b) (omega (arith, bounds.b_most)))
    (ap (to_z w32) c_is ∙ to_z_pos w32 (k % e.c) (omega (arith, bounds.c_most)))

-- offsets follow the order of parts
offset_rises : (x y : ℤ) → pos 0 ≤ℤ x → x <ℤ y → count_of x < count_of y
offset_rises (pos j) (pos k) low less = omega (arith, ints)
offset_rises (pos j) (negsuc k) low less = absurd (omega (arith, ints))
offset_rises (negsuc j) y low less = absurd (omega (arith, ints))

part_rises : (x y : ℤ) → pos 0 ≤ℤ x → pos 0 ≤ℤ y → count_of x < count_of y → x <ℤ y
part_rises x y low high less =
    let left = part_is x low in
    let right = part_is y high in
    omega (arith, ints)

same_offset : (x y : ℤ) → pos 0 ≤ℤ x → pos 0 ≤ℤ y → count_of x ≡ count_of y → x ≡ y
same_offset x y low high same = part_is x low ∙ ap pos same ∙ sym (part_is y high)

-- row order is the order of the offsets
lower_offsets : (e : Bounds) (x y : Coord) → Inside e x → Inside e y → ComesBefore x y → Lower (count_of x.a) (count_of x.b) (count_of x.c) (count_of y.a) (count_of y.b) (count_of y.c)
lower_offsets e x y p q before = elim before [
  | inl first ↦ inl (offset_rises x.a y.a p.a_low first)
  | inr (same, inl second) ↦ inr (ap count_of same, inl (offset_rises x.b y.b p.b_low second))
  | inr (same, inr (alike, third)) ↦ inr (ap count_of same, inr (ap count_of alike, offset_rises x.c y.c p.c_low third))
]

lower_coord : (e : Bounds) (x y : Coord) → Inside e x → Inside e y → Lower (count_of x.a) (count_of x.b) (count_of x.c) (count_of y.a) (count_of y.b) (count_of y.c) → ComesBefore x y
lower_coord e x y p q lower = elim lower [
  | inl first ↦ inl (part_rises x.a y.a p.a_low q.a_low first)
  | inr (same, inl second) ↦ inr (same_offset x.a y.a p.a_low q.a_low same, inl (part_rises x.b y.b p.b_low q.b_low second))
  | inr (same, inr (alike, third)) ↦ inr (same_offset x.a y.a p.a_low q.a_low same, inr (same_offset x.b y.b p.b_low q.b_low alike, part_rises x.c y.c p.c_low q.c_low third))
]

pub row_order : RowOrder
row_order e x y p q =
    let xb = offset_below x.b e.b p.b_low p.b_high in
    let xc = offset_below x.c e.c p.c_low p.c_high in
    let yb = offset_below y.b e.b q.b_low q.b_high in
    let yc = offset_below y.c e.c q.c_low q.c_high in (
      λ before. lower_place e.b e.c _ _ _ _ _ _ xb xc (lower_offsets e x y p q before),
      λ less. lower_coord e x y p q (lower_parts e.b e.c _ _ _ _ _ _ xb xc yb yc less),
    )

pub points_rise : PointsRise
points_rise e j k less below =
    let j_below : j < volume e = omega arith in
    let same_j = row_of_point e j j_below in
    let same_k = row_of_point e k below in
    (row_order e (point_at e j) (point_at e k) (point_inside e j j_below) (point_inside e k below)).1 (omega arith)
