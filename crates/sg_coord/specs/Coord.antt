-- Coordinates: which are inside, their row numbers, and their order.
use Rattle.std.specs.Prelude.{◌≡◌, ℕ, ◌+◌, ◌*◌, ◌/◌, ◌%◌, Bool, true, false, ◌&&◌, ◌||◌, ◌⊎◌, ◌==◌, ℤ, pos, negsuc, ◌≤ℤ◌, ◌<ℤ◌, int_le, int_lt, refl}
use Rattle.std.specs.Ordering.{int_eq}
use Rattle.sg_coord.specs.declared.coord.Coord.{Coord}
use Rattle.sg_coord.specs.Bounds.{Bounds, four_by_eight, two_by_three_by_five}

-- a coordinate is inside if it has as many axes, and each part is at least 0 and below its extent
pub record Inside (e : Bounds) (at : Coord) : Type 0 where
  pub same_axes : at.n ≡ e.n
  pub a_low : pos 0 ≤ℤ at.a
  pub a_high : at.a <ℤ pos e.a
  pub b_low : pos 0 ≤ℤ at.b
  pub b_high : at.b <ℤ pos e.b
  pub c_low : pos 0 ≤ℤ at.c
  pub c_high : at.c <ℤ pos e.c

-- the test of one axis
abbrev pub is_on_axis : ℕ → ℤ → Bool
is_on_axis extent part = int_le (pos 0) part && int_lt part (pos extent)

-- the test that a coordinate is inside
abbrev pub is_inside : Bounds → Coord → Bool
is_inside e at = (at.n == e.n) && is_on_axis e.a at.a && is_on_axis e.b at.b && is_on_axis e.c at.c

-- a number as a count: 0 if it is negative, as no part of a coordinate inside is
abbrev pub count_of : ℤ → ℕ
count_of (pos k) = k
count_of (negsuc k) = 0

-- the row-major number, with the first axis outermost; only of a coordinate inside is it the number of
-- points that stand before this one in row order
abbrev pub row_of : Bounds → Coord → ℕ
row_of e at = (count_of at.a * e.b + count_of at.b) * e.c + count_of at.c

-- the point with this row number, by quotients and remainders; only a number below the volume has a point inside
abbrev pub point_at : Bounds → ℕ → Coord
point_at e k = record { n = e.n; a = pos (k / (e.b * e.c)); b = pos (k / e.c % e.b); c = pos (k % e.c) }

-- row order: by the first axis, then by the second, then by the third
abbrev pub ComesBefore : Coord → Coord → Type 0
ComesBefore x y = (x.a <ℤ y.a) ⊎ ((x.a ≡ y.a) × ((x.b <ℤ y.b) ⊎ ((x.b ≡ y.b) × (x.c <ℤ y.c))))

-- the test of row order
abbrev pub comes_before : Coord → Coord → Bool
comes_before x y = int_lt x.a y.a || (int_eq x.a y.a && (int_lt x.b y.b || (int_eq x.b y.b && int_lt x.c y.c)))

-- ---- examples: a coordinate of two axes
abbrev pub plane_point : ℤ → ℤ → Coord
plane_point a b = record { n = 2; a = a; b = b; c = pos 0 }

-- a coordinate of three axes
abbrev pub space_point : ℤ → ℤ → ℤ → Coord
space_point a b c = record { n = 3; a = a; b = b; c = c }

row_in_the_plane : row_of four_by_eight (plane_point (pos 2) (pos 5)) ≡ 21
row_in_the_plane = refl

row_in_space : row_of two_by_three_by_five (space_point (pos 1) (pos 2) (pos 3)) ≡ 28
row_in_space = refl

point_in_the_plane : point_at four_by_eight 21 ≡ plane_point (pos 2) (pos 5)
point_in_the_plane = refl

point_in_space : point_at two_by_three_by_five 28 ≡ space_point (pos 1) (pos 2) (pos 3)
point_in_space = refl

last_is_inside : is_inside four_by_eight (plane_point (pos 3) (pos 7)) ≡ true
last_is_inside = refl

negative_is_outside : is_inside four_by_eight (plane_point (pos 3) (negsuc 0)) ≡ false
negative_is_outside = refl

extent_is_outside : is_inside four_by_eight (plane_point (pos 3) (pos 8)) ≡ false
extent_is_outside = refl

other_axes_are_outside : is_inside four_by_eight (space_point (pos 3) (pos 7) (pos 0)) ≡ false
other_axes_are_outside = refl

first_axis_first : comes_before (plane_point (pos 1) (pos 7)) (plane_point (pos 2) (pos 0)) ≡ true
first_axis_first = refl

second_axis_next : comes_before (space_point (negsuc 0) (pos 4) (pos 0)) (space_point (negsuc 0) (pos 2) (pos 9))
    ≡ false
second_axis_next = refl

third_axis_last : comes_before (space_point (pos 1) (pos 2) (negsuc 2)) (space_point (pos 1) (pos 2) (pos 0)) ≡ true
third_axis_last = refl

not_before_itself : comes_before (space_point (pos 1) (pos 2) (pos 3)) (space_point (pos 1) (pos 2) (pos 3)) ≡ false
not_before_itself = refl
