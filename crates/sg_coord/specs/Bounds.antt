-- Extents as plain numbers, so that definitions can compute with them and build them freely.
use Rattle.std.specs.Prelude.{◌≡◌, ℕ, ◌*◌, ◌<◌, ◌≤◌, refl}
use Rattle.sg_coord.specs.Limits.{most_axes, most_extent, most_points}
use Rattle.sg_coord.specs.declared.extents.Extents.{Extents}

-- how many axes there are, and how many points each has; nothing is promised of these numbers
pub record Bounds : Type 0 where
  pub n : ℕ
  pub a : ℕ
  pub b : ℕ
  pub c : ℕ

-- the numbers of the extents
abbrev pub bounds_of : Extents → Bounds
bounds_of e = record { n = e.n; a = e.a; b = e.b; c = e.c }

-- how many points there are
abbrev pub volume : Bounds → ℕ
volume e = e.a * e.b * e.c

-- these numbers are extents: an axis or more, each with a point or more; an axis that is not used has 1; and no more axes,
-- points on an axis, or points in all, than there may be
pub record IsBounds (e : Bounds) : Type 0 where
  pub some_axis : 1 ≤ e.n
  pub three_axes : e.n ≤ most_axes
  pub a_some : 1 ≤ e.a
  pub a_most : e.a ≤ most_extent
  pub b_some : 1 ≤ e.b
  pub b_most : e.b ≤ most_extent
  pub b_unused : e.n < 2 → e.b ≡ 1
  pub c_some : 1 ≤ e.c
  pub c_most : e.c ≤ most_extent
  pub c_unused : e.n < 3 → e.c ≡ 1
  pub volume_most : volume e ≤ most_points

-- ---- examples: 4 rows of 8
abbrev pub four_by_eight : Bounds
four_by_eight = record { n = 2; a = 4; b = 8; c = 1 }

-- 2 planes of 3 rows of 5
abbrev pub two_by_three_by_five : Bounds
two_by_three_by_five = record { n = 3; a = 2; b = 3; c = 5 }

volume_of_two_axes : volume four_by_eight ≡ 32
volume_of_two_axes = refl

volume_of_three_axes : volume two_by_three_by_five ≡ 30
volume_of_three_axes = refl
