-- How great coordinates and extents may be.
use Rattle.std.specs.Prelude.{ℕ, ◌^◌}

-- the most axes
abbrev pub most_axes : ℕ
most_axes = 3

-- the greatest extent of an axis
abbrev pub most_extent : ℕ
most_extent = 2 ^ 15

-- the most points in all
abbrev pub most_points : ℕ
most_points = 2 ^ 30
