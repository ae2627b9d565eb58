-- The limits of images.
use Rattle.std.specs.Prelude.{ℕ, ◌^◌}

-- the most points of an image
abbrev pub most_image_points : ℕ
most_image_points = 2 ^ 20

-- the most values on a line
abbrev pub values_of_a_line : ℕ
values_of_a_line = 11
