-- The points of a box by their numbers.
use Rattle.std.specs.Prelude.{◌≡◌, ℕ, ◌+◌, ◌*◌, ◌/◌, ◌%◌, ◌^◌, ◌<◌, ℤ, pos, ◌+ℤ◌, ◌-ℤ◌, ◌≤ℤ◌, Bool, if◌then◌else◌, List, map}
use Rattle.std.specs.List.{range_with_len}
use Rattle.sg_coord.specs.declared.coord.Coord.{Coord}
use Rattle.sg_layout.specs.Axes.{count_of}
use Rattle.sg_exec.specs.declared.workers.region.Region.{Region}
use Rattle.sg_exec.specs.declared.workers.region.Along.{Along}
use Rattle.sg_exec.specs.declared.workers.region.Side.{Side}
use Rattle.sg_exec.specs.declared.workers.points.Form.{Form}
use Rattle.sg_exec.specs.declared.workers.points.Most.{Most}
use Rattle.sg_exec.specs.declared.workers.points.Form.TheVariants.{Within, Listed}

-- how many parts a box has on an axis
abbrev pub part_count : Side → ℕ
part_count side = if side.used then count_of (side.hi -ℤ side.lo) else 1

-- the first of them
abbrev pub first_part : Side → ℤ
first_part side = if side.used then side.lo else pos 0

-- the point of a region with a number, from 0: along the last axis first
abbrev pub region_point : Region → ℕ → Coord
region_point region k = record {
  n = region.corner.n;
  a = region.corner.a +ℤ pos (k / region.cells / region.lines);
  b = region.corner.b +ℤ pos (k / region.cells % region.lines);
  c = region.corner.c +ℤ pos (k % region.cells);
}

-- the points of a region, in row order
abbrev pub region_points : Region → List Coord
region_points region = map (region_point region) (range_with_len 0 region.count)

-- the points of a region are counted, and their parts are words
pub record IsRegion (region : Region) : Type 0 where
  pub count_is : region.planes * region.lines * region.cells ≡ region.count
  pub few : region.count < 2 ^ 32
  pub a_fits : (region.corner.a +ℤ pos region.planes) ≤ℤ pos (2 ^ 31)
  pub b_fits : (region.corner.b +ℤ pos region.lines) ≤ℤ pos (2 ^ 31)
  pub c_fits : (region.corner.c +ℤ pos region.cells) ≤ℤ pos (2 ^ 31)

-- how far the point with a number is along each axis
pub record AreAlong (region : Region) (k : ℕ) (along : Along) : Type 0 where
  pub plane_is : along.plane ≡ k / region.cells / region.lines
  pub line_is : along.line ≡ k / region.cells % region.lines
  pub cell_is : along.cell ≡ k % region.cells

-- not past the last one of any axis
pub record IsInside (region : Region) (along : Along) : Type 0 where
  pub plane_low : along.plane < region.planes
  pub line_low : along.line < region.lines
  pub cell_low : along.cell < region.cells

-- the point that is so far along each axis
abbrev pub point_along : Region → Along → Coord
point_along region along = record {
  n = region.corner.n;
  a = region.corner.a +ℤ pos along.plane;
  b = region.corner.b +ℤ pos along.line;
  c = region.corner.c +ℤ pos along.cell;
}

-- the points, in row order
abbrev pub points_of : Form → List Coord
points_of (Within region) = region_points region
points_of (Listed list) = list

-- a region is one
abbrev pub IsForm : Form → Type 0
IsForm (Within region) = IsRegion region
IsForm (Listed list) = Unit {0}

-- no part of a point is below 0, or past these
pub record IsUpToMost (most : Most) (at : Coord) : Type 0 where
  pub a_low : pos 0 ≤ℤ at.a
  pub a_high : at.a ≤ℤ pos most.a
  pub b_low : pos 0 ≤ℤ at.b
  pub b_high : at.b ≤ℤ pos most.b
  pub c_low : pos 0 ≤ℤ at.c
  pub c_high : at.c ≤ℤ pos most.c
