-- The laws of coordinates, for any bounds.
use Rattle.std.specs.Prelude.{◌≡◌, ℕ, ◌<◌, ◌≤◌, ◌⊎◌, ◌↔◌, IsTrue}
use Rattle.sg_coord.specs.declared.coord.Coord.{Coord}
use Rattle.sg_coord.specs.Bounds.{Bounds, volume}
use Rattle.sg_coord.specs.Coord.{Inside, is_inside, row_of, point_at, ComesBefore, comes_before}
use Rattle.sg_coord.specs.Slices.{IsPartition}

-- the test of being inside tells it
abbrev pub InsideTest : Type 0
InsideTest = (e : Bounds) (at : Coord) → IsTrue (is_inside e at) ↔ Inside e at

-- the test of row order tells it
abbrev pub OrderTest : Type 0
OrderTest = (x y : Coord) → IsTrue (comes_before x y) ↔ ComesBefore x y

-- what comes before carries over
abbrev pub OrderCarriesOver : Type 0
OrderCarriesOver = (x y z : Coord) → ComesBefore x y → ComesBefore y z → ComesBefore x z

-- nothing comes before itself
abbrev pub OrderIsStrict : Type 0
OrderIsStrict = (x : Coord) → ¬ ComesBefore x x

-- of two coordinates with as many axes one comes before the other, unless they are equal
abbrev pub OrderIsTotal : Type 0
OrderIsTotal = (x y : Coord) → x.n ≡ y.n → (x ≡ y) ⊎ (ComesBefore x y ⊎ ComesBefore y x)

-- the points of the numbers below the volume are inside
abbrev pub PointInside : Type 0
PointInside = (e : Bounds) (k : ℕ) → k < volume e → Inside e (point_at e k)

-- the point with a row number has this row number
abbrev pub RowOfPoint : Type 0
RowOfPoint = (e : Bounds) (k : ℕ) → k < volume e → row_of e (point_at e k) ≡ k

-- a coordinate inside has a row number below the volume
abbrev pub RowBelow : Type 0
RowBelow = (e : Bounds) (at : Coord) → Inside e at → row_of e at < volume e

-- a coordinate inside is the point with its row number
abbrev pub PointOfRow : Type 0
PointOfRow = (e : Bounds) (at : Coord) → Inside e at → point_at e (row_of e at) ≡ at

-- of two coordinates inside, the one with the lower row number comes before
abbrev pub RowOrder : Type 0
RowOrder = (e : Bounds) (x y : Coord) → Inside e x → Inside e y → ComesBefore x y ↔ (row_of e x < row_of e y)

-- the points rise with their row numbers
abbrev pub PointsRise : Type 0
PointsRise = (e : Bounds) (j k : ℕ) → j < k → k < volume e → ComesBefore (point_at e j) (point_at e k)

-- the slices of any length partition it, for one worker or more
abbrev pub SlicesPartition : Type 0
SlicesPartition = (len workers : ℕ) → 1 ≤ workers → IsPartition len workers
