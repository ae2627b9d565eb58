-- The laws of points and of closures.
use Rattle.std.specs.Prelude.{◌≡◌, ◌↔◌, ℕ, ◌<◌, ◌++◌, List, Contains, AllPairs, length, IsTrue, None}
use Rattle.std.specs.List.{slice_index_or}
use Rattle.sg_coord.specs.declared.coord.Coord.{Coord}
use Rattle.sg_coord.specs.Bounds.{Bounds, volume}
use Rattle.sg_coord.specs.Coord.{Inside, point_at, ComesBefore}
use Rattle.sg_layout.specs.declared.shape.Shape.{Shape}
use Rattle.sg_layout.specs.Axes.{bounds_of_shape}
use Rattle.sg_layout.specs.Closure.{is_in_closure, points, closure}
use Rattle.sg_layout.specs.Need.{first_full}
use Rattle.sg_layout.specs.Rules.{all_dense}

-- the points are exactly the coordinates inside
abbrev pub PointsAreInside : Bounds → Type 0
PointsAreInside bounds = (at : Coord) → Contains (points bounds) at ↔ Inside bounds at

-- there are as many points as the volume
abbrev pub PointsFillVolume : Bounds → Type 0
PointsFillVolume bounds = length (points bounds) ≡ volume bounds

-- the point at each place is the one with this row number
abbrev pub PointsAreNumbered : Bounds → Type 0
PointsAreNumbered bounds =
    (k : ℕ) (default : Coord) → k < volume bounds → slice_index_or (points bounds) k default ≡ point_at bounds k

-- of two points the earlier comes before the later in row order, so each is there once
abbrev pub PointsAreInOrder : Bounds → Type 0
PointsAreInOrder bounds = AllPairs ComesBefore (points bounds)

-- a coordinate is in the closure exactly when the test says so
abbrev pub ClosureIsTested : Shape → Type 0
ClosureIsTested shape =
    (written : List Coord) (at : Coord) →
    Contains (closure shape written) at ↔ IsTrue (is_in_closure shape written at)

-- what is in a closure is a point, and inside
abbrev pub ClosureIsInside : Shape → Type 0
ClosureIsInside shape =
    (written : List Coord) (at : Coord) → Contains (closure shape written) at →
    Contains (points (bounds_of_shape shape)) at × Inside (bounds_of_shape shape) at

-- of two members of a closure the earlier comes before the later in row order, so each is there once
abbrev pub ClosureIsInOrder : Shape → Type 0
ClosureIsInOrder shape = (written : List Coord) → AllPairs ComesBefore (closure shape written)

-- a coordinate of the list that is inside is in its closure
abbrev pub ClosureExtends : Shape → Type 0
ClosureExtends shape =
    (written : List Coord) (at : Coord) → Contains written at → Inside (bounds_of_shape shape) at →
    Contains (closure shape written) at

-- if one list has all that another has, so have their closures
abbrev pub ClosureGrows : Shape → Type 0
ClosureGrows shape =
    (few more : List Coord) → ((at : Coord) → Contains few at → Contains more at) → (at : Coord) →
    Contains (closure shape few) at → Contains (closure shape more) at

-- lists with the same members have the same closure
abbrev pub ClosureIsOfMembers : Shape → Type 0
ClosureIsOfMembers shape =
    (left right : List Coord) → ((at : Coord) → Contains left at ↔ Contains right at) →
    closure shape left ≡ closure shape right

-- the closure of a closure is that closure
abbrev pub ClosureIsClosed : Shape → Type 0
ClosureIsClosed shape = (written : List Coord) → closure shape (closure shape written) ≡ closure shape written

-- closing a part of a list first changes nothing
abbrev pub ClosureAbsorbs : Shape → Type 0
ClosureAbsorbs shape =
    (written more : List Coord) → closure shape (closure shape written ++ more) ≡ closure shape (written ++ more)

-- if all nodes are dense, every closure is all points, and no node is ever too full
abbrev pub DenseIsFull : Shape → Type 0
DenseIsFull shape =
    IsTrue (all_dense shape.nodes) → (written : List Coord) →
    (closure shape written ≡ points (bounds_of_shape shape)) × (first_full shape written ≡ None)
