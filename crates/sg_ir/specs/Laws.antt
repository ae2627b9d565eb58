-- What the laws of access code say.
use Rattle.std.specs.Prelude.{◌≡◌, ℕ, List, if◌then◌else◌, slice_get, Some, None}
use Rattle.sg_coord.specs.declared.coord.Coord.{Coord}
use Rattle.sg_layout.specs.declared.shape.Shape.{Shape}
use Rattle.sg_flat.specs.Kernel.{is_inside_of}
use Rattle.sg_ir.specs.Runs.{at_of}
use Rattle.sg_ir.specs.Places.{place_at}

-- the coordinate of the place of a coordinate is that coordinate if it is inside, and there is none if it is outside
abbrev pub PlaceHasCoordinate : List Shape → ℕ → Coord → Type 0
PlaceHasCoordinate shapes layout at =
    at_of shapes (place_at shapes layout at) ≡ (if is_inside_of (slice_get shapes layout) at then Some at else None)
