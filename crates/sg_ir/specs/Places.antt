-- The place of an access: where a coordinate leads; and the extents by which a coordinate is checked.
use Rattle.std.specs.Prelude.{ℕ, List, [], ◌∷◌, if◌then◌else◌, slice_get, Option, Some, None}
use Rattle.sg_coord.specs.declared.coord.Coord.{Coord}
use Rattle.sg_coord.specs.Bounds.{Bounds}
use Rattle.sg_coord.specs.Coord.{is_inside}
use Rattle.sg_layout.specs.declared.shape.Shape.{Shape}
use Rattle.sg_layout.specs.Axes.{bounds_of_shape}
use Rattle.sg_layout.specs.Path.{offsets}
use Rattle.sg_ir.specs.Runs.{Place}

-- the place of a coordinate in a layout that may be there: its whole path if it is inside, else none
abbrev pub place_of_coord : ℕ → Coord → Option Shape → Option Place
place_of_coord layout at None = None
place_of_coord layout at (Some shape) =
    if is_inside (bounds_of_shape shape) at then Some (record { layout = layout; path = offsets shape.nodes at }) else None

-- the place of a coordinate in the layout with this number
abbrev pub place_at : List Shape → ℕ → Coord → Option Place
place_at shapes layout at = place_of_coord layout at (slice_get shapes layout)

-- the extents of the axes, in order
abbrev pub extents_in : Bounds → List ℕ
extents_in bounds = bounds.a ∷ bounds.b ∷ bounds.c ∷ []
