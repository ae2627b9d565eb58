-- Freeing what holds no values.
use Rattle.std.specs.Prelude.{Bool, not, ◌==◌, List, filter}
use Rattle.std.specs.List.{list_any}
use Rattle.sg_coord.specs.declared.coord.Coord.{Coord}
use Rattle.sg_layout.specs.declared.shape.Shape.{Shape}
use Rattle.sg_layout.specs.Axes.{bounds_of_shape}
use Rattle.sg_layout.specs.Closure.{closure}
use Rattle.sg_flat.specs.declared.state.FlatLayout.{FlatLayout}
use Rattle.sg_flat.specs.State.{value_in}

-- some field isn't 0 at a coordinate
abbrev pub has_value : Shape → FlatLayout → Coord → Bool
has_value shape flat at = list_any (λ words. not (value_in (bounds_of_shape shape) words at == 0)) flat.fields

-- the active coordinates where some field isn't 0
abbrev pub valued_coordinates : Shape → FlatLayout → List Coord
valued_coordinates shape flat = filter (has_value shape flat) flat.active

-- their closure is active, and all values stay
abbrev pub pruned : Shape → FlatLayout → FlatLayout
pruned shape flat = record flat { active = closure shape (valued_coordinates shape flat) }
