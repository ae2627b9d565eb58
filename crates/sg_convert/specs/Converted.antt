-- The values of a layout under another layout.
use Rattle.sg_layout.specs.declared.shape.Shape.{Shape}
use Rattle.sg_layout.specs.Closure.{closure}
use Rattle.sg_flat.specs.declared.state.FlatLayout.{FlatLayout}
use Rattle.sg_store.specs.Pruning.{valued_coordinates}

-- all values stay, and active is the closure, under the other layout, of the coordinates where some field isn't 0
abbrev pub converted : Shape → Shape → FlatLayout → FlatLayout
converted shape to flat = record flat { active = closure to (valued_coordinates shape flat) }
