-- Row numbers whose points are their own closure.
use Rattle.std.specs.Prelude.{◌≡◌, ℕ, List, [], ◌∷◌, map, refl}
use Rattle.sg_coord.specs.Coord.{point_at}
use Rattle.sg_layout.specs.declared.shape.Shape.{Shape}
use Rattle.sg_layout.specs.Axes.{bounds_of_shape}
use Rattle.sg_layout.specs.Closure.{closure}
use Rattle.sg_layout.specs.Examples.{at1, blocks}

-- the points with these row numbers are their own closure: where they are active, nothing else is
abbrev pub AreClosed : Shape → List ℕ → Type 0
AreClosed shape rows = closure shape (map (point_at (bounds_of_shape shape)) rows) ≡ map (point_at (bounds_of_shape shape)) rows

-- ---- examples: blocks of 4 points
a_block_is_closed : AreClosed blocks (4 ∷ 5 ∷ 6 ∷ 7 ∷ [])
a_block_is_closed = refl

a_point_brings_its_block : closure blocks (map (point_at (bounds_of_shape blocks)) (5 ∷ [])) ≡ at1 4 ∷ at1 5 ∷ at1 6 ∷ at1 7 ∷ []
a_point_brings_its_block = refl
