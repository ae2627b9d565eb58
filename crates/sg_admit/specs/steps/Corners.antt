-- The corners of a kernel's box.
use Rattle.std.specs.Prelude.{◌≡◌, ℕ, Bool, true, false, List, map, length}
use Rattle.sg_coord.specs.declared.coord.Coord.{Coord}
use Rattle.sg_types.specs.declared.typed.TypedExpr.{TypedExpr}
use Rattle.sg_types.specs.declared.typed.TypedRange.{TypedRange}
use Rattle.sg_types.specs.declared.typed.TypedDomain.{TypedDomain}
use Rattle.sg_types.specs.declared.typed.TypedDomain.TheVariants as domain
use Rattle.sg_types.specs.Values.{coord_of}
use Rattle.sg_admit.specs.Bounds.{constant_word}

-- the upper or the lower bound of a range
abbrev pub bound_of : Bool → TypedRange → TypedExpr
bound_of true range = range.hi
bound_of false range = range.lo

-- a loop over ranges has as many variables
abbrev pub IsCounted : ℕ → TypedDomain → Type 0
IsCounted vars (domain.Walk layout) = Unit {0}
IsCounted vars (domain.Ranges ranges) = length ranges ≡ vars

-- the upper or the lower corner of the box of these ranges
abbrev pub corner_of : Bool → List TypedRange → Coord
corner_of upper ranges = coord_of (map (λ range. constant_word (bound_of upper range)) ranges)
