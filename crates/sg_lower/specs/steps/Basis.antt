-- What a kernel is lowered over.
use Rattle.std.specs.Prelude.{ℕ, Bool, ◌&&◌, ◌==◌, List, FitsSigned}
use Rattle.std.specs.Int.{w32}
use Rattle.sg_coord.specs.declared.coord.Coord.{Coord}
use Rattle.std.specs.List.{list_any}
use Rattle.sg_layout.specs.declared.shape.Shape.{Shape}
use Rattle.sg_layout.specs.declared.layout.Layouts.{Layouts}
use Rattle.sg_lower.specs.declared.lowering.Field.{Field}
use Rattle.sg_lower.specs.declared.lowering.Lowering.{Lowering}

-- a field is one of those that the kernel own-writes
abbrev pub is_owned : List Field → ℕ → ℕ → Bool
is_owned owned layout place = list_any (λ field. (field.layout == layout) && (field.place == place)) owned

-- the layouts, the fields with own writes, how many variables the loop has, and whether a slice is lowered
pub record Basis : Type 0 where
  pub shapes : List Shape
  pub owned : List Field
  pub vars : ℕ
  pub slicing : Bool

-- what a kernel is lowered over, by the layouts and the way it is lowered
abbrev pub basis_of : Layouts → Lowering → Basis
basis_of layouts lowering = record { shapes = layouts.list; owned = lowering.owned; vars = lowering.vars; slicing = lowering.slicing }

-- the parts of a coordinate are numbers of words
abbrev pub IsSmall : Coord → Type 0
IsSmall at = FitsSigned w32 at.a × (FitsSigned w32 at.b × FitsSigned w32 at.c)
