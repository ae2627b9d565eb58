-- What simplified code keeps of the given code, and what it gains.
use Rattle.std.specs.Prelude.{◌≡◌, ℕ, true, List, Contains}
use Rattle.sg_coord.specs.declared.coord.Coord.{Coord}
use Rattle.sg_layout.specs.declared.shape.Shape.{Shape}
use Rattle.sg_flat.specs.declared.effects.Domain.{Domain}
use Rattle.sg_flat.specs.declared.state.FlatState.{FlatState}
use Rattle.sg_flat.specs.State.{IsFlat}
use Rattle.sg_flat.specs.Domain.{domain_points}
use Rattle.sg_ir.specs.declared.code.Code.{Code}
use Rattle.sg_ir.specs.declared.code.Inst.{Inst}
use Rattle.sg_ir.specs.Runs.{Moved, iteration}
use Rattle.sg_ir.specs.Named.{IsNamed}
use Rattle.sg_ir.specs.WellTyped.{is_well_typed}
use Rattle.sg_ir.specs.Apt.{Use, uses_in}
use Rattle.sg_ir.specs.Blocks.{block_in}
use Rattle.sg_ir.specs.Shared.{is_shared}
use Rattle.sg_ir.specs.Trimmed.{asked_in, is_trimmed}
use Rattle.sg_simplify.specs.Kept.{IsLean}

-- two runs tell the same: the same writes with their values, and the same wants, in order
pub record TellsTheSame (given made : Moved) : Type 0 where
  pub writes : made.writes ≡ given.writes
  pub wants : made.wants ≡ given.wants

-- for every flat state and every coordinate of the domain an iteration of the one code tells what one of the other does
abbrev pub AlwaysTellsTheSame : List Shape → Domain → List Inst → List Inst → Type 0
AlwaysTellsTheSame shapes domain given made =
    (state : FlatState) → IsFlat shapes state → (at : Coord) → Contains (domain_points state domain) at →
    TellsTheSame (iteration (record { shapes = shapes; state = state; at = at }) given) (iteration (record { shapes = shapes; state = state; at = at }) made)

-- Code that is simplified, over layouts of these shapes and a domain: it tells what the given code does, is well typed, names its accesses,
-- computes nothing twice in a scope, has exactly the checks that spans ask for, uses fields and asks layouts only as the given code does,
-- and has nothing that could be left out.
pub record IsSimplified (shapes : List Shape) (domain : Domain) (given made : Code) : Type 0 where
  pub same : AlwaysTellsTheSame shapes domain given.body made.body
  pub typed : is_well_typed shapes made ≡ true
  pub named : IsNamed shapes domain made.body
  pub shared : is_shared (block_in made) ≡ true
  pub trimmed : is_trimmed shapes domain (block_in made) ≡ true
  pub only : (it : Use) → Contains (uses_in made.body) it → Contains (uses_in given.body) it
  pub asks : (layout : ℕ) → Contains (asked_in made.body) layout → Contains (asked_in given.body) layout
  pub lean : IsLean (block_in made)
