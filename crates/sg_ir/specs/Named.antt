-- Named code: each access goes where its index registers say.
use Rattle.std.specs.Prelude.{◌≡◌, List, All, Contains}
use Rattle.sg_coord.specs.declared.coord.Coord.{Coord}
use Rattle.sg_layout.specs.declared.shape.Shape.{Shape}
use Rattle.sg_flat.specs.declared.effects.Domain.{Domain}
use Rattle.sg_flat.specs.declared.state.FlatState.{FlatState}
use Rattle.sg_flat.specs.State.{IsFlat}
use Rattle.sg_flat.specs.Domain.{domain_points}
use Rattle.sg_ir.specs.declared.code.Inst.{Inst}
use Rattle.sg_ir.specs.Runs.{Access, iteration}
use Rattle.sg_ir.specs.Places.{place_at}

-- the access had the place of the coordinate that its index registers named: none if that is outside
abbrev pub IsNamedAccess : List Shape → Access → Type 0
IsNamedAccess shapes access = access.place ≡ place_at shapes access.layout access.at

-- each of these accesses had the place of the coordinate that its index registers named
abbrev pub AreNamed : List Shape → List Access → Type 0
AreNamed shapes accesses = All (IsNamedAccess shapes) accesses

-- for every flat state, and every coordinate of the domain, each read and each contribution that is executed is named
abbrev pub IsNamed : List Shape → Domain → List Inst → Type 0
IsNamed shapes domain block =
    (state : FlatState) → IsFlat shapes state → (at : Coord) → Contains (domain_points state domain) at →
    AreNamed shapes (iteration (record { shapes = shapes; state = state; at = at }) block).accesses
