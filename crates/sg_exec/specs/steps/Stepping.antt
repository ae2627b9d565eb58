-- One step down from a place, in one store.
use Rattle.std.specs.Prelude.{◌≡◌, ℕ, Bool, true, false, nat_lt, List, [], ◌∷◌, ◌++◌, Contains, Option, Some, None}
use Rattle.sg_coord.specs.declared.coord.Coord.{Coord}
use Rattle.sg_layout.specs.declared.shape.NodeShape.{NodeShape}
use Rattle.sg_layout.specs.Axes.{size_of}
use Rattle.sg_layout.specs.Path.{offsets}
use Rattle.sg_flat.specs.declared.state.FlatLayout.{FlatLayout}
use Rattle.sg_store.specs.declared.spot.Spot.{Spot}
use Rattle.sg_store.specs.StoreWords.{StoreWords}
use Rattle.sg_store.specs.StandsFor.{StandsFor}
use Rattle.sg_store.specs.Spots.{LeadsAlong}
use Rattle.sg_store.specs.Walks.{cell_in}
use Rattle.sg_ir.specs.Runs.{node_in}

-- an offset is below the size of a node that may be there
abbrev pub is_below : ℕ → Option NodeShape → Bool
is_below offset None = false
is_below offset (Some node) = nat_lt offset (size_of node.sizes)

-- there is a node with this number, from 1, and the offset is below its size
abbrev pub can_step : List NodeShape → ℕ → ℕ → Bool
can_step nodes node offset = is_below offset (node_in nodes node)

-- the step can be taken, and leads to this spot
pub record StepLeads (store : StoreWords) (below : Spot) (node : ℕ) (path : List ℕ) (offset : ℕ) : Type 0 where
  pub can : can_step store.shape.nodes node offset ≡ true
  pub leads : LeadsAlong store below (path ++ offset ∷ [])

-- the coordinate has no cell, and isn't active
pub record IsIdle (store : StoreWords) (at : Coord) : Type 0 where
  pub cell : cell_in store at ≡ None
  pub idle : (flat : FlatLayout) → StandsFor store flat → Contains flat.active at → ⊥

-- if the step can be taken, each coordinate whose path goes on from there is idle
abbrev pub StepIsDead : StoreWords → ℕ → List ℕ → ℕ → Type 0
StepIsDead store node path offset = can_step store.shape.nodes node offset ≡ true →
    (at : Coord) (more : List ℕ) → offsets store.shape.nodes at ≡ (path ++ offset ∷ []) ++ more → IsIdle store at
