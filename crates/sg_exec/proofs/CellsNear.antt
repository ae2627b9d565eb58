-- Cells by one that is near.
use Rattle.std.proofs.Common.{◌≡◌, ℕ, ◌+◌, ◌≤◌, List, Option, Some, None, ap, ◌∙◌}
use Rattle.std.specs.Prelude.{IfSome, slice_get}
use Rattle.sg_coord.specs.declared.coord.Coord.{Coord}
use Rattle.sg_store.specs.StoreWords.{StoreWords}
use Rattle.sg_store.specs.Walks.{cell_in}
use Rattle.sg_store.specs.Following.{along}
use Rattle.sg_exec.specs.declared.lanes.near.Near.{Near}
use Rattle.sg_exec.specs.steps.Nearby.{IsNear, IsNearIn, IsFound}
use Rattle.sg_exec.proofs.Reading.{cell_at_store}

-- so far along the last axis
pub found_after : (stores : List StoreWords) (layout : ℕ) (near : Near) (at : Coord) (far : ℕ) → IsNear stores layout near → 1 ≤ far → far ≤ near.left → at ≡ along far near.at → IsFound stores layout at (near.cell + far)
found_after stores layout near at far it some few is =
    let here : cell_in it.store at ≡ Some (near.cell + far) = ap (cell_in it.store) is ∙ it.within.follow far near.cell some few it.within.is in
    record {
      is = cell_at_store stores layout it.store at it.there ∙ here;
      of = record { store = it.store; there = it.there; reached = it.within.reached at (near.cell + far) here };
    }

-- what is near in a layout's store
pub near_there : (stores : List StoreWords) (layout : ℕ) (store : StoreWords) (near : Option Near) → slice_get stores layout ≡ Some store → IfSome near (IsNearIn store) → IfSome near (IsNear stores layout)
near_there stores layout store None there within = tt
near_there stores layout store (Some near) there within = record { store = store; there = there; within = within }
