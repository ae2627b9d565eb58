-- The cell of a spot after the last node.
use Rattle.std.proofs.Common.{◌≡◌, ℕ, ◌+◌, ◌*◌, ◌<◌, ◌^◌, List, length, take, sym, ap, ◌∙◌, subst, arith}
use Rattle.std.specs.Prelude.{Some}
use Rattle.std.proofs.Math.Seq.{take-length}
use Rattle.sg_coord.specs.declared.coord.Coord.{Coord}
use Rattle.sg_coord.specs.Laws.{InsideTest}
use Rattle.sg_layout.specs.declared.shape.NodeShape.{NodeShape}
use Rattle.sg_layout.specs.Axes.{bounds_of_shape}
use Rattle.sg_layout.specs.PathLaws.{SlotIsPath}
use Rattle.sg_layout.specs.Slots.{IsSlot, coordinate_of}
use Rattle.sg_store.specs.declared.spot.Spot.{Spot}
use Rattle.sg_store.specs.StoreWords.{StoreWords}
use Rattle.sg_store.specs.Walks.{cell_along, cell_in}
use Rattle.sg_store.specs.WellFormed.{IsReached, IsWellFormed}
use Rattle.sg_store.specs.Spots.{width_after, LeadsAlong}
use Rattle.sg_store.proofs.ActiveCells.{cell_from_parts}
use Rattle.sg_store.proofs.CellWords.{reached_within}

-- a spot after the last node, with its place as the code computes it
pub record IsLast (store : StoreWords) (spot : Spot) (path : List ℕ) (width place : ℕ) : Type 0 where
  pub well : IsWellFormed store
  pub leads : LeadsAlong store spot path
  pub whole : spot.node ≡ length store.shape.nodes
  pub wide : width ≡ width_after store.shape.nodes spot.node
  pub placed : place ≡ spot.part * width + spot.slot

pub last_leads : (store : StoreWords) (spot : Spot) (path : List ℕ) (width place : ℕ) → IsLast store spot path width place → cell_along store path ≡ Some place
last_leads store spot path width place is =
    is.leads.leads ∙ ap (λ w. Some (spot.part * w + spot.slot)) (sym is.wide) ∙ ap Some (sym is.placed)

last_slot : (store : StoreWords) (spot : Spot) (path : List ℕ) (width place : ℕ) → IsLast store spot path width place → IsSlot store.shape.nodes path
last_slot store spot path width place is =
    let nodes : List NodeShape = store.shape.nodes in
    subst (λ ns. IsSlot ns path) (ap (λ n. take n nodes) is.whole ∙ take-length nodes) is.leads.is_slot

pub last_reached : (store : StoreWords) (spot : Spot) (path : List ℕ) (width place : ℕ) → IsLast store spot path width place → IsReached store place
last_reached store spot path width place is =
    record { slot = path; is_slot = last_slot store spot path width place is; leads = last_leads store spot path width place is }

pub last_small : (store : StoreWords) (spot : Spot) (path : List ℕ) (width place : ℕ) → IsLast store spot path width place → place < 2 ^ 32
last_small store spot path width place is =
    omega (arith, reached_within store is.well place (last_reached store spot path width place is), is.well.few_cells)

-- it is the cell of the path's coordinate
pub last_cell : (store : StoreWords) (spot : Spot) (path : List ℕ) (width place : ℕ) → SlotIsPath store.shape → InsideTest → IsLast store spot path width place → cell_in store (coordinate_of store.shape path) ≡ Some place
last_cell store spot path width place paths inside is =
    let at : Coord = coordinate_of store.shape path in
    let told = paths is.well.accepted path (last_slot store spot path width place is) in
    cell_from_parts store at place ((inside (bounds_of_shape store.shape) at).1 told.0)
    (ap (cell_along store) told.1 ∙ last_leads store spot path width place is)
