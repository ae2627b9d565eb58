-- What reaching coordinates answers, and the state between two of its levels.
use Rattle.std.specs.Prelude.{◌≡◌, ℕ, nat_le, List, Option, Some, None, Result, Ok, Err, if◌then◌else◌, slice_get}
use Rattle.sg_coord.specs.declared.coord.Coord.{Coord}
use Rattle.sg_layout.specs.Need.{FullNode}
use Rattle.sg_store.specs.declared.reach.Full.{Full}
use Rattle.sg_layout.specs.declared.shape.NodeShape.{NodeShape}
use Rattle.sg_store.specs.declared.node.NodeWords.{NodeWords}
use Rattle.sg_store.specs.Slots.{place_below}
use Rattle.sg_store.specs.StoreWords.{StoreWords}
use Rattle.sg_store.specs.Walks.{cell_along}
use Rattle.sg_store.specs.StandsFor.{HasLiveSlots}

-- nothing if no node is too full, else the refusal that names it
abbrev pub unless_full : Option FullNode → Result Unit Full
unless_full None = Ok tt
unless_full (Some full) = Err (record { node = full.node; cap = full.cap })

-- the place to which a slot leads by links alone, the slots being numbered over all copies of a node; none if there is no such node
abbrev pub leads_from : Option NodeShape → Option NodeWords → ℕ → Option ℕ
leads_from None words slot = None
leads_from (Some node) None slot = None
leads_from (Some node) (Some kept) slot = place_below node.kind node kept slot

-- that of a slot of the node with this index, from 0
abbrev pub leads_at : StoreWords → ℕ → ℕ → Option ℕ
leads_at store index slot = leads_from (slice_get store.shape.nodes index) (slice_get store.nodes index) slot

-- the shape and the values stay, what led to a cell still leads to it, and a slot that led to a place still does
pub record KeepsCells (old now : StoreWords) : Type 0 where
  pub same_shape : now.shape ≡ old.shape
  pub same_fields : now.fields ≡ old.fields
  pub same_cells : (slot : List ℕ) (cell : ℕ) → cell_along old slot ≡ Some cell → cell_along now slot ≡ Some cell
  pub same_leads : (index slot place : ℕ) → leads_at old index slot ≡ Some place → leads_at now index slot ≡ Some place

-- the store is open through a node for a list of coordinates: the linked slots and set bits down to the node are those
-- live for the list, and those below it are those live for the old one
abbrev pub IsOpenThrough : StoreWords → List Coord → List Coord → ℕ → Type 0
IsOpenThrough store old all through = HasLiveSlots store (λ number. if nat_le number through then all else old)
