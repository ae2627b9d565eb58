-- One node of a store among the others.
use Rattle.std.specs.Prelude.{◌≡◌, ℕ, zero, suc, ◌*◌, Bool, List, [], ◌∷◌, ◌↔◌, Contains, Some}
use Rattle.sg_coord.specs.declared.coord.Coord.{Coord}
use Rattle.sg_layout.specs.declared.shape.NodeShape.{NodeShape}
use Rattle.sg_layout.specs.Axes.{size_of}
use Rattle.sg_layout.specs.Path.{path}
use Rattle.sg_store.specs.declared.node.NodeWords.{NodeWords}
use Rattle.sg_store.specs.StoreWords.{StoreWords}
use Rattle.sg_store.specs.Walks.{slot_number_in}
use Rattle.sg_store.specs.WellFormed.{places_below, live_below, live_slot, is_root}

-- what is said of one node: of its shape, its words, its number of slots, and which of these are in live containers
abbrev pub OfNode : Type 1
OfNode = NodeShape → NodeWords → ℕ → (ℕ → Bool) → Type 0

-- it holds of the node with this index, from 0, among nodes under so many places; not if there is no such node
abbrev pub AtNode : OfNode → List NodeShape → List NodeWords → ℕ → (ℕ → Bool) → ℕ → Type 0
AtNode Says [] words places live index = ⊥
AtNode Says (node ∷ later) [] places live index = ⊥
AtNode Says (node ∷ later) (kept ∷ words) places live zero =
    Says node kept (places * size_of node.sizes) (live_slot node live)
AtNode Says (node ∷ later) (kept ∷ words) places live (suc index) =
    AtNode Says later words (places_below node.kind node (places * size_of node.sizes))
    (live_below node.kind kept (live_slot node live)) index

-- it holds of a node of a store
abbrev pub AtNodeOf : OfNode → StoreWords → ℕ → Type 0
AtNodeOf Says store index = AtNode Says store.shape.nodes store.nodes 1 is_root index

-- a coordinate of the list whose slot at the node with this index has this number
pub record IsNumberOf (store : StoreWords) (index : ℕ) (coords : List Coord) (number : ℕ) : Type 0 where
  pub at : Coord
  pub is_wanted : Contains coords at
  pub has_number : slot_number_in store.shape.nodes store.nodes 0 (path store.shape at (suc index)) ≡ Some number

-- the numbers that slots of the coordinates have at the node with this index
pub record AreNumbers (store : StoreWords) (index : ℕ) (coords : List Coord) (slots : List ℕ) : Type 0 where
  pub of_wanted : (number : ℕ) → Contains slots number → IsNumberOf store index coords number
  pub all : (at : Coord) → Contains coords at → (number : ℕ) →
      slot_number_in store.shape.nodes store.nodes 0 (path store.shape at (suc index)) ≡ Some number →
      Contains slots number

-- two lists have the same numbers in them
abbrev pub HaveSame : List ℕ → List ℕ → Type 0
HaveSame slots others = (number : ℕ) → Contains slots number ↔ Contains others number
