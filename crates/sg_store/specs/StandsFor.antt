-- Which flat layout a store stands for.
use Rattle.std.specs.Prelude.{◌≡◌, ◌≢◌, ℕ, ◌<◌, ◌≤◌, List, length, take, Some}
use Rattle.sg_coord.specs.declared.coord.Coord.{Coord}
use Rattle.sg_layout.specs.declared.shape.Kind.TheVariants.{Dense}
use Rattle.sg_layout.specs.declared.shape.Shape.{Shape}
use Rattle.sg_layout.specs.Live.{kind_at, is_live}
use Rattle.sg_layout.specs.Slots.{IsSlot}
use Rattle.sg_flat.specs.declared.state.FlatLayout.{FlatLayout}
use Rattle.sg_flat.specs.State.{IsFlatLayout, value_at}
use Rattle.sg_store.specs.StoreWords.{StoreWords, word_in}
use Rattle.sg_store.specs.Walks.{is_on, cell_in}

-- a slot of the node with this number, counted from 1, which has activity of its own
pub record IsSlotOf (shape : Shape) (number : ℕ) (slot : List ℕ) : Type 0 where
  pub first : 1 ≤ number
  pub within : number ≤ length shape.nodes
  pub has_activity : kind_at shape.nodes number ≢ Dense
  pub is_slot : IsSlot (take number shape.nodes) slot

-- at each node with activity the linked slots and set bits are exactly those live for the node's list of coordinates
abbrev pub HasLiveSlots : StoreWords → (ℕ → List Coord) → Type 0
HasLiveSlots store coords_of =
    (number : ℕ) (slot : List ℕ) → IsSlotOf store.shape number slot →
    is_on store.shape.nodes store.nodes 0 slot ≡ is_live store.shape (coords_of number) number slot

-- the value in the cell of each coordinate that has one is the flat value at the coordinate
abbrev pub HasValues : StoreWords → FlatLayout → Type 0
HasValues store flat =
    (at : Coord) (cell : ℕ) → cell_in store at ≡ Some cell → (place : ℕ) → place < length store.shape.fields →
    word_in store place cell ≡ value_at store.shape flat place at

-- the store stands for a flat layout; that its cells are those of the active coordinates, different ones for
-- different coordinates, and that its live containers are as many as the need, are laws
pub record StandsFor (store : StoreWords) (flat : FlatLayout) : Type 0 where
  pub is_flat : IsFlatLayout store.shape flat
  pub live_slots : HasLiveSlots store (λ _. flat.active)
  pub values : HasValues store flat

-- the flat layout has become another: a field, from 0, has a word at a coordinate, and all else is as before
pub record SetsValue (shape : Shape) (old now : FlatLayout) (place : ℕ) (at : Coord) (word : ℕ) : Type 0 where
  pub is_flat : IsFlatLayout shape now
  pub same_active : now.active ≡ old.active
  pub here : value_at shape now place at ≡ word
  pub elsewhere : (other : ℕ) (x : Coord) → ¬ ((other ≡ place) × (x ≡ at)) → value_at shape now other x ≡ value_at shape old other x
