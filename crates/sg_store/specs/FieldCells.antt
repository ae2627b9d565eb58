-- The cells of a field, as reads of many of them see them.
use Rattle.std.specs.Prelude.{◌≡◌, refl, ℕ, ◌+◌, ◌*◌, ◌^◌, ◌<◌, List, length, slice_index}
use Rattle.sg_layout.specs.Slots.{coordinate_of}
use Rattle.sg_flat.specs.declared.state.FlatLayout.{FlatLayout}
use Rattle.sg_flat.specs.State.{value_at}
use Rattle.sg_store.specs.declared.spot.Spot.{Spot}
use Rattle.sg_store.specs.StoreWords.{StoreWords, word_in}
use Rattle.sg_store.specs.StandsFor.{StandsFor}
use Rattle.sg_store.specs.Spots.{width_after, LeadsAlong}

-- a spot after the last node, which leads along a path
pub record IsLastSpot (store : StoreWords) (spot : Spot) (path : List ℕ) : Type 0 where
  pub last : spot.node ≡ length store.shape.nodes
  pub leads : LeadsAlong store spot path

-- the number of a spot's cell, where one copy of the last segment has so many
abbrev pub cell_number : ℕ → Spot → ℕ
cell_number width spot = spot.part * width + spot.slot

cell_five_of_copy_three : cell_number 16 (record { node = 2; part = 3; slot = 5 }) ≡ 53
cell_five_of_copy_three = refl

-- these are the words of a field, from 0, where one copy of the last segment has so many cells; where the store stands for a flat state
-- they have its values, each at the cell of a spot after the last node
pub record AreCellsOf (store : StoreWords) (place width : ℕ) (words : List ℕ) : Type 0 where
  pub width_is : width ≡ width_after store.shape.nodes (length store.shape.nodes)
  pub words_are : (cell : ℕ) → slice_index words cell ≡ word_in store place cell
  pub few : (spot : Spot) (path : List ℕ) → IsLastSpot store spot path → cell_number width spot < 2 ^ 32
  pub values : (flat : FlatLayout) → StandsFor store flat → (spot : Spot) (path : List ℕ) → IsLastSpot store spot path →
      slice_index words (cell_number width spot) ≡ value_at store.shape flat place (coordinate_of store.shape path)
