-- The cells of a field that a row of places reads.
use Rattle.std.specs.Prelude.{◌≡◌, ℕ, ◌-◌, ◌/◌, ◌%◌, ◌≤◌, List, length, slice_get, Some}
use Rattle.sg_store.specs.StoreWords.{StoreWords}
use Rattle.sg_store.specs.FieldCells.{AreCellsOf}

-- these are the cells of a field of a store that has so many nodes
pub record IsFieldIn (store : StoreWords) (node field width : ℕ) (words : List ℕ) : Type 0 where
  pub last : node ≡ length store.shape.nodes
  pub cells : AreCellsOf store field width words

-- the same of the layout and the node that a word names
pub record IsFieldOf (stores : List StoreWords) (one field width : ℕ) (words : List ℕ) : Type 0 where
  pub some : 1 ≤ one
  pub store : StoreWords
  pub there : slice_get stores ((one - 1) / 8) ≡ Some store
  pub within : IsFieldIn store ((one - 1) % 8) field width words
