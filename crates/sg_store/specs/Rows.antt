-- The values of one field over all cells.
use Rattle.std.specs.Prelude.{◌≡◌, ◌≢◌, ◌<◌, ◌≤◌, ℕ, List, ◌++◌, length, drop, Some, slice_index}
use Rattle.sg_coord.specs.declared.coord.Coord.{Coord}
use Rattle.sg_flat.specs.declared.state.FlatLayout.{FlatLayout}
use Rattle.sg_flat.specs.State.{IsFlatLayout, value_at}
use Rattle.sg_store.specs.StoreWords.{StoreWords}
use Rattle.sg_store.specs.Walks.{cell_in}
use Rattle.sg_store.specs.WellFormed.{cell_count, IsReached}

-- the values of a field in the first cells, with all reached ones among them: a word for each, and 0 in each that isn't reached
pub record IsFieldFront (store : StoreWords) (front : List ℕ) : Type 0 where
  pub cells : length front ≤ cell_count store.shape
  pub only_reached : (cell : ℕ) → slice_index front cell ≢ 0 → IsReached store cell
  pub all_reached : (cell : ℕ) → IsReached store cell → cell < length front

-- a row with words in the place of its first ones
abbrev pub put_over : List ℕ → List ℕ → List ℕ
put_over words row = words ++ drop (length words) row

-- the flat layout for which a store stands has become another: a field, from 0, has the words of a row in the cells of
-- its coordinates, and all else is as before
pub record SetsRow (store : StoreWords) (old now : FlatLayout) (place : ℕ) (row : List ℕ) : Type 0 where
  pub is_flat : IsFlatLayout store.shape now
  pub same_active : now.active ≡ old.active
  pub here : (at : Coord) (cell : ℕ) → cell_in store at ≡ Some cell → value_at store.shape now place at ≡ slice_index row cell
  pub elsewhere : (other : ℕ) (at : Coord) → other ≢ place → value_at store.shape now other at ≡ value_at store.shape old other at
