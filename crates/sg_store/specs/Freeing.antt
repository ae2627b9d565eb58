-- Stores that are freed, alone and among others.
use Rattle.std.specs.Prelude.{◌≡◌, ℕ, List, Some, slice_get, slice_set}
use Rattle.sg_flat.specs.declared.state.FlatLayout.{FlatLayout}
use Rattle.sg_flat.specs.State.{opening_layout}
use Rattle.sg_store.specs.StoreWords.{StoreWords}
use Rattle.sg_store.specs.StandsFor.{StandsFor}
use Rattle.sg_store.specs.Pruning.{pruned}
use Rattle.sg_store.specs.Links.{GrowsLinks}

-- a store that is pruned: it stands for the pruned layout, and has only lost links
pub record IsPruned (old now : StoreWords) : Type 0 where
  pub same_shape : now.shape ≡ old.shape
  pub stands : (flat : FlatLayout) → StandsFor old flat → StandsFor now (pruned old.shape flat)
  pub links : GrowsLinks now old

-- a store that is cleared: it stands for the layout in which nothing is written, and has only lost links
pub record IsCleared (old now : StoreWords) : Type 0 where
  pub same_shape : now.shape ≡ old.shape
  pub stands : StandsFor now (opening_layout old.shape)
  pub links : GrowsLinks now old

-- the store with this number, from 0, has become another, and the others stay
pub record ChangesStore (Change : StoreWords → StoreWords → Type 0) (old now : List StoreWords) (number : ℕ) : Type 0 where
  pub store : StoreWords
  pub was : slice_get old number ≡ Some store
  pub next : StoreWords
  pub change : Change store next
  pub now_is : now ≡ slice_set old number next
