-- What a seat of a race for lengths has raised.
use Rattle.std.specs.Prelude.{◌≡◌, ℕ, ◌-◌, ◌<◌, List, Contains, Some, slice_index}
use Rattle.sg_words.specs.declared.race.Worker.{Worker}
use Rattle.sg_words.specs.Counts.{pairs}
use Rattle.sg_coord.specs.declared.coord.Coord.{Coord}
use Rattle.sg_layout.specs.Axes.{sizes_of}
use Rattle.sg_store.specs.StoreWords.{StoreWords}
use Rattle.sg_store.specs.Walks.{place_in}
use Rattle.sg_store.specs.Opening.{IsInLive, offset_in}

-- the worker has raised the length of a coordinate's parent, if it has one, to the coordinate's offset
abbrev pub HasRaised : StoreWords → ℕ → Coord → Worker → Type 0
HasRaised store node at v = (parent : ℕ) → place_in store node at ≡ Some parent → 0 < pairs parent (offset_in store node at) v.raised

-- the offset of one of these coordinates under a parent
pub record IsIndexOf (store : StoreWords) (node : ℕ) (wanted : List Coord) (parent index : ℕ) : Type 0 where
  pub at : Coord
  pub is_of : Contains wanted at
  pub has_place : place_in store node at ≡ Some parent
  pub has_offset : index ≡ offset_in store node at

-- each length was raised to the offset of one of these coordinates
abbrev pub HasRaisedFor : StoreWords → ℕ → List Coord → Worker → Type 0
HasRaisedFor store node wanted v = (parent index : ℕ) → 0 < pairs parent index v.raised → IsIndexOf store node wanted parent index

-- a parent in a live container, and an index below the node's size
pub record IsShortInLive (store : StoreWords) (node parent index : ℕ) : Type 0 where
  pub in_live : IsInLive store node parent
  pub below : index < slice_index (sizes_of store.shape.nodes) (node - 1)

-- each length was raised in a live container, to an index below the node's size
abbrev pub AreShortInLive : StoreWords → ℕ → Worker → Type 0
AreShortInLive store node v = (parent index : ℕ) → 0 < pairs parent index v.raised → IsShortInLive store node parent index
