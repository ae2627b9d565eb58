-- The laws of stores and the flat layouts that they stand for.
use Rattle.std.specs.Prelude.{◌≡◌, ◌↔◌, ℕ, ◌-◌, ◌<◌, true, length, Some, None, IsSome, Contains, slice_get}
use Rattle.sg_coord.specs.declared.coord.Coord.{Coord}
use Rattle.sg_layout.specs.declared.shape.NodeShape.{NodeShape}
use Rattle.sg_layout.specs.NeedLaws.{IsNumberedNode}
use Rattle.sg_layout.specs.Need.{need_of, first_full}
use Rattle.sg_flat.specs.declared.state.FlatLayout.{FlatLayout}
use Rattle.sg_pool.specs.Numbers.{live_count}
use Rattle.sg_store.specs.declared.node.NodeWords.{NodeWords}
use Rattle.sg_store.specs.StoreWords.{StoreWords, word_in}
use Rattle.sg_store.specs.Walks.{cell_in}
use Rattle.sg_store.specs.WellFormed.{kind_has_cap, IsWellFormed}
use Rattle.sg_store.specs.StandsFor.{StandsFor}

-- a store stands for at most one flat layout
abbrev pub StandsForOne : StoreWords → Type 0
StandsForOne store =
    IsWellFormed store → (flat other : FlatLayout) → StandsFor store flat → StandsFor store other → flat ≡ other

-- a coordinate has a cell exactly when it is active
abbrev pub CellsAreActive : StoreWords → Type 0
CellsAreActive store =
    IsWellFormed store → (flat : FlatLayout) → StandsFor store flat → (at : Coord) →
    IsSome (cell_in store at) ↔ Contains flat.active at

-- different coordinates have different cells
abbrev pub CellsDiffer : StoreWords → Type 0
CellsDiffer store =
    IsWellFormed store → (x y : Coord) (cell : ℕ) → cell_in store x ≡ Some cell → cell_in store y ≡ Some cell → x ≡ y

-- as many containers or chunks of a node with a cap are live as it needs for the active coordinates
abbrev pub LiveIsNeed : StoreWords → Type 0
LiveIsNeed store =
    IsWellFormed store → (flat : FlatLayout) → StandsFor store flat → (number : ℕ) (node : NodeShape) →
    IsNumberedNode store.shape number node → kind_has_cap node.kind ≡ true → (kept : NodeWords) →
    slice_get store.nodes (number - 1) ≡ Some kept → live_count kept.pool ≡ need_of store.shape flat.active number node

-- so no node is too full for them
abbrev pub StandsHasRoom : StoreWords → Type 0
StandsHasRoom store =
    IsWellFormed store → (flat : FlatLayout) → StandsFor store flat → first_full store.shape flat.active ≡ None

-- two stores that stand for the same flat layout have the same values in the cells of a coordinate
abbrev pub SameValues : StoreWords → StoreWords → Type 0
SameValues store other =
    (flat : FlatLayout) → StandsFor store flat → StandsFor other flat → store.shape ≡ other.shape →
    (at : Coord) (cell twin : ℕ) → cell_in store at ≡ Some cell → cell_in other at ≡ Some twin → (place : ℕ) →
    place < length store.shape.fields → word_in store place cell ≡ word_in other place twin
