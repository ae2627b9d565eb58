-- Where the live numbers of stores stand, as lists: for each layout, for each of its nodes, its links.
use Rattle.std.specs.Prelude.{◌≡◌, ℕ, zero, suc, ◌<◌, List, [], AllPairs, length, map, slice_index_or}
use Rattle.std.specs.List.{AllZip}
use Rattle.sg_layout.specs.declared.shape.Shape.{Shape}
use Rattle.sg_store.specs.declared.links.LinkAt.{LinkAt}
use Rattle.sg_store.specs.StoreWords.{StoreWords}
use Rattle.sg_store.specs.Links.{AreLinks}

-- the links of the nodes of a layout
abbrev pub LayoutLinks : Type 0
LayoutLinks = List (List LinkAt)

-- and those of all layouts
abbrev pub Placing : Type 0
Placing = List LayoutLinks

-- the links of the node with this index, from 0; none past the last
abbrev pub links_in : LayoutLinks → ℕ → List LinkAt
links_in nodes index = slice_index_or nodes index []

-- the links of a node, numbered from 1, of a layout, numbered from 0
abbrev pub links_at : Placing → (layout node : ℕ) → List LinkAt
links_at placing layout zero = []
links_at placing layout (suc index) = links_in (slice_index_or placing layout []) index

-- the links of the nodes of a store; a node without a cap has none
pub record ArePlacedIn (store : StoreWords) (nodes : LayoutLinks) : Type 0 where
  pub as_many : length nodes ≡ length store.shape.nodes
  pub links : (index : ℕ) → AreLinks store index (links_in nodes index)

-- those of the nodes of stores
abbrev pub ArePlaced : List StoreWords → Placing → Type 0
ArePlaced stores placing = AllZip ArePlacedIn stores placing

-- the nodes of layouts without any link
abbrev pub nothing_in : Shape → LayoutLinks
nothing_in shape = map (λ node. []) shape.nodes

abbrev pub nothing_placed : List Shape → Placing
nothing_placed shapes = map nothing_in shapes

-- links rise by their numbers
abbrev pub AreRising : List LinkAt → Type 0
AreRising links = AllPairs (λ (x y : LinkAt). x.number < y.number) links
