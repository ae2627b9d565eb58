-- The laws of links.
use Rattle.std.specs.Prelude.{◌≡◌, ◌↔◌, ℕ, suc, ◌<◌, Option, Some, None, IsTrue, slice_get}
use Rattle.sg_layout.specs.declared.shape.NodeShape.{NodeShape}
use Rattle.sg_pool.specs.Numbers.{place_count, is_live_number}
use Rattle.sg_store.specs.declared.node.NodeWords.{NodeWords}
use Rattle.sg_store.specs.declared.links.LinkAt.{LinkAt}
use Rattle.sg_store.specs.StoreWords.{StoreWords}
use Rattle.sg_store.specs.WellFormed.{kind_has_cap, IsWellFormed}
use Rattle.sg_store.specs.Reaching.{KeepsCells}
use Rattle.sg_store.specs.Links.{IsLink, GrowsLinks, KeepsLinks, node_above, copy_slots}

-- if what led to a place still leads to it, links grow
abbrev pub CellsKeepLinks : StoreWords → StoreWords → Type 0
CellsKeepLinks old now = IsWellFormed old → IsWellFormed now → KeepsCells old now → GrowsLinks old now

-- if links only grow, or only shrink, each number that is live before and after has the same link
abbrev pub GrownAreKept : StoreWords → StoreWords → Type 0
GrownAreKept old now = IsWellFormed now → GrowsLinks old now → KeepsLinks old now

-- the other way round
abbrev pub ShrunkAreKept : StoreWords → StoreWords → Type 0
ShrunkAreKept old now = IsWellFormed old → GrowsLinks now old → KeepsLinks old now

-- a number of the node with this index, from 0, is live
pub record IsLiveAt (store : StoreWords) (index number : ℕ) : Type 0 where
  pub kept : NodeWords
  pub there : slice_get store.nodes index ≡ Some kept
  pub live : IsTrue (is_live_number kept.pool number)

-- the parent of a link is the root segment, or one more than a live number of the nearest node above
abbrev pub HasParent : StoreWords → Option ℕ → ℕ → Type 0
HasParent store None parent = parent ≡ 0
HasParent store (Some above) parent = (number : ℕ) × (parent ≡ suc number) × IsLiveAt store above number

-- a link fits its node: its number has a place in the pool, its slot is one of a copy's, and its parent is there
pub record FitsNode (store : StoreWords) (index : ℕ) (link : LinkAt) : Type 0 where
  pub node : NodeShape
  pub kept : NodeWords
  pub node_there : slice_get store.shape.nodes index ≡ Some node
  pub kept_there : slice_get store.nodes index ≡ Some kept
  pub place : link.number < place_count kept.pool
  pub slot : link.slot < copy_slots store.shape.nodes index node
  pub parent : HasParent store (node_above store.shape.nodes index) link.parent

-- the links of a node are sound: each live number stands in one slot, each slot holds one number, and each link fits
pub record AreSound (store : StoreWords) (index : ℕ) : Type 0 where
  pub live : (number : ℕ) → IsLiveAt store index number ↔ ((link : LinkAt) × IsLink store index link × (link.number ≡ number))
  pub numbers : (x y : LinkAt) → IsLink store index x → IsLink store index y → x.number ≡ y.number → x ≡ y
  pub slots : (x y : LinkAt) → IsLink store index x → IsLink store index y → x.parent ≡ y.parent → x.slot ≡ y.slot → x ≡ y
  pub fit : (link : LinkAt) → IsLink store index link → FitsNode store index link

-- in a well-formed store they are, at each node with a cap
abbrev pub LinksAreSound : StoreWords → Type 0
LinksAreSound store =
    IsWellFormed store → (index : ℕ) (node : NodeShape) → slice_get store.shape.nodes index ≡ Some node →
    IsTrue (kind_has_cap node.kind) → AreSound store index
