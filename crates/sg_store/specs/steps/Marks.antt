-- How many places may be live below nodes, by the high water marks of their pools.
use Rattle.std.specs.Prelude.{◌≡◌, ℕ, ◌*◌, ◌≤◌, Bool, List, [], ◌∷◌, drop, All}
use Rattle.sg_layout.specs.declared.shape.Kind.{Kind}
use Rattle.sg_layout.specs.declared.shape.Kind.TheVariants.{Dense, Bitmasked, Pointer, Hash, Dynamic}
use Rattle.sg_layout.specs.declared.shape.NodeShape.{NodeShape}
use Rattle.sg_layout.specs.Axes.{count_of, size_of}
use Rattle.sg_pool.specs.Numbers.{IsParted}
use Rattle.sg_store.specs.declared.node.NodeWords.{NodeWords}
use Rattle.sg_store.specs.StoreWords.{StoreWords}
use Rattle.sg_store.specs.WellFormed.{AreNodes}

-- up to which place below so many slots of a node one may be live
abbrev pub marked_below : Kind → NodeShape → NodeWords → ℕ → ℕ
marked_below Dense node kept slots = slots
marked_below Bitmasked node kept slots = slots
marked_below Pointer node kept slots = kept.pool.mark
marked_below Hash node kept slots = kept.pool.mark
marked_below Dynamic node kept slots = kept.pool.mark * count_of node.chunk

-- up to which cell below so many places one may be reached
abbrev pub marked_from : List NodeShape → List NodeWords → ℕ → ℕ
marked_from [] words places = places
marked_from (node ∷ later) [] places = places
marked_from (node ∷ later) (kept ∷ words) places = marked_from later words (marked_below node.kind node kept (places * size_of node.sizes))

-- below the nodes from an index on so many places are counted
pub record AreMarked (store : StoreWords) (index places : ℕ) : Type 0 where
  pub same : marked_from (drop index store.shape.nodes) (drop index store.nodes) places ≡ marked_from store.shape.nodes store.nodes 1
  pub all : ℕ
  pub live : ℕ → Bool
  pub are : AreNodes (drop index store.shape.nodes) (drop index store.nodes) all live
  pub few : places ≤ all
  pub parted : All (λ kept. IsParted kept.pool) (drop index store.nodes)
