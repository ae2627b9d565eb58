-- Where the live numbers of a node with a cap stand: which slot holds each container or chunk, and in which container.
use Rattle.std.specs.Prelude.{◌≡◌, ◌↔◌, ℕ, zero, suc, ◌+◌, ◌*◌, ◌/◌, ◌%◌, ◌<◌, List, AllPairs, Contains, Option, Some, None, is_some, slice_get, slice_index, cond, if◌then◌else◌}
use Rattle.sg_layout.specs.declared.shape.Kind.{Kind}
use Rattle.sg_layout.specs.declared.shape.Kind.TheVariants.{Dense, Bitmasked, Pointer, Hash, Dynamic}
use Rattle.sg_layout.specs.declared.shape.NodeShape.{NodeShape}
use Rattle.sg_layout.specs.Axes.{count_of, size_of}
use Rattle.sg_layout.specs.Live.{kind_or}
use Rattle.sg_layout.specs.StorageWords.{ends_segment}
use Rattle.sg_links.specs.Lists.{list_of}
use Rattle.sg_hash.specs.Tables.{beside}
use Rattle.sg_dynamic.specs.Chunks.{chunks_of}
use Rattle.sg_store.specs.declared.node.NodeWords.{NodeWords}
use Rattle.sg_store.specs.declared.links.LinkAt.{LinkAt}
use Rattle.sg_store.specs.StoreWords.{StoreWords}
use Rattle.sg_store.specs.Slots.{linked}
use Rattle.sg_store.specs.Spots.{width_after}

-- the chunks that a full parent of a dynamic node has
abbrev pub full_chain : NodeShape → ℕ
full_chain node = chunks_of (count_of node.chunk) (size_of node.sizes)

-- how many slots for numbers a node has under one place above it
abbrev pub slots_per_place : Kind → NodeShape → ℕ
slots_per_place Dense node = 0
slots_per_place Bitmasked node = 0
slots_per_place Pointer node = size_of node.sizes
slots_per_place Hash node = size_of node.sizes
slots_per_place Dynamic node = full_chain node

-- the number that a slot holds, the slots being numbered over all copies of the node: at a dynamic node a slot is a place
-- in the chain of a parent
abbrev pub held_at : Kind → NodeShape → NodeWords → ℕ → Option ℕ
held_at Dense node kept slot = None
held_at Bitmasked node kept slot = None
held_at Pointer node kept slot = linked (slice_index kept.links slot)
held_at Hash node kept slot = beside kept.keys kept.links slot
held_at Dynamic node kept slot = slice_get (list_of kept.chains (slot / full_chain node)) (slot % full_chain node)

-- the nearest node with child containers above the node with this index, both from 0; none below the root segment
abbrev pub node_above : List NodeShape → ℕ → Option ℕ
node_above nodes zero = None
node_above nodes (suc index) = if ends_segment (kind_or (slice_get nodes index)) then Some index else node_above nodes index

-- how many slots for numbers the node has in one copy of its segment
abbrev pub copy_slots : List NodeShape → ℕ → NodeShape → ℕ
copy_slots nodes index node = width_after nodes index * slots_per_place node.kind node

-- where the slot with this number, over all copies, stands: in the root segment, or in the container of its copy
abbrev pub link_for : List NodeShape → ℕ → NodeShape → ℕ → ℕ → LinkAt
link_for nodes index node slot number = record {
  number = number;
  parent = cond (is_some (node_above nodes index)) (slot / copy_slots nodes index node + 1) 0;
  slot = cond (is_some (node_above nodes index)) (slot % copy_slots nodes index node) slot;
}

-- it is the link of a live number of the node with this index, from 0
pub record IsLink (store : StoreWords) (index : ℕ) (link : LinkAt) : Type 0 where
  pub node : NodeShape
  pub kept : NodeWords
  pub node_there : slice_get store.shape.nodes index ≡ Some node
  pub kept_there : slice_get store.nodes index ≡ Some kept
  pub slot : ℕ
  pub holds : held_at node.kind node kept slot ≡ Some link.number
  pub is : link ≡ link_for store.shape.nodes index node slot link.number

-- the links of the node with this index, from 0, each once, by rising number
pub record AreLinks (store : StoreWords) (index : ℕ) (links : List LinkAt) : Type 0 where
  pub members : (link : LinkAt) → Contains links link ↔ IsLink store index link
  pub rising : AllPairs (λ x y. x.number < y.number) links

-- each link stays, and there may be more; of a store that has only lost links it is said the other way round
abbrev pub GrowsLinks : StoreWords → StoreWords → Type 0
GrowsLinks old now = (index : ℕ) (link : LinkAt) → IsLink old index link → IsLink now index link

-- each number that is live before and after has the same link
abbrev pub KeepsLinks : StoreWords → StoreWords → Type 0
KeepsLinks old now =
    (index : ℕ) (before after : LinkAt) → IsLink old index before → IsLink now index after →
    before.number ≡ after.number → before ≡ after
