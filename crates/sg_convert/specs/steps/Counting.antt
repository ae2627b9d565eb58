-- Words counted node by node, as the code does, where each node has a need.
use Rattle.std.specs.Prelude.{ℕ, suc, ◌+◌, ◌*◌, List, [], ◌∷◌}
use Rattle.std.specs.Int.{div_ceil}
use Rattle.sg_layout.specs.declared.shape.Kind.{Kind}
use Rattle.sg_layout.specs.declared.shape.Kind.TheVariants.{Dense, Bitmasked, Pointer, Hash, Dynamic}
use Rattle.sg_layout.specs.declared.shape.NodeShape.{NodeShape}
use Rattle.sg_layout.specs.Axes.{count_of, size_of}
use Rattle.sg_layout.specs.StorageWords.{power_for}
use Rattle.sg_pool.specs.Numbers.{live_count}
use Rattle.sg_store.specs.StoreWords.{StoreWords}
use Rattle.sg_store.specs.Opening.{pool_of}

-- the words of a node in one copy of its segment, which has so many slots before the node and so many with it
abbrev pub own_words : Kind → NodeShape → (before slots : ℕ) → ℕ
own_words Dense node before slots = 0
own_words Bitmasked node before slots = div_ceil slots 64
own_words Pointer node before slots = slots
own_words Hash node before slots = 2 * power_for (2 * count_of node.cap)
own_words Dynamic node before slots = 2 * before

-- the words of the chunks that a node needs
abbrev pub chunks_for : Kind → NodeShape → (need fields : ℕ) → ℕ
chunks_for Dense node need fields = 0
chunks_for Bitmasked node need fields = 0
chunks_for Pointer node need fields = 0
chunks_for Hash node need fields = 0
chunks_for Dynamic node need fields = need * (count_of node.chunk * fields + 1)

-- the copies of what stands after a node, where its own segment has so many
abbrev pub copies_next : Kind → (need copies : ℕ) → ℕ
copies_next Dense need copies = copies
copies_next Bitmasked need copies = copies
copies_next Pointer need copies = need
copies_next Hash need copies = need
copies_next Dynamic need copies = copies

-- the slots of one copy that stand before the next node: a new segment has one cell, and after a dynamic node, which
-- has its cells in chunks, there is none
abbrev pub slots_next : Kind → ℕ → ℕ
slots_next Dense slots = slots
slots_next Bitmasked slots = slots
slots_next Pointer slots = 1
slots_next Hash slots = 1
slots_next Dynamic slots = 0

-- the words of nodes, from this number on, where so many copies of so many slots stand before them
abbrev pub counted : (ℕ → NodeShape → ℕ) → (fields copies before number : ℕ) → List NodeShape → ℕ
counted needs fields copies before number [] = copies * (before * fields)
counted needs fields copies before number (node ∷ later) =
    copies * own_words node.kind node before (before * size_of node.sizes) + chunks_for node.kind node (needs number node) fields
    + counted needs fields (copies_next node.kind (needs number node) copies) (slots_next node.kind (before * size_of node.sizes)) (suc number) later

-- how many of a node's child containers or chunks are live in a store; 0 if its kind has none
abbrev pub live_by : Kind → ℕ → ℕ
live_by Dense live = 0
live_by Bitmasked live = 0
live_by Pointer live = live
live_by Hash live = live
live_by Dynamic live = live

abbrev pub live_in : StoreWords → ℕ → NodeShape → ℕ
live_in store number node = live_by node.kind (live_count (pool_of store number))
