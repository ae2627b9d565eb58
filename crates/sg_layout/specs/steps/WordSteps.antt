-- Storage words counted node by node, as the code does: what a node adds, and what it leaves to the nodes after it.
use Rattle.std.specs.Prelude.{ℕ, ◌+◌, ◌*◌, List, [], ◌∷◌}
use Rattle.std.specs.Int.{div_ceil}
use Rattle.sg_layout.specs.declared.shape.Kind.{Kind}
use Rattle.sg_layout.specs.declared.shape.Kind.TheVariants.{Dense, Bitmasked, Pointer, Hash, Dynamic}
use Rattle.sg_layout.specs.declared.shape.NodeShape.{NodeShape}
use Rattle.sg_layout.specs.Axes.{count_of, size_of}
use Rattle.sg_layout.specs.StorageWords.{power_for, chunks_by}

-- the words of a node in one copy of its segment, which has so many slots before the node and so many with it
abbrev pub own_words : Kind → NodeShape → (before slots : ℕ) → ℕ
own_words Dense node before slots = 0
own_words Bitmasked node before slots = div_ceil slots 64
own_words Pointer node before slots = slots
own_words Hash node before slots = 2 * power_for (2 * count_of node.cap)
own_words Dynamic node before slots = 2 * before

-- the copies of what stands after a node, where its own segment has so many
abbrev pub copies_next : Kind → NodeShape → ℕ → ℕ
copies_next Dense node copies = copies
copies_next Bitmasked node copies = copies
copies_next Pointer node copies = count_of node.cap + 17
copies_next Hash node copies = count_of node.cap + 17
copies_next Dynamic node copies = copies

-- the slots of one copy that stand before the next node: a new segment has one cell, and after a dynamic node, which
-- has its cells in chunks, there is none
abbrev pub slots_next : Kind → ℕ → ℕ
slots_next Dense slots = slots
slots_next Bitmasked slots = slots
slots_next Pointer slots = 1
slots_next Hash slots = 1
slots_next Dynamic slots = 0

-- the words of nodes, where so many copies of so many slots stand before them
abbrev pub counted : (fields copies before : ℕ) → List NodeShape → ℕ
counted fields copies before [] = copies * (before * fields)
counted fields copies before (node ∷ later) =
    copies * own_words node.kind node before (before * size_of node.sizes) + chunks_by node.kind node fields
    + counted fields (copies_next node.kind node copies) (slots_next node.kind (before * size_of node.sizes)) later
