-- One step of a walk, and from which places it can be taken.
use Rattle.std.specs.Prelude.{ℕ, ◌^◌, ◌/◌, ◌%◌, ◌<◌, ◌≤◌, Bool, true, false, Option, None, if◌then◌else◌, List, [], ◌∷◌, length}
use Rattle.sg_layout.specs.declared.shape.NodeShape.{NodeShape}
use Rattle.sg_layout.specs.Axes.{count_of, size_of}
use Rattle.sg_layout.specs.declared.shape.Kind.{Kind}
use Rattle.sg_layout.specs.declared.shape.Kind.TheVariants.{Dense, Bitmasked, Pointer, Hash, Dynamic}
use Rattle.sg_hash.specs.Tables.{IsTable, AreBeside}
use Rattle.sg_links.specs.Lists.{Lists}
use Rattle.sg_store.specs.declared.node.NodeWords.{NodeWords}
use Rattle.sg_store.specs.Slots.{slot_under, place_below, active_below}
use Rattle.sg_store.specs.Walks.{NodeStep}

-- offsets at the first of the nodes, each below its node's size
abbrev pub AreOffsets : List NodeShape → List ℕ → Type 0
AreOffsets nodes [] = Unit {0}
AreOffsets [] (offset ∷ slot) = ⊥
AreOffsets (node ∷ later) (offset ∷ slot) = (offset < size_of node.sizes) × AreOffsets later slot

-- a place above a node: the numbers of its slots are below that of all
pub record IsPlaceAt (x : ℕ) (node : NodeShape) (kept : NodeWords) (slots : ℕ) (live : ℕ → Bool) : Type 0 where
  pub under : (o : ℕ) → o < size_of node.sizes → slot_under node x o < slots
  pub few : slots ≤ 2 ^ 47

-- the step of a walk: through links and set bits, or through links alone
abbrev pub step_of_walk : Bool → NodeStep
step_of_walk true = active_below
step_of_walk false = place_below

-- a step, and none if bits count and the slot is not set
abbrev pub unless_unset : Bool → Bool → Option ℕ → Option ℕ
unless_unset true set below = if set then below else None
unless_unset false set below = below

-- a table with room for a key, in which a key is looked for
pub record IsTableFor (keys links : List ℕ) (key : ℕ) : Type 0 where
  pub some : 0 < length keys
  pub table : IsTable keys
  pub links_beside : AreBeside keys links
  pub few : key < 2 ^ 32

-- chains in which the cell of an index under a parent is looked for
pub record IsChainFor (chains : Lists) (chunk parent index : ℕ) : Type 0 where
  pub there : parent < length chains.lists
  pub some_chunk : 1 ≤ chunk
  pub few : index < 2 ^ 32

-- parents of so many slots, and a chain for the parent of this one
pub record IsUnderParent (node : NodeShape) (kept : NodeWords) (slot : ℕ) : Type 0 where
  pub some_size : 0 < size_of node.sizes
  pub chain : IsChainFor kept.chains (count_of node.chunk) (slot / size_of node.sizes) (slot % size_of node.sizes)

-- the words of a node in which a slot can be looked for
abbrev pub CanFind : Kind → NodeShape → NodeWords → ℕ → Type 0
CanFind Dense node kept slot = Unit {0}
CanFind Bitmasked node kept slot = Unit {0}
CanFind Pointer node kept slot = Unit {0}
CanFind Hash node kept slot = IsTableFor kept.keys kept.links slot
CanFind Dynamic node kept slot = IsUnderParent node kept slot
