-- The words of nodes before anything is written.
use Rattle.std.specs.Prelude.{◌≡◌, ℕ, ◌+◌, ◌*◌, ◌^◌, ◌<◌, ◌≤◌, false, List, [], ◌∷◌, ◌++◌, length, replicate, slice_index}
use Rattle.std.specs.Int.{div_ceil}
use Rattle.std.specs.List.{All}
use Rattle.sg_layout.specs.declared.shape.Kind.{Kind}
use Rattle.sg_layout.specs.declared.shape.Kind.TheVariants.{Dense, Bitmasked, Pointer, Hash, Dynamic}
use Rattle.sg_layout.specs.declared.shape.NodeShape.{NodeShape}
use Rattle.sg_layout.specs.Axes.{count_of, size_of, slots_of}
use Rattle.sg_layout.specs.StorageWords.{power_for}
use Rattle.sg_pool.specs.Numbers.{place_count, is_live_number, live_count, IsParted}
use Rattle.sg_links.specs.Lists.{empty_lists}
use Rattle.sg_store.specs.declared.node.NodeWords.{NodeWords}
use Rattle.sg_store.specs.declared.fresh.Room.{Room}
use Rattle.sg_store.specs.Slots.{mask_bit}
use Rattle.sg_store.specs.WellFormed.{places_below, cells_below}

-- as many words as a node of this kind with so many slots has
abbrev pub IsSized : Kind → NodeShape → NodeWords → ℕ → Type 0
IsSized Dense node kept slots = Unit {0}
IsSized Bitmasked node kept slots = length kept.masks ≡ div_ceil slots 64
IsSized Pointer node kept slots = (length kept.links ≡ slots) × (place_count kept.pool ≡ count_of node.cap + 17)
IsSized Hash node kept slots =
    (slots ≤ 2 ^ 32) × (kept.keys ≡ replicate (power_for (2 * count_of node.cap)) 0)
    × (kept.links ≡ replicate (power_for (2 * count_of node.cap)) 0) × (place_count kept.pool ≡ count_of node.cap + 17)
IsSized Dynamic node kept slots =
    (1 ≤ count_of node.chunk) × (length kept.lengths * size_of node.sizes ≡ slots) × (place_count kept.pool ≡ count_of node.cap)
    × (kept.chains ≡ empty_lists (count_of node.cap) (length kept.lengths))

-- and all of them without a link, a bit, a length or a live number
pub record IsFreshNode (kind : Kind) (node : NodeShape) (kept : NodeWords) (slots : ℕ) : Type 0 where
  pub sized : IsSized kind node kept slots
  pub no_link : (slot : ℕ) → slice_index kept.links slot ≡ 0
  pub no_bit : (slot : ℕ) → mask_bit kept.masks slot ≡ false
  pub no_length : (parent : ℕ) → slice_index kept.lengths parent ≡ 0
  pub none_live : (number : ℕ) → is_live_number kept.pool number ≡ false
  pub none_counted : live_count kept.pool ≡ 0
  pub parted : IsParted kept.pool

-- so many words without a key, a link, a bit, a length or a live number
pub record AreZeroWords (room : Room) (kept : NodeWords) : Type 0 where
  pub keys_are : kept.keys ≡ replicate room.keys 0
  pub links_are : kept.links ≡ replicate room.links 0
  pub link_count : length kept.links ≡ room.links
  pub mask_count : length kept.masks ≡ room.masks
  pub length_count : length kept.lengths ≡ room.lengths
  pub chains_are : kept.chains ≡ empty_lists room.chunks room.lengths
  pub no_length : (parent : ℕ) → slice_index kept.lengths parent ≡ 0
  pub places : place_count kept.pool ≡ room.numbers
  pub no_link : (slot : ℕ) → slice_index kept.links slot ≡ 0
  pub no_bit : (slot : ℕ) → mask_bit kept.masks slot ≡ false
  pub none_live : (number : ℕ) → is_live_number kept.pool number ≡ false
  pub none_counted : live_count kept.pool ≡ 0
  pub parted : IsParted kept.pool

-- such words for each node, under so many places
abbrev pub AreFresh : List NodeShape → List NodeWords → ℕ → Type 0
AreFresh [] [] places = Unit {0}
AreFresh [] (kept ∷ words) places = ⊥
AreFresh (node ∷ later) [] places = ⊥
AreFresh (node ∷ later) (kept ∷ words) places =
    (places * size_of node.sizes ≤ 2 ^ 47) × IsFreshNode node.kind node kept (places * size_of node.sizes)
    × AreFresh later words (places_below node.kind node (places * size_of node.sizes))
    × (node.kind ≡ Dynamic → later ≡ [])

-- a node with a cap has one from 1 to 2^16, and one with a chunk one from 1 to its size
abbrev pub IsCapped : Kind → NodeShape → Type 0
IsCapped Dense node = Unit {0}
IsCapped Bitmasked node = Unit {0}
IsCapped Pointer node = (1 ≤ count_of node.cap) × (count_of node.cap ≤ 2 ^ 16)
IsCapped Hash node = (1 ≤ count_of node.cap) × (count_of node.cap ≤ 2 ^ 16)
IsCapped Dynamic node =
    (1 ≤ count_of node.cap) × (count_of node.cap ≤ 2 ^ 16) × (1 ≤ count_of node.chunk) × (count_of node.chunk ≤ size_of node.sizes)

-- the slots of a hash node, under so many places, have numbers that are keys
abbrev pub KeysFit : List NodeShape → ℕ → Type 0
KeysFit [] places = Unit {0}
KeysFit (node ∷ later) places =
    (node.kind ≡ Hash → places * size_of node.sizes ≤ 2 ^ 32)
    × KeysFit later (places_below node.kind node (places * size_of node.sizes))

-- a dynamic node is the last
abbrev pub EndWithDynamic : List NodeShape → Type 0
EndWithDynamic [] = Unit {0}
EndWithDynamic (node ∷ later) = (node.kind ≡ Dynamic → later ≡ []) × EndWithDynamic later

-- as many chains as there are places above a dynamic node, or else as below the node
abbrev pub chains_by : Kind → ℕ → ℕ → ℕ
chains_by Dynamic places below = places
chains_by Dense places below = below
chains_by Bitmasked places below = below
chains_by Pointer places below = below
chains_by Hash places below = below

-- how many chains nodes have under so many places
abbrev pub chains_below : List NodeShape → ℕ → ℕ
chains_below [] places = 0
chains_below (node ∷ later) places =
    chains_by node.kind places (chains_below later (places_below node.kind node (places * size_of node.sizes)))

-- the nodes below so many places have room: their slots are no more than 2^47
pub record IsRoomy (nodes : List NodeShape) (places : ℕ) : Type 0 where
  pub room : places * slots_of nodes ≤ 2 ^ 47
  pub few : slots_of nodes ≤ 2 ^ 30
  pub some : 1 ≤ slots_of nodes
  pub caps : All (λ node. IsCapped node.kind node) nodes
  pub keys_fit : KeysFit nodes places
  pub few_chains : chains_below nodes places < 2 ^ 32
  pub last : EndWithDynamic nodes

-- a row of zeros for so many cells
pub record IsZeroRow (cells : ℕ) (row : List ℕ) : Type 0 where
  pub long : length row ≡ cells
  pub zero : (cell : ℕ) → slice_index row cell ≡ 0

-- the words of the first of some nodes, under one place, where others are left, under so many places
pub record IsFreshSoFar (nodes left : List NodeShape) (words : List NodeWords) (places : ℕ) : Type 0 where
  pub goes_on : (more : List NodeWords) → AreFresh left more places → AreFresh nodes (words ++ more) 1
  pub roomy : IsRoomy left places
  pub cells : cells_below left places ≡ cells_below nodes 1
