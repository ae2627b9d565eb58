-- What a descent is given, what its seats know, and what it answers and leaves. Nodes of the layout are numbered from 1.
use Rattle.std.specs.Prelude.{◌≡◌, ℕ, suc, ◌+◌, ◌-◌, ◌*◌, ◌<◌, ◌≤◌, ◌⊎◌, Bool, true, false, ◌&&◌, nat_lt, if◌then◌else◌, List, [], ◌∷◌, length, take, filter, Contains, Option, Some, None, IsSome, slice_index}
use Rattle.sg_words.specs.declared.race.Worker.{Worker}
use Rattle.sg_words.specs.Counts.{pairs, firsts, times_in}
use Rattle.sg_coord.specs.declared.coord.Coord.{Coord}
use Rattle.sg_layout.specs.declared.shape.Kind.{Kind}
use Rattle.sg_layout.specs.declared.shape.Kind.TheVariants.{Dense, Bitmasked, Pointer, Hash, Dynamic}
use Rattle.sg_layout.specs.declared.shape.NodeShape.{NodeShape}
use Rattle.sg_layout.specs.declared.shape.Shape.{Shape}
use Rattle.sg_layout.specs.Axes.{count_of, size_of, sizes_of}
use Rattle.sg_layout.specs.Path.{offsets, path}
use Rattle.sg_layout.specs.Live.{kind_at}
use Rattle.sg_layout.specs.Need.{FullNode, need_of}
use Rattle.sg_hash.specs.Tables.{beside}
use Rattle.sg_words.specs.Ranges.{range_at}
use Rattle.sg_pool.specs.Numbers.{IsStock}
use Rattle.sg_store.specs.StoreWords.{StoreWords}
use Rattle.sg_store.specs.Opening.{link_words_of, keys_of, masks_of, lengths_of, pool_of}
use Rattle.sg_activate.specs.declared.descent.rule.Start.{Start}
use Rattle.sg_activate.specs.declared.descent.walk.Reach.{Reach}
use Rattle.sg_activate.specs.declared.descent.walk.Reach.TheVariants as reach
use Rattle.sg_activate.specs.TableParts.{first_of}
use Rattle.sg_activate.specs.DescentRace.{slots_each, words_each, limits_of}

-- ---- the fused nodes
abbrev pub is_fused : Kind → Bool
is_fused Dense = false
is_fused Bitmasked = true
is_fused Pointer = true
is_fused Hash = false
is_fused Dynamic = false

abbrev pub is_pointer : Kind → Bool
is_pointer Dense = false
is_pointer Bitmasked = false
is_pointer Pointer = true
is_pointer Hash = false
is_pointer Dynamic = false

abbrev pub is_mask : Kind → Bool
is_mask Dense = false
is_mask Bitmasked = true
is_mask Pointer = false
is_mask Hash = false
is_mask Dynamic = false

-- the number of the last fused node, counted from this one; 0 where there is none
abbrev pub last_from : ℕ → List NodeShape → ℕ → ℕ
last_from number [] last = last
last_from number (node ∷ later) last = last_from (suc number) later (if is_fused node.kind then number else last)

abbrev pub last_fused : Shape → ℕ
last_fused shape = last_from 1 shape.nodes 0

-- how many nodes are open before a descent: the hash node, where there is one
abbrev pub nodes_before : Kind → ℕ
nodes_before Dense = 0
nodes_before Bitmasked = 0
nodes_before Pointer = 0
nodes_before Hash = 1
nodes_before Dynamic = 0

abbrev pub open_before : Shape → ℕ
open_before shape = nodes_before (kind_at shape.nodes 1)

-- the first pointer node whose need passes its cap
abbrev pub first_link_full_from : Shape → List Coord → ℕ → List NodeShape → Option FullNode
first_link_full_from shape wanted number [] = None
first_link_full_from shape wanted number (node ∷ later) =
    if is_pointer node.kind && nat_lt (count_of node.cap) (need_of shape wanted number node)
    then Some (record { node = number; cap = count_of node.cap })
    else first_link_full_from shape wanted (suc number) later

abbrev pub first_link_full : Shape → List Coord → Option FullNode
first_link_full shape wanted = first_link_full_from shape wanted 1 shape.nodes

-- ---- the one table
-- how many nodes of some kind stand above a node: its number among these, from 0
abbrev pub number_among : (Kind → Bool) → List NodeShape → ℕ → ℕ
number_among is_kind nodes number = length (filter (λ node. is_kind node.kind) (take (number - 1) nodes))

abbrev pub pointer_number : Start → ℕ → ℕ
pointer_number start number = number_among is_pointer start.layout.nodes number

abbrev pub mask_number : Start → ℕ → ℕ
mask_number start number = number_among is_mask start.layout.nodes number

-- the number in the table of a node's slot, and of its bit
abbrev pub table_slot : Start → ℕ → ℕ → ℕ
table_slot start number slot = first_of (slots_each start) (pointer_number start number) + slot

abbrev pub table_bit : Start → ℕ → ℕ → ℕ
table_bit start number slot = first_of (words_each start) (mask_number start number) * 64 + slot

-- the words of one part in the table
abbrev pub part_at : List ℕ → List ℕ → ℕ → List ℕ
part_at sizes words part = range_at (first_of sizes part) (slice_index sizes part) words

-- the start has the words of a store: of each pointer node its links and its stock, of each bitmasked node its masks, and the keys and links of a hash node
pub record IsStartOf (start : Start) (store : StoreWords) : Type 0 where
  pub same_shape : start.layout ≡ store.shape
  pub links : (number : ℕ) → 1 ≤ number → kind_at store.shape.nodes number ≡ Pointer → part_at (slots_each start) start.links (pointer_number start number) ≡ link_words_of store number
  pub stocks : (number : ℕ) → 1 ≤ number → kind_at store.shape.nodes number ≡ Pointer → IsStock (pool_of store number) (part_at (limits_of start) start.stock (pointer_number start number))
  pub masks : (number : ℕ) → 1 ≤ number → kind_at store.shape.nodes number ≡ Bitmasked → part_at (words_each start) start.masks (mask_number start number) ≡ masks_of store number
  pub keys : kind_at store.shape.nodes 1 ≡ Hash → (start.keys ≡ keys_of store 1) × (start.heads ≡ link_words_of store 1)

-- ---- what a seat knows
-- how a slot of a node leads on: as itself, by a link that the seat has seen, or by the link beside its key
abbrev pub StepsTo : Start → Worker → ℕ → Kind → ℕ → ℕ → Type 0
StepsTo start v number Dense slot next = next ≡ slot
StepsTo start v number Bitmasked slot next = next ≡ slot
StepsTo start v number Pointer slot next = 0 < pairs (table_slot start number slot) next v.seen
StepsTo start v number Hash slot next = beside start.keys start.heads slot ≡ Some next
StepsTo start v number Dynamic slot next = ⊥

-- the seat knows that nodes, from this number on, lead from a place over offsets to another
abbrev pub LeadsTo : Start → Worker → List NodeShape → ℕ → ℕ → List ℕ → ℕ → Type 0
LeadsTo start v nodes number place [] end = place ≡ end
LeadsTo start v [] number place (offset ∷ slot) end = ⊥
LeadsTo start v (node ∷ later) number place (offset ∷ slot) end =
    (next : ℕ) × StepsTo start v number node.kind (place * size_of node.sizes + offset) next × LeadsTo start v later (suc number) next slot end

-- it knows the number of a coordinate's slot at a node
pub record KnowsSlot (start : Start) (v : Worker) (number : ℕ) (at : Coord) (slot : ℕ) : Type 0 where
  pub place : ℕ
  pub leads : LeadsTo start v start.layout.nodes 1 0 (path start.layout at (number - 1)) place
  pub is_slot : slot ≡ place * slice_index (sizes_of start.layout.nodes) (number - 1) + slice_index (offsets start.layout.nodes at) (number - 1)

-- it has seen a number in the coordinate's slot, or marked its bit
pub record HasSeenSlot (start : Start) (v : Worker) (number : ℕ) (at : Coord) : Type 0 where
  pub slot : ℕ
  pub knows : KnowsSlot start v number at slot
  pub next : ℕ
  pub seen : 0 < pairs (table_slot start number slot) next v.seen

pub record HasMarkedBit (start : Start) (v : Worker) (number : ℕ) (at : Coord) : Type 0 where
  pub slot : ℕ
  pub knows : KnowsSlot start v number at slot
  pub marked : 0 < times_in (table_bit start number slot) v.marked

abbrev pub HasOpened : Start → Worker → Kind → ℕ → Coord → Type 0
HasOpened start v Dense number at = Unit {0}
HasOpened start v Bitmasked number at = HasMarkedBit start v number at
HasOpened start v Pointer number at = HasSeenSlot start v number at
HasOpened start v Hash number at = Unit {0}
HasOpened start v Dynamic number at = Unit {0}

-- so at each node above one
abbrev pub HasOpenedAbove : Start → Worker → ℕ → Coord → Type 0
HasOpenedAbove start v number at =
    (above : ℕ) → 1 ≤ above → above < number → HasOpened start v (kind_at start.layout.nodes above) above at

-- at a pointer node it found the coordinate's slot empty, and holds a ticket past the node's stock
pub record HasMissedSlot (start : Start) (v : Worker) (number : ℕ) (at : Coord) : Type 0 where
  pub pointer : kind_at start.layout.nodes number ≡ Pointer
  pub slot : ℕ
  pub knows : KnowsSlot start v number at slot
  pub missed : 0 < times_in (table_slot start number slot) v.missed
  pub past : 0 < firsts (pointer_number start number) v.past

-- what a seat knows of a coordinate after an answer
abbrev pub IsAnswered : Start → Worker → Coord → Reach → Type 0
IsAnswered start v at reach.Open = HasOpenedAbove start v (suc (length start.layout.nodes)) at
IsAnswered start v at (reach.Dry node) = HasOpenedAbove start v node at × HasMissedSlot start v node at

-- a slot of the table is the coordinate's at some pointer node, and a bit its at some bitmasked node
pub record IsSlotFor (start : Start) (v : Worker) (at : Coord) (i : ℕ) : Type 0 where
  pub number : ℕ
  pub first : 1 ≤ number
  pub pointer : kind_at start.layout.nodes number ≡ Pointer
  pub slot : ℕ
  pub knows : KnowsSlot start v number at slot
  pub is : i ≡ table_slot start number slot

pub record IsBitFor (start : Start) (v : Worker) (at : Coord) (b : ℕ) : Type 0 where
  pub number : ℕ
  pub first : 1 ≤ number
  pub masked : kind_at start.layout.nodes number ≡ Bitmasked
  pub slot : ℕ
  pub knows : KnowsSlot start v number at slot
  pub is : b ≡ table_bit start number slot

-- where node 1 is a hash node, the coordinate's key has a link
abbrev pub KnowsKey : Start → Coord → Type 0
KnowsKey start at = kind_at start.layout.nodes 1 ≡ Hash → IsSome (beside start.keys start.heads (slice_index (offsets start.layout.nodes at) 0))

-- two views of one seat, of which the later knows all that the earlier did; between them it neither split nor was joined
pub record KnowsMore (v w : Worker) : Type 0 where
  pub seen : (i n : ℕ) → 0 < pairs i n v.seen → 0 < pairs i n w.seen
  pub marked : (b : ℕ) → 0 < times_in b v.marked → 0 < times_in b w.marked
  pub missed : (i : ℕ) → 0 < times_in i v.missed → 0 < times_in i w.missed
  pub past : (l : ℕ) → 0 < firsts l v.past → 0 < firsts l w.past
  pub told : w.told ≡ v.told
  pub share : w.share ≡ v.share
  pub back : w.back ≡ v.back
  pub size : w.size ≡ v.size
  pub left : w.left ≡ v.left

-- what was made and marked since is the coordinate's
pub record GrewFor (start : Start) (at : Coord) (v w : Worker) : Type 0 where
  pub made : (i t : ℕ) → 0 < pairs i t w.made → (0 < pairs i t v.made) ⊎ IsSlotFor start w at i
  pub marked : (b : ℕ) → 0 < times_in b w.marked → (0 < times_in b v.marked) ⊎ IsBitFor start w at b

-- ---- the end
-- wanted coordinates fit a seat: what it made and marked is for one of them, and each was answered
pub record FitsSeat (start : Start) (v : Worker) (wanted : List Coord) : Type 0 where
  pub made : (i t : ℕ) → 0 < pairs i t v.made → (at : Coord) × Contains wanted at × IsSlotFor start v at i
  pub marked : (b : ℕ) → 0 < times_in b v.marked → (at : Coord) × Contains wanted at × IsBitFor start v at b
  pub answered : (at : Coord) → Contains wanted at → (answer : Reach) × IsAnswered start v at answer

-- a link, key or bit that was there stays, and the lengths stay
pub record StaysAt (old now : StoreWords) : Type 0 where
  pub links : (number i : ℕ) → 0 < slice_index (link_words_of old number) i → slice_index (link_words_of now number) i ≡ slice_index (link_words_of old number) i
  pub keys : keys_of now 1 ≡ keys_of old 1
  pub lengths : (number : ℕ) → lengths_of now number ≡ lengths_of old number
