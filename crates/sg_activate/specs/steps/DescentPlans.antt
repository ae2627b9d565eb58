-- How the start of a descent is made, node after node: what is known of the parts and levels so far, and of what the next node stands under.
use Rattle.std.specs.Prelude.{◌≡◌, ◌≢◌, ℕ, suc, ◌+◌, ◌-◌, ◌*◌, ◌/◌, ◌^◌, ◌<◌, ◌≤◌, ◌⊎◌, ◌==◌, if◌then◌else◌, Bool, true, IsTrue, List, [], ◌∷◌, ◌++◌, length, drop, slice_index}
use Rattle.sg_words.specs.Counts.{times_in, bit_in}
use Rattle.sg_layout.specs.declared.shape.Kind.TheVariants.{Dense, Bitmasked, Pointer, Hash, Dynamic}
use Rattle.sg_layout.specs.declared.shape.NodeShape.{NodeShape}
use Rattle.sg_layout.specs.declared.shape.Shape.{Shape}
use Rattle.sg_layout.specs.Axes.{count_of, sizes_of}
use Rattle.sg_layout.specs.NeedLaws.{IsNumberedNode}
use Rattle.sg_layout.specs.Live.{kind_at}
use Rattle.sg_hash.specs.Tables.{IsTable, AreBeside}
use Rattle.sg_pool.specs.Numbers.{live_count, IsStock}
use Rattle.sg_store.specs.StoreWords.{StoreWords}
use Rattle.sg_store.specs.WellFormed.{AreNodes}
use Rattle.sg_store.specs.Opening.{link_words_of, keys_of, masks_of, pool_of}
use Rattle.sg_activate.specs.declared.descent.rule.Start.{Start}
use Rattle.sg_activate.specs.declared.descent.rule.SlotPart.{SlotPart}
use Rattle.sg_activate.specs.declared.descent.rule.MaskPart.{MaskPart}
use Rattle.sg_activate.specs.declared.descent.level.Level.{Level}
use Rattle.sg_activate.specs.declared.descent.plan.Plan.{Plan}
use Rattle.sg_activate.specs.TableParts.{places_in, first_of}
use Rattle.sg_activate.specs.DescentRace.{slots_each, limits_of, words_each, slot_part, mask_part, stock_at}
use Rattle.sg_activate.specs.Descending.{is_fused, is_pointer, is_mask, last_fused, open_before, number_among, part_at}
use Rattle.sg_activate.specs.steps.DescentParts.{AreHeads}
use Rattle.sg_activate.specs.steps.DescentWalk.{level_at, over_at, width_at, places_at}

-- how many pointer nodes a descent has: the race's number of what stands above all its nodes
abbrev pub pointers_of : Shape → ℕ
pointers_of shape = number_among is_pointer shape.nodes (suc (last_fused shape))

-- ---- what leads to a container
-- the links of a pointer node, or those above all nodes
abbrev pub links_in : ℕ → Start → ℕ → List ℕ
links_in total start l = if l == total then start.heads else part_at (slots_each start) start.links l

-- a link leads to the container
abbrev pub IsLinkedIn : ℕ → Start → ℕ → ℕ → Type 0
IsLinkedIn total start over number = 0 < times_in (number + 1) (links_in total start over)

-- what stands above: what stands above all nodes, or one of the pointer nodes so far
abbrev pub IsOver : ℕ → Start → ℕ → Type 0
IsOver total start over = (over ≡ total) ⊎ (over < length start.slot_parts)

-- ---- the parts so far
-- a pointer node's links and stock: links and numbers are within its places, and links stand in containers to which links lead
pub record IsSlotPart (total : ℕ) (start : Start) (part : SlotPart) (links stock : List ℕ) : Type 0 where
  pub few : part.slots ≤ 2 ^ 47
  pub places : part.places ≤ 2 ^ 32
  pub limit : part.limit ≤ 2 ^ 32
  pub small : (i : ℕ) → slice_index links i ≤ part.places
  pub numbers : (t : ℕ) → t < length stock → slice_index stock t < part.places
  pub over : IsOver total start part.over
  pub hang : (slot : ℕ) → 0 < slice_index links slot → IsLinkedIn total start part.over (slot / part.width)

-- a bitmasked node's masks: set bits stand in such containers
pub record IsMaskPart (total : ℕ) (start : Start) (part : MaskPart) (masks : List ℕ) : Type 0 where
  pub few : part.words ≤ 2 ^ 47
  pub over : IsOver total start part.over
  pub hang : (bit : ℕ) → 0 < bit_in masks bit → IsLinkedIn total start part.over (bit / part.width)

-- the parts cover the words
pub record ArePartsOf (total : ℕ) (start : Start) : Type 0 where
  pub slots : length start.links ≡ places_in (slots_each start)
  pub masks : length start.masks ≡ places_in (words_each start)
  pub stocks : length start.stock ≡ places_in (limits_of start)
  pub few : length start.slot_parts ≤ total
  pub from : (l : ℕ) → l < length start.slot_parts → (slot_part start l).stock ≡ first_of (limits_of start) l
  pub slot_parts : (l : ℕ) → l < length start.slot_parts → IsSlotPart total start (slot_part start l) (part_at (slots_each start) start.links l) (stock_at start l)
  pub mask_parts : (m : ℕ) → m < length start.mask_parts → IsMaskPart total start (mask_part start m) (part_at (words_each start) start.masks m)

-- ---- the levels so far
-- the level of a pointer node: its part has the store's links and stock, and is under as many places as the level
pub record IsSlotRow (store : StoreWords) (number : ℕ) (start : Start) (level : Level) (over width places : ℕ) : Type 0 where
  pub part : level.part ≡ number_among is_pointer store.shape.nodes number
  pub there : level.part < length start.slot_parts
  pub first : level.first ≡ first_of (slots_each start) level.part
  pub part_over : (slot_part start level.part).over ≡ over
  pub part_width : (slot_part start level.part).width ≡ width * level.size
  pub fits : places * level.size ≤ (slot_part start level.part).slots
  pub links : part_at (slots_each start) start.links level.part ≡ link_words_of store number
  pub stock : IsStock (pool_of store number) (stock_at start level.part)

-- and that of a bitmasked node
pub record IsMaskRow (store : StoreWords) (number : ℕ) (start : Start) (level : Level) (over width places : ℕ) : Type 0 where
  pub part : level.part ≡ number_among is_mask store.shape.nodes number
  pub there : level.part < length start.mask_parts
  pub first : level.first ≡ first_of (words_each start) level.part * 64
  pub part_over : (mask_part start level.part).over ≡ over
  pub part_width : (mask_part start level.part).width ≡ width * level.size
  pub fits : places * level.size ≤ (mask_part start level.part).words * 64
  pub masks : part_at (words_each start) start.masks level.part ≡ masks_of store number

-- a level is that of a node with this number
pub record IsRow (store : StoreWords) (number : ℕ) (start : Start) (level : Level) (over width places : ℕ) : Type 0 where
  pub there : number ≤ length store.shape.nodes
  pub kind : level.kind ≡ kind_at store.shape.nodes number
  pub size : level.size ≡ slice_index (sizes_of store.shape.nodes) (number - 1)
  pub not_hash : level.kind ≢ Hash
  pub not_dynamic : level.kind ≢ Dynamic
  pub small : places * level.size ≤ 2 ^ 47
  pub slots : level.kind ≡ Pointer → IsSlotRow store number start level over width places
  pub masks : level.kind ≡ Bitmasked → IsMaskRow store number start level over width places
  pub some : is_fused level.kind ≡ true → 0 < length start.links + length start.masks

-- ---- the plan
-- the nodes of a store from one on stand under so many places, and to each live one of these a link leads
pub record StandsNext (store : StoreWords) (index total : ℕ) (start : Start) (over width places : ℕ) : Type 0 where
  pub live : ℕ → Bool
  pub nodes : AreNodes (drop index store.shape.nodes) (drop index store.nodes) places live
  pub linked : (place : ℕ) → IsTrue (live place) → IsLinkedIn total start over (place / width)

-- so many nodes are planned, from the root or the node below the hash node on
pub record IsPlan (store : StoreWords) (start : Start) (levels : List Level) (over width : ℕ) : Type 0 where
  pub shape : start.layout ≡ store.shape
  pub heads : AreHeads start (open_before store.shape)
  pub keyed : kind_at store.shape.nodes 1 ≡ Hash → (start.keys ≡ keys_of store 1) × (start.heads ≡ link_words_of store 1)
  pub parts : ArePartsOf (pointers_of store.shape) start
  pub slot_count : length start.slot_parts ≡ number_among is_pointer store.shape.nodes (suc (open_before store.shape + length levels))
  pub mask_count : length start.mask_parts ≡ number_among is_mask store.shape.nodes (suc (open_before store.shape + length levels))
  pub rows : (k : ℕ) → k < length levels → IsRow store (suc (open_before store.shape + k)) start (level_at levels k)
      (over_at (pointers_of store.shape) levels k) (width_at 1 levels k) (places_at start start.head_places levels k)
  pub over_is : over ≡ over_at (pointers_of store.shape) levels (length levels)
  pub width_is : width ≡ width_at 1 levels (length levels)
  pub stands : IsOver (pointers_of store.shape) start over
  pub wide : width ≤ places_at start start.head_places levels (length levels)
  pub next : StandsNext store (open_before store.shape + length levels) (pointers_of store.shape) start over width (places_at start start.head_places levels (length levels))

abbrev pub IsPlanOf : StoreWords → Plan → Type 0
IsPlanOf store plan = IsPlan store plan.start plan.levels plan.over plan.width

-- ---- one node more, word for word
-- a start that keeps what stands above all nodes
pub record KeepsHeads (old new : Start) : Type 0 where
  pub layout : new.layout ≡ old.layout
  pub keys : new.keys ≡ old.keys
  pub heads : new.heads ≡ old.heads
  pub head_places : new.head_places ≡ old.head_places

-- the links and the stock of a pointer node follow
pub record AddsSlots (store : StoreWords) (number size : ℕ) (old new : Plan) : Type 0 where
  pub links : List ℕ
  pub stock : List ℕ
  pub places : ℕ
  pub is_links : links ≡ link_words_of store number
  pub some : 0 < length links
  pub is_stock : IsStock (pool_of store number) stock
  pub rest : (shape : NodeShape) → IsNumberedNode store.shape number shape → length stock + live_count (pool_of store number) ≡ count_of shape.cap + 17
  pub is_places : (shape : NodeShape) → IsNumberedNode store.shape number shape → places ≡ count_of shape.cap + 17
  pub few : places ≤ 2 ^ 32
  pub keeps : KeepsHeads old.start new.start
  pub masks : new.start.masks ≡ old.start.masks
  pub mask_parts : new.start.mask_parts ≡ old.start.mask_parts
  pub new_links : new.start.links ≡ old.start.links ++ links
  pub new_stock : new.start.stock ≡ old.start.stock ++ stock
  pub slot_parts : new.start.slot_parts ≡ old.start.slot_parts ++
      record { slots = length links; places = places; limit = length stock; stock = length old.start.stock; over = old.over; width = old.width * size } ∷ []
  pub levels : new.levels ≡ old.levels ++ record { kind = Pointer; size = size; part = length old.start.slot_parts; first = length old.start.links } ∷ []
  pub over : new.over ≡ length old.start.slot_parts
  pub width : new.width ≡ 1

-- the masks of a bitmasked node follow
pub record AddsMasks (store : StoreWords) (number size : ℕ) (old new : Plan) : Type 0 where
  pub masks : List ℕ
  pub is_masks : masks ≡ masks_of store number
  pub some : 0 < length masks
  pub keeps : KeepsHeads old.start new.start
  pub links : new.start.links ≡ old.start.links
  pub stock : new.start.stock ≡ old.start.stock
  pub slot_parts : new.start.slot_parts ≡ old.start.slot_parts
  pub new_masks : new.start.masks ≡ old.start.masks ++ masks
  pub mask_parts : new.start.mask_parts ≡ old.start.mask_parts ++ record { words = length masks; over = old.over; width = old.width * size } ∷ []
  pub levels : new.levels ≡ old.levels ++ record { kind = Bitmasked; size = size; part = length old.start.mask_parts; first = length old.start.masks * 64 } ∷ []
  pub over : new.over ≡ old.over
  pub width : new.width ≡ old.width * size

-- a dense node follows, without a word
pub record AddsDense (size : ℕ) (old new : Plan) : Type 0 where
  pub start : new.start ≡ old.start
  pub levels : new.levels ≡ old.levels ++ record { kind = Dense; size = size; part = 0; first = 0 } ∷ []
  pub over : new.over ≡ old.over
  pub width : new.width ≡ old.width * size

-- ---- what stands above all nodes
-- under a root node one link leads to the one place; under a hash node its links lead to the places of its containers
pub record IsHeads (store : StoreWords) (keys links : List ℕ) (places : ℕ) : Type 0 where
  pub root : open_before store.shape ≡ 0 → (links ≡ 1 ∷ []) × (places ≡ 1)
  pub keyed : open_before store.shape ≡ 1 → (keys ≡ keys_of store 1) × (links ≡ link_words_of store 1) × (0 < length keys) × IsTable keys × AreBeside keys links
  pub many : open_before store.shape ≡ 1 → (shape : NodeShape) → IsNumberedNode store.shape 1 shape → places ≡ count_of shape.cap + 17
