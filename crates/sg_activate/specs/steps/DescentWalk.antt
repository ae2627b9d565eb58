-- The walk of a seat down the nodes below the root or the hash node: what it knows of a coordinate's slots, and in which containers these stand.
use Rattle.std.specs.Prelude.{◌≡◌, ℕ, zero, suc, ◌+◌, ◌*◌, ◌<◌, ◌≤◌, List, [], ◌∷◌, length, slice_index, slice_index_or}
use Rattle.sg_words.specs.declared.race.Worker.{Worker}
use Rattle.sg_words.specs.Counts.{pairs}
use Rattle.sg_layout.specs.declared.shape.Kind.{Kind}
use Rattle.sg_layout.specs.declared.shape.Kind.TheVariants.{Dense, Bitmasked, Pointer, Hash, Dynamic}
use Rattle.sg_layout.specs.declared.shape.NodeShape.{NodeShape}
use Rattle.sg_layout.specs.Axes.{size_of, sizes_of}
use Rattle.sg_layout.specs.Live.{kind_at}
use Rattle.sg_activate.specs.declared.descent.rule.Start.{Start}
use Rattle.sg_activate.specs.declared.descent.level.Level.{Level}
use Rattle.sg_activate.specs.TableParts.{first_of}
use Rattle.sg_activate.specs.DescentRace.{slots_each, words_each, slot_part, mask_part}
use Rattle.sg_activate.specs.Descending.{pointer_number, mask_number}

abbrev pub no_level : Level
no_level = record { kind = Dense; size = 1; part = 0; first = 0 }

abbrev pub level_at : List Level → ℕ → Level
level_at levels k = slice_index_or levels k no_level

-- ---- levels and nodes
-- a level is that of a node with this number: its kind and size, and its part of the table
pub record IsLevelOf (start : Start) (number : ℕ) (node : NodeShape) (level : Level) : Type 0 where
  pub kind : level.kind ≡ node.kind
  pub size : level.size ≡ size_of node.sizes
  pub pointer : node.kind ≡ Pointer → (level.part ≡ pointer_number start number) × (level.first ≡ first_of (slots_each start) (pointer_number start number))
  pub masked : node.kind ≡ Bitmasked → (level.part ≡ mask_number start number) × (level.first ≡ first_of (words_each start) (mask_number start number) * 64)

-- levels are those of nodes from this number on
abbrev pub AreLevelsOf : Start → ℕ → List NodeShape → List Level → Type 0
AreLevelsOf start number nodes [] = Unit {0}
AreLevelsOf start number [] (level ∷ levels) = ⊥
AreLevelsOf start number (node ∷ nodes) (level ∷ levels) = IsLevelOf start number node level × AreLevelsOf start (suc number) nodes levels

-- level k is that of its node, counted from the root or from the node below the hash node
pub record IsLevelAt (start : Start) (base : ℕ) (levels : List Level) (k : ℕ) : Type 0 where
  pub there : base + k < length start.layout.nodes
  pub kind : (level_at levels k).kind ≡ kind_at start.layout.nodes (suc (base + k))
  pub size : (level_at levels k).size ≡ slice_index (sizes_of start.layout.nodes) (base + k)
  pub pointer : (level_at levels k).kind ≡ Pointer → ((level_at levels k).part ≡ pointer_number start (suc (base + k))) × ((level_at levels k).first ≡ first_of (slots_each start) (pointer_number start (suc (base + k))))
  pub masked : (level_at levels k).kind ≡ Bitmasked → ((level_at levels k).part ≡ mask_number start (suc (base + k))) × ((level_at levels k).first ≡ first_of (words_each start) (mask_number start (suc (base + k))) * 64)

-- ---- what stands above a level
-- by which number the race knows the node whose containers hold a level's slots, and how many places one container has above the level
abbrev pub over_past : Kind → ℕ → ℕ → ℕ
over_past Dense part over = over
over_past Bitmasked part over = over
over_past Pointer part over = part
over_past Hash part over = over
over_past Dynamic part over = over

abbrev pub over_at : ℕ → List Level → ℕ → ℕ
over_at over levels zero = over
over_at over [] (suc k) = over
over_at over (level ∷ later) (suc k) = over_at (over_past level.kind level.part over) later k

abbrev pub width_past : Kind → ℕ → ℕ → ℕ
width_past Dense size width = width * size
width_past Bitmasked size width = width * size
width_past Pointer size width = 1
width_past Hash size width = 1
width_past Dynamic size width = 1

abbrev pub width_at : ℕ → List Level → ℕ → ℕ
width_at width levels zero = width
width_at width [] (suc k) = width
width_at width (level ∷ later) (suc k) = width_at (width_past level.kind level.size width) later k

-- how many places there are above a level
abbrev pub places_past : Start → Kind → ℕ → ℕ → ℕ → ℕ
places_past start Dense part size places = places * size
places_past start Bitmasked part size places = places * size
places_past start Pointer part size places = (slot_part start part).places
places_past start Hash part size places = places
places_past start Dynamic part size places = places

abbrev pub places_at : Start → ℕ → List Level → ℕ → ℕ
places_at start places levels zero = places
places_at start places [] (suc k) = places
places_at start places (level ∷ later) (suc k) = places_at start (places_past start level.kind level.part level.size places) later k

-- ---- what a seat knows
-- how a slot of a level leads on: as itself, or by a link that the seat has seen
abbrev pub StepsDown : Worker → Kind → ℕ → ℕ → ℕ → Type 0
StepsDown v Dense first slot next = next ≡ slot
StepsDown v Bitmasked first slot next = next ≡ slot
StepsDown v Pointer first slot next = 0 < pairs (first + slot) next v.seen
StepsDown v Hash first slot next = ⊥
StepsDown v Dynamic first slot next = ⊥

-- the seat knows that so many levels lead from a place over offsets to another
abbrev pub Leads : Worker → List Level → ℕ → List ℕ → ℕ → ℕ → Type 0
Leads v levels place offsets zero end = place ≡ end
Leads v [] place offsets (suc k) end = ⊥
Leads v (level ∷ later) place [] (suc k) end = ⊥
Leads v (level ∷ later) place (offset ∷ offsets) (suc k) end =
    (next : ℕ) × StepsDown v level.kind level.first (place * level.size + offset) next × Leads v later next offsets k end

-- it knows the number of the slot of these offsets at a level
pub record KnowsLevelSlot (v : Worker) (levels : List Level) (from : ℕ) (offsets : List ℕ) (k slot : ℕ) : Type 0 where
  pub place : ℕ
  pub leads : Leads v levels from offsets k place
  pub is_slot : slot ≡ place * (level_at levels k).size + slice_index offsets k

-- ---- levels and the parts of the table
-- level k is part of the table: it has its range there, the container of its slots is known by its number, and that many slots are in one
pub record IsSlotLevel (start : Start) (levels : List Level) (k : ℕ) : Type 0 where
  pub part : (level_at levels k).part < length start.slot_parts
  pub first : (level_at levels k).first ≡ first_of (slots_each start) (level_at levels k).part
  pub over : (slot_part start (level_at levels k).part).over ≡ over_at (length start.slot_parts) levels k
  pub width : (slot_part start (level_at levels k).part).width ≡ width_at 1 levels k * (level_at levels k).size
  pub fits : places_at start start.head_places levels k * (level_at levels k).size ≤ (slot_part start (level_at levels k).part).slots

pub record IsMaskLevel (start : Start) (levels : List Level) (k : ℕ) : Type 0 where
  pub part : (level_at levels k).part < length start.mask_parts
  pub first : (level_at levels k).first ≡ first_of (words_each start) (level_at levels k).part * 64
  pub over : (mask_part start (level_at levels k).part).over ≡ over_at (length start.slot_parts) levels k
  pub width : (mask_part start (level_at levels k).part).width ≡ width_at 1 levels k * (level_at levels k).size
  pub fits : places_at start start.head_places levels k * (level_at levels k).size ≤ (mask_part start (level_at levels k).part).words * 64
