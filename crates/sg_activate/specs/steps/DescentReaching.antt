-- What a seat knows of the slots of a coordinate, given by its offsets from a place on, after one level and after all.
use Rattle.std.specs.Prelude.{◌≡◌, ℕ, zero, suc, ◌+◌, ◌/◌, ◌<◌, ◌⊎◌, true, List, length, drop, Option, Some, None, unwrap_or, slice_index}
use Rattle.sg_words.specs.declared.race.Worker.{Worker}
use Rattle.sg_words.specs.Counts.{pairs, firsts, times_in}
use Rattle.sg_words.specs.RaceMachine.{KnowsContainer}
use Rattle.sg_coord.specs.declared.coord.Coord.{Coord}
use Rattle.sg_layout.specs.declared.shape.Kind.{Kind}
use Rattle.sg_layout.specs.declared.shape.Kind.TheVariants.{Dense, Bitmasked, Pointer, Hash, Dynamic}
use Rattle.sg_layout.specs.Path.{offsets}
use Rattle.sg_hash.specs.Tables.{beside}
use Rattle.sg_activate.specs.declared.descent.rule.Start.{Start}
use Rattle.sg_activate.specs.declared.descent.level.Level.{Level}
use Rattle.sg_activate.specs.DescentRace.{was_live, setting_of}
use Rattle.sg_activate.specs.steps.DescentWalk.{level_at, over_at, width_at, places_at, Leads, KnowsLevelSlot}

-- the offsets of a coordinate below the root or the hash node
abbrev pub offsets_below : Start → ℕ → Coord → List ℕ
offsets_below start base at = drop base (offsets start.layout.nodes at)

-- the seat has seen a number in the slot, or marked the bit
abbrev pub HasOpenedLevel : Worker → Kind → ℕ → Type 0
HasOpenedLevel v Dense i = Unit {0}
HasOpenedLevel v Bitmasked i = 0 < times_in i v.marked
HasOpenedLevel v Pointer i = (n : ℕ) × (0 < pairs i n v.seen)
HasOpenedLevel v Hash i = Unit {0}
HasOpenedLevel v Dynamic i = Unit {0}

-- the coordinate's slot at a level is open
pub record IsOpenAt (v : Worker) (levels : List Level) (from : ℕ) (offsets : List ℕ) (k : ℕ) : Type 0 where
  pub slot : ℕ
  pub knows : KnowsLevelSlot v levels from offsets k slot
  pub opened : HasOpenedLevel v (level_at levels k).kind ((level_at levels k).first + slot)

-- so at all levels above one
abbrev pub IsOpenAbove : Worker → List Level → ℕ → List ℕ → ℕ → Type 0
IsOpenAbove v levels from offsets k = (above : ℕ) → above < k → IsOpenAt v levels from offsets above

-- the coordinate's slot at a pointer level was found empty, and the seat holds a ticket past the stock
pub record IsMissedAt (v : Worker) (levels : List Level) (from : ℕ) (offsets : List ℕ) (k : ℕ) : Type 0 where
  pub there : k < length levels
  pub pointer : (level_at levels k).kind ≡ Pointer
  pub slot : ℕ
  pub knows : KnowsLevelSlot v levels from offsets k slot
  pub missed : 0 < times_in ((level_at levels k).first + slot) v.missed
  pub past : 0 < firsts (level_at levels k).part v.past

-- what a walk leaves that came to its end, and one that stopped at a level
abbrev pub IsWalked : Worker → List Level → ℕ → List ℕ → Option ℕ → Type 0
IsWalked v levels from offsets None = IsOpenAbove v levels from offsets (length levels)
IsWalked v levels from offsets (Some k) = IsOpenAbove v levels from offsets k × IsMissedAt v levels from offsets k

-- where a seat stands in its walk: at a place before level k, whose container it knows
pub record StandsAt (start : Start) (v : Worker) (levels : List Level) (from : ℕ) (offsets : List ℕ) (k place : ℕ) : Type 0 where
  pub leads : Leads v levels from offsets k place
  pub within : place < places_at start start.head_places levels k
  pub known : KnowsContainer (setting_of start) v (over_at (length start.slot_parts) levels k, place / width_at 1 levels k)

-- where a coordinate's walk begins: at the root, or in the container of its key
abbrev pub place_from : Start → ℕ → Coord → ℕ
place_from start zero at = 0
place_from start (suc base) at = unwrap_or (beside start.keys start.heads (slice_index (offsets start.layout.nodes at) 0)) 0

-- its key, if there is one, has a link, and the container was live at the start
pub record BeginsAt (start : Start) (base : ℕ) (at : Coord) : Type 0 where
  pub keyed : base ≡ 1 → beside start.keys start.heads (slice_index (offsets start.layout.nodes at) 0) ≡ Some (place_from start base at)
  pub within : place_from start base at < start.head_places
  pub live : was_live start (length start.slot_parts, place_from start base at) ≡ true

-- ---- what was made and marked
-- a slot, a bit of the table is that of these offsets at some level
pub record IsLevelSlot (v : Worker) (levels : List Level) (from : ℕ) (offsets : List ℕ) (i : ℕ) : Type 0 where
  pub k : ℕ
  pub there : k < length levels
  pub pointer : (level_at levels k).kind ≡ Pointer
  pub slot : ℕ
  pub knows : KnowsLevelSlot v levels from offsets k slot
  pub is : i ≡ (level_at levels k).first + slot

pub record IsLevelBit (v : Worker) (levels : List Level) (from : ℕ) (offsets : List ℕ) (b : ℕ) : Type 0 where
  pub k : ℕ
  pub there : k < length levels
  pub masked : (level_at levels k).kind ≡ Bitmasked
  pub slot : ℕ
  pub knows : KnowsLevelSlot v levels from offsets k slot
  pub is : b ≡ (level_at levels k).first + slot

-- whatever was made and marked since is at some level
pub record GrewBy (levels : List Level) (from : ℕ) (offsets : List ℕ) (v w : Worker) : Type 0 where
  pub made : (i t : ℕ) → 0 < pairs i t w.made → (0 < pairs i t v.made) ⊎ IsLevelSlot w levels from offsets i
  pub marked : (b : ℕ) → 0 < times_in b w.marked → (0 < times_in b v.marked) ⊎ IsLevelBit w levels from offsets b
