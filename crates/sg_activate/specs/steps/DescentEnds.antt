-- The end of a descent: what the closed table gives the last worker, and a store that has got the words of the first nodes.
use Rattle.std.specs.Prelude.{◌≡◌, ◌≢◌, ℕ, suc, ◌+◌, ◌-◌, ◌<◌, ◌≤◌, List, [], ◌++◌, length, slice_get, slice_index, slice_index_or}
use mathlib.Core.Option.{some}
use lib.ListN.{get_elem?}
use Rattle.sg_words.specs.declared.race.Worker.{Worker}
use Rattle.sg_words.specs.RaceMachine.{Race}
use Rattle.sg_words.specs.RaceInvariant.{MeetsRaceInvariant, handed_share}
use Rattle.sg_coord.specs.declared.coord.Coord.{Coord}
use Rattle.sg_layout.specs.declared.shape.Kind.TheVariants.{Pointer, Bitmasked, Hash, Dynamic}
use Rattle.sg_layout.specs.declared.shape.NodeShape.{NodeShape}
use Rattle.sg_layout.specs.Axes.{count_of}
use Rattle.sg_layout.specs.Live.{kind_at}
use Rattle.sg_layout.specs.NeedLaws.{IsNumberedNode}
use Rattle.sg_layout.specs.PathLaws.{PathIsSlot}
use Rattle.sg_words.specs.Stocks.{taken_of}
use Rattle.sg_store.specs.StoreWords.{StoreWords}
use Rattle.sg_store.specs.WellFormed.{IsWellFormed}
use Rattle.sg_store.specs.Reaching.{KeepsCells, IsOpenThrough}
use Rattle.sg_store.specs.Opening.{link_words_of, masks_of}
use Rattle.sg_store.specs.OpeningLaws.{HashIsFirst, DenseOpens}
use Rattle.sg_activate.specs.declared.fault.ActFault.{ActFault}
use Rattle.sg_activate.specs.declared.fault.ActFault.TheVariants.{PoolFull}
use Rattle.sg_activate.specs.declared.descent.rule.Start.{Start}
use Rattle.sg_activate.specs.declared.descent.level.Level.{Level}
use Rattle.sg_activate.specs.DescentRace.{setting_of, slots_each, words_each, limits_of}
use Rattle.sg_activate.specs.Descending.{open_before, last_fused, pointer_number, mask_number, part_at, IsStartOf, FitsSeat, StaysAt}
use Rattle.sg_activate.specs.Descents.{AreInside}
use Rattle.sg_activate.specs.steps.DescentParts.{IsLaidOut}
use Rattle.sg_activate.specs.steps.DescentWalk.{level_at, IsLevelAt}

-- the race at its end
abbrev pub race_at_end : List ℕ → List ℕ → List ℕ → List Worker → Race
race_at_end links masks counts views = record { slots = links; keys = []; masks = masks; lengths = []; cells = []; counts = counts; workers = views }

-- the slots and the masks are those of a race in which the worker has all shares
pub record HasEnded (start : Start) (v : Worker) (links masks : List ℕ) : Type 0 where
  pub counts : List ℕ
  pub views : List Worker
  pub id : ℕ
  pub kept : MeetsRaceInvariant (setting_of start) (race_at_end links masks counts views)
  pub stands : get_elem? views id ≡ some v
  pub all : handed_share v ≡ 16

-- and what it made is inside
pub record IsGathered (start : Start) (links masks : List ℕ) (v : Worker) : Type 0 where
  pub inside : AreInside start v
  pub ended : HasEnded start v links masks

-- the levels of a descent are the nodes below the root, or below the hash node, down to the last one with links or bits
pub record AreLevels (start : Start) (base : ℕ) (levels : List Level) : Type 0 where
  pub laid : IsLaidOut start
  pub based : base ≡ open_before start.layout
  pub through : base + length levels ≡ last_fused start.layout
  pub within : base + length levels ≤ length start.layout.nodes
  pub each : (k : ℕ) → k < length levels → IsLevelAt start base levels k
  pub kinds : (k : ℕ) → k < length levels → ((level_at levels k).kind ≢ Hash) × ((level_at levels k).kind ≢ Dynamic)
  pub slot_parts : (k : ℕ) → k < length levels → (level_at levels k).kind ≡ Pointer → (level_at levels k).part < length start.slot_parts
  pub mask_parts : (k : ℕ) → k < length levels → (level_at levels k).kind ≡ Bitmasked → (level_at levels k).part < length start.mask_parts

-- ---- the words of one node, numbered from 1, in the words of the table
abbrev pub slots_of_node : Start → ℕ → List ℕ → List ℕ
slots_of_node start number words = part_at (slots_each start) words (pointer_number start number)

abbrev pub masks_of_node : Start → ℕ → List ℕ → List ℕ
masks_of_node start number words = part_at (words_each start) words (mask_number start number)

-- the numbers of its new links
abbrev pub taken_at_node : Start → List ℕ → ℕ → List ℕ
taken_at_node start links number = taken_of (slots_of_node start number start.links) (slots_of_node start number links)

-- with these as many containers are live as the cap at most: the stock had 17 more numbers than the cap left
abbrev pub FitsNode : Start → List ℕ → ℕ → Type 0
FitsNode start links number =
    kind_at start.layout.nodes number ≡ Pointer → length (taken_at_node start links number) + 17 ≤ slice_index (limits_of start) (pointer_number start number)

-- so at the nodes of the first levels
abbrev pub AllFit : Start → ℕ → List ℕ → ℕ → Type 0
AllFit start base links k = (number : ℕ) → base < number → number ≤ base + k → FitsNode start links number

-- ---- a store with the words of the first levels
pub record HasGot (start : Start) (base : ℕ) (v : Worker) (links masks : List ℕ) (store now : StoreWords) (k : ℕ) : Type 0 where
  pub well_formed : IsWellFormed now
  pub keeps : KeepsCells store now
  pub stays : StaysAt store now
  pub got : (number : ℕ) → base < number → number ≤ base + k → kind_at store.shape.nodes number ≡ Pointer → link_words_of now number ≡ slots_of_node start number links
  pub marked : (number : ℕ) → base < number → number ≤ base + k → kind_at store.shape.nodes number ≡ Bitmasked → masks_of now number ≡ masks_of_node start number masks
  pub above : (number : ℕ) → 1 ≤ number → number ≤ base → slice_get now.nodes (number - 1) ≡ slice_get store.nodes (number - 1)
  pub below : (number : ℕ) → base + k < number → slice_get now.nodes (number - 1) ≡ slice_get store.nodes (number - 1)
  pub opened : (old wanted : List Coord) → FitsSeat start v wanted → IsOpenThrough store old (old ++ wanted) (open_before store.shape)
      → IsOpenThrough now old (old ++ wanted) (base + k)

-- ---- what a descent ends with: its levels, what the seat made is inside, the table at its end, and the store with which it started
pub record IsEnding (start : Start) (base : ℕ) (levels : List Level) (v : Worker) (links masks : List ℕ) (store : StoreWords) : Type 0 where
  pub levels_are : AreLevels start base levels
  pub inside : AreInside start v
  pub ended : HasEnded start v links masks
  pub given : IsStartOf start store
  pub well_formed : IsWellFormed store
  pub paths : PathIsSlot store.shape
  pub hash_first : HashIsFirst store
  pub dense : (any : StoreWords) → DenseOpens any

-- a store that has got the words of the first levels, of some such end at which all numbers fit
pub record CanGoOn (start : Start) (base : ℕ) (levels : List Level) (links masks : List ℕ) (now : StoreWords) (k : ℕ) : Type 0 where
  pub v : Worker
  pub store : StoreWords
  pub ending : IsEnding start base levels v links masks store
  pub got : HasGot start base v links masks store now k
  pub fit : AllFit start base links (length levels)

-- whatever that end is: where it had got the first words, it has got those of one level more
abbrev pub GoesOn : Start → ℕ → List Level → List ℕ → List ℕ → StoreWords → ℕ → StoreWords → ℕ → Type 0
GoesOn start base levels links masks old k now more =
    (v : Worker) (store : StoreWords) → IsEnding start base levels v links masks store → HasGot start base v links masks store old k → HasGot start base v links masks store now more

-- ---- the numbers of the new links, level after level
-- at a pointer level they are those of its node, and fit; at others there are none
pub record IsTaken (start : Start) (base : ℕ) (levels : List Level) (links : List ℕ) (k : ℕ) (taken : List ℕ) : Type 0 where
  pub numbers : (level_at levels k).kind ≡ Pointer → taken ≡ taken_at_node start links (suc (base + k))
  pub fit : FitsNode start links (suc (base + k))

abbrev pub AreTaken : Start → ℕ → List Level → List ℕ → List (List ℕ) → Type 0
AreTaken start base levels links taken = (k : ℕ) → k < length taken → IsTaken start base levels links k (slice_index_or taken k [])

-- the fault names a pointer level at which they don't fit
pub record IsOverFull (start : Start) (base : ℕ) (levels : List Level) (links : List ℕ) (k : ℕ) (fault : ActFault) : Type 0 where
  pub there : k < length levels
  pub pointer : kind_at start.layout.nodes (suc (base + k)) ≡ Pointer
  pub past : slice_index (limits_of start) (pointer_number start (suc (base + k))) < length (taken_at_node start links (suc (base + k))) + 17
  pub cap : ℕ
  pub cap_is : (node : NodeShape) → IsNumberedNode start.layout (suc (base + k)) node → cap ≡ count_of node.cap
  pub named : fault ≡ PoolFull (suc (base + k)) cap

-- the first one
pub record IsFirstOverFull (start : Start) (base : ℕ) (levels : List Level) (links : List ℕ) (fault : ActFault) : Type 0 where
  pub k : ℕ
  pub before : AllFit start base links k
  pub over : IsOverFull start base levels links k fault
