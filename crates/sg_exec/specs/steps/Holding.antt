-- What place registers hold, as words: one for the layout and the node together, which is 0 where nothing is held, and those of the spot.
use Rattle.std.specs.Prelude.{◌≡◌, ◌≢◌, ◌==◌, ◌+◌, ◌-◌, ◌*◌, ◌/◌, ◌%◌, ◌<◌, ◌≤◌, ◌^◌, ℕ, List, [], ◌∷◌, get_or, drop, slice_get, IfSome, Option, None, Some, if◌then◌else◌}
use Rattle.sg_store.specs.declared.spot.Spot.{Spot}
use Rattle.sg_store.specs.StoreWords.{StoreWords}
use Rattle.sg_store.specs.Spots.{LeadsAlong, IsSpot}
use Rattle.sg_store.specs.DenseNodes.{spot_over}
use Rattle.sg_exec.specs.declared.lanes.held.Held.{Held}
use Rattle.sg_exec.specs.declared.lanes.held_row.HeldRow.{HeldRow}
use Rattle.sg_exec.specs.declared.lanes.held_steps.Step.{Step}
use Rattle.sg_exec.specs.steps.Stepping.{StepLeads, StepIsDead}
use Rattle.sg_exec.specs.steps.Machines.{IsHeld, StepsDown}

-- what three words stand for: one more than eight times the layout and the node, and the spot's part and slot
abbrev pub held_of : ℕ → ℕ → ℕ → Option Held
held_of kind part slot = if kind == 0 then None else Some (record { layout = (kind - 1) / 8; spot = record { node = (kind - 1) % 8; part = part; slot = slot } })

-- the same of a row in a column
abbrev pub held_at : HeldRow → ℕ → Option Held
held_at row k = held_of (get_or row.kinds k 0) (get_or row.parts k 0) (get_or row.slots k 0)

-- the same of each place in three lists
abbrev pub held_rows : List ℕ → List ℕ → List ℕ → List (Option Held)
held_rows [] parts slots = []
held_rows (kind ∷ kinds) parts slots = held_of kind (get_or parts 0 0) (get_or slots 0 0) ∷ held_rows kinds (drop 1 parts) (drop 1 slots)

-- the number of the layout fits a word together with a node's
abbrev pub HasLayoutWord : Held → Type 0
HasLayoutWord held = held.layout < 2 ^ 29

-- the numbers of the layout and the node fit one word
pub record FitsWord (held : Held) : Type 0 where
  pub layout : HasLayoutWord held
  pub node : held.spot.node < 7

-- a word is 0 or another
abbrev pub IsOneOf : ℕ → ℕ → Type 0
IsOneOf word one = word ≢ 0 → word ≡ one

-- each spot of a row is one of a store
abbrev pub AreHeldAt : List StoreWords → HeldRow → Type 0
AreHeldAt stores row = (k : ℕ) → k < 32 → IfSome (held_at row k) (IsHeld stores)

-- a step that was taken leads from what is held to what is held below
abbrev pub IsStep : List StoreWords → ℕ → Step → Type 0
IsStep stores node step =
    StepsDown stores node step.offset (held_of step.from.kind step.from.part step.from.slot) (held_of step.below.kind step.below.part step.below.slot)

-- ---- steps over dense nodes

-- before a node of a store, which is dense and of a size, a step over an offset leads on within the copy, or is past the size
pub record StepsWithin (store : StoreWords) (above node size : ℕ) : Type 0 where
  pub few : above < 6
  pub room : (spot : Spot) → spot.node ≡ above → IsSpot store spot → spot.slot * size + size ≤ 2 ^ 30
  pub leads : (spot : Spot) (path : List ℕ) (offset : ℕ) → spot.node ≡ above → LeadsAlong store spot path → offset < size → StepLeads store (spot_over spot size offset) node path offset
  pub past : (spot : Spot) (path : List ℕ) (offset : ℕ) → spot.node ≡ above → LeadsAlong store spot path → size ≤ offset → StepIsDead store node path offset

-- the same of the layout and the node that a word names
pub record IsDenseStep (stores : List StoreWords) (one node size : ℕ) : Type 0 where
  pub some : 1 ≤ one
  pub store : StoreWords
  pub there : slice_get stores ((one - 1) / 8) ≡ Some store
  pub steps : StepsWithin store ((one - 1) % 8) node size
