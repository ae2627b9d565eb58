-- The turns of a run, and what they want in each layout.
use Rattle.std.specs.Prelude.{◌≡◌, ◌⊎◌, ℕ, suc, ◌+◌, ◌<◌, Bool, ◌&&◌, List, [], ◌∷◌, map, filter, ◌==◌, length, All, Contains, Some, Option, None, IsSome, IsTrue, Result, Ok, Err, slice_get}
use Rattle.std.specs.List.{AllZip}
use Rattle.sg_words.specs.declared.memory.Stop.{Stop}
use Rattle.sg_words.specs.declared.memory.Stop.TheVariants as stop
use Rattle.sg_coord.specs.declared.coord.Coord.{Coord}
use Rattle.sg_coord.specs.Bounds.{Bounds}
use Rattle.sg_coord.specs.Coord.{is_inside}
use Rattle.sg_layout.specs.Axes.{bounds_of_shape}
use Rattle.sg_flat.specs.declared.effects.Write.{Write}
use Rattle.sg_flat.specs.declared.effects.Turn.{Turn}
use Rattle.sg_flat.specs.declared.effects.RunFault.{RunFault}
use Rattle.sg_flat.specs.declared.effects.RunFault.TheVariants as fault
use Rattle.sg_flat.specs.declared.state.FlatLayout.{FlatLayout}
use Rattle.sg_flat.specs.declared.state.FlatState.{FlatState}
use Rattle.sg_flat.specs.Effects.{writes_of}
use Rattle.sg_flat.specs.Kernel.{first_outside}
use Rattle.sg_store.specs.StoreWords.{StoreWords}
use Rattle.sg_store.specs.StandsFor.{StandsFor}
use Rattle.sg_activate.specs.declared.fault.ActFault.{ActFault}
use Rattle.sg_activate.specs.declared.fault.ActFault.TheVariants as full
use Rattle.sg_ir.specs.declared.code.Inst.{Inst}
use Rattle.sg_ir.specs.Runs.{Seen, Moved, CodeWant, does, runs}
use Rattle.sg_ir.specs.Touches.{layouts_wanted}
use Rattle.sg_exec.specs.declared.activation.ahead.Ahead.{Ahead}
use Rattle.sg_exec.specs.declared.lanes.batch.Batch.{Batch}
use Rattle.sg_exec.specs.declared.activation.turns.Turns.{Turns}
use Rattle.sg_exec.specs.declared.activation.turns.Turns.TheVariants.{Slice, Rows}
use Rattle.sg_exec.specs.Running.{turn_of}
use Rattle.sg_exec.specs.Standing.{shapes_of}
use Rattle.sg_exec.specs.steps.Machines.{Sees, cell_there}
use Rattle.sg_exec.specs.steps.Moments.{AreNamedAt, IsOver, Iterated, slice_turn}
use Rattle.sg_exec.specs.steps.Wants.{AreWants, AllReached}

-- how many turns there are
abbrev pub turn_count : Turns → ℕ
turn_count (Slice points block) = length points.now
turn_count (Rows rows) = length rows.now

-- the turns, where a slice sees this state
abbrev pub turns_in : List StoreWords → FlatState → Turns → List Turn
turns_in stores state (Slice points block) = map (slice_turn stores state block.now) points.now
turns_in stores state (Rows rows) = map turn_of rows.now

-- what a slice reads goes where its index registers say
abbrev pub AreNamedIn : List StoreWords → FlatState → Turns → Type 0
AreNamedIn stores state (Slice points block) = AreNamedAt stores state block.now points.now
AreNamedIn stores state (Rows rows) = Unit {0}

-- the wants so far in a layout
abbrev pub wants_for : ℕ → Moved → List CodeWant
wants_for layout now = filter (λ want. want.layout == layout) now.wants

-- an instruction wants nothing in a layout
abbrev pub InstWantsNone : ℕ → Inst → Type 0
InstWantsNone layout inst = (seen : Seen) (now : Moved) → wants_for layout (does seen inst now) ≡ wants_for layout now

-- a block wants nothing in a layout
abbrev pub BlockWantsNone : ℕ → List Inst → Type 0
BlockWantsNone layout block = (seen : Seen) (now : Moved) → wants_for layout (runs seen block now) ≡ wants_for layout now

-- an instruction wants nothing in any layout
abbrev pub InstSeeksNone : Inst → Type 0
InstSeeksNone inst = (layout : ℕ) → InstWantsNone layout inst

-- a block wants nothing in any layout
abbrev pub BlockSeeksNone : List Inst → Type 0
BlockSeeksNone block = (layout : ℕ) → BlockWantsNone layout block

-- turns want nothing in a layout
abbrev pub WantsNone : Turns → ℕ → Type 0
WantsNone (Slice points block) layout = BlockWantsNone layout block.now
WantsNone (Rows rows) layout = filter (λ row. row.layout == layout) rows.now ≡ []

-- turns may want something in a layout: a slice has an instruction that does
abbrev pub MayWant : Turns → ℕ → Type 0
MayWant (Slice points block) layout = Contains (layouts_wanted block.now) layout
MayWant (Rows rows) layout = Unit {0}

-- the coordinates of the writes into a layout that are inside its bounds
abbrev pub wanted_of : Bounds → ℕ → List Write → List Coord
wanted_of bounds layout writes =
    map (λ write. write.at) (filter (λ write. (write.layout == layout) && is_inside bounds write.at) writes)

-- the writes of a turn that may be there
abbrev pub writes_of_one : Option Turn → List Write
writes_of_one None = []
writes_of_one (Some turn) = turn.writes

-- the writes of the turn with this number
abbrev pub writes_of_turn : List Turn → ℕ → List Write
writes_of_turn turns number = writes_of_one (slice_get turns number)

-- the lists are what the turns want, one by one, where the stores see some state
pub record Means (stores : List StoreWords) (turns : Turns) (bounds : Bounds) (layout : ℕ) (list : ℕ → List Coord) : Type 0 where
  pub state : FlatState
  pub sees : Sees stores state
  pub named : AreNamedIn stores state turns
  pub lists : (number : ℕ) → number < turn_count turns → list number ≡ wanted_of bounds layout (writes_of_turn (turns_in stores state turns) number)

-- a block has run in a column at the point with a number
pub record IsColumnOf (stores : List StoreWords) (points : List Coord) (block : List Inst) (batch : Batch) (number column : ℕ) : Type 0 where
  pub few : column < 32
  pub ran : (state : FlatState) → Sees stores state → (at : Coord) → slice_get points number ≡ Some at → Iterated stores state at block batch column

-- it has at each of the points that count, from one number on
pub record HaveRun (stores : List StoreWords) (points : List Coord) (block : List Inst) (ahead : Ahead) : Type 0 where
  pub over : IsOver stores ahead.batch
  pub each : (k : ℕ) → k < ahead.count → IsColumnOf stores points block ahead.batch (ahead.first + k) k

-- iterations of turns that ran ahead
abbrev pub MayRun : List StoreWords → Turns → Ahead → Type 0
MayRun stores (Slice points block) ahead = HaveRun stores points.now block.now ahead
MayRun stores (Rows rows) ahead = Unit {0}

-- these are the coordinates that the turns want in the layout of a store, by its number
pub record IsMeant (stores : List StoreWords) (turns : Turns) (number : ℕ) (store : StoreWords) (wanted : List Coord) : Type 0 where
  pub state : FlatState
  pub sees : Sees stores state
  pub named : AreNamedIn stores state turns
  pub list : wanted ≡ wanted_of (bounds_of_shape store.shape) number (writes_of (turns_in stores state turns))

-- these are the coordinates that the turns want, layout by layout
pub record AreMeant (stores : List StoreWords) (turns : Turns) (wants : List (List Coord)) : Type 0 where
  pub count : length wants ≡ length stores
  pub each : (number : ℕ) (store : StoreWords) (wanted : List Coord) → slice_get stores number ≡ Some store →
      slice_get wants number ≡ Some wanted → IsMeant stores turns number store wanted

-- a coordinate has a cell in a layout's store
abbrev pub IsActiveAt : List StoreWords → ℕ → Coord → Type 0
IsActiveAt stores layout at = IsSome (cell_there stores layout (Some at))

-- so has that of a write
abbrev pub IsActive : List StoreWords → Write → Type 0
IsActive stores write = IsActiveAt stores write.layout write.at

-- all that turns want is active
abbrev pub AreActive : List StoreWords → Turns → Type 0
AreActive stores turns = (state : FlatState) → Sees stores state → AreNamedIn stores state turns →
    All (IsActive stores) (writes_of (turns_in stores state turns))

-- the store with this number is one in which all that turns want is active
abbrev pub IsActiveStore : List StoreWords → Turns → ℕ → StoreWords → Type 0
IsActiveStore stores turns number store = (slice_get stores number ≡ Some store) × AreActive stores turns

-- what is told of the first write outside of turns, and if none is, of whether all writes are at active coordinates
abbrev pub TellsOutside : List StoreWords → List Turn → Result Bool (Stop RunFault) → Type 0
TellsOutside stores turns (Ok active) = (first_outside (shapes_of stores) turns ≡ None)
    × (IsTrue active → All (IsActive stores) (writes_of turns))
TellsOutside stores turns (Err stop.Memory) = Unit {0}
TellsOutside stores turns (Err (stop.Refused fault)) = first_outside (shapes_of stores) turns ≡ Some fault

-- what is told of two halves, of which the first has no write outside
abbrev pub in_both : Bool → Result Bool (Stop RunFault) → Result Bool (Stop RunFault)
in_both active (Ok others) = Ok (active && others)
in_both active (Err why) = Err why

-- what is told of the first write outside of a slice's turns at points, and if none is, of whether all their writes are at active
-- coordinates, at any state whose values the stores have and at which the block reads and contributes where its index registers say
abbrev pub SliceTells : List StoreWords → List Inst → List Coord → Result Bool (Stop RunFault) → Type 0
SliceTells stores block points result = (state : FlatState) → Sees stores state → AreNamedAt stores state block points →
    TellsOutside stores (map (slice_turn stores state block) points) result

-- the fault of a layout whose activation was refused
abbrev pub full_layout : ℕ → ActFault → RunFault
full_layout layout (full.PoolFull node cap) = fault.PoolFull layout node cap

-- what turns want in the layouts of stores, from a number on
abbrev pub wants_from : ℕ → List StoreWords → List Turn → List (List Coord)
wants_from layout [] turns = []
wants_from layout (store ∷ stores) turns = wanted_of (bounds_of_shape store.shape) layout (writes_of turns) ∷ wants_from (suc layout) stores turns

-- with these wants, what all turns that have them reach is told
abbrev pub ReachesAll : {A : Type 0} → (A → List StoreWords) → List StoreWords → List (List Coord) → Result A (Stop RunFault) → Type 0
ReachesAll view stores wants result = (flats : List FlatLayout) (made : List Turn) → AllZip StandsFor stores flats →
    AreWants flats wants (writes_of made) → AllReached view (shapes_of stores) flats made result

-- No write of the turns is outside, and what they want is active; or the first write outside is told, or the first layout that is too full.
abbrev pub TurnsActivated : {A : Type 0} → (A → List StoreWords) → List StoreWords → List Turn → Result A (Stop RunFault) → Type 0
TurnsActivated view stores turns (Ok copies) = (first_outside (shapes_of stores) turns ≡ None)
    × ReachesAll view stores (wants_from 0 stores turns) (Ok copies)
TurnsActivated view stores turns (Err stop.Memory) = Unit {0}
TurnsActivated view stores turns (Err (stop.Refused fault)) = (first_outside (shapes_of stores) turns ≡ Some fault)
    ⊎ ((first_outside (shapes_of stores) turns ≡ None) × ReachesAll view stores (wants_from 0 stores turns) (Err (stop.Refused fault)))
