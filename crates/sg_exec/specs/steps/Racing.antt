-- What the workers of a run give to the passes into accumulated fields, and what own values they leave.
use Rattle.std.specs.Prelude.{◌≡◌, ℕ, ◌-◌, ◌≤◌, Bool, not, ◌&&◌, ◌==◌, if◌then◌else◌, List, [], ◌∷◌, ◌++◌, map, fold, take, drop, length, Option, Some, None, Result, Ok, slice_get, slice_index}
use Rattle.std.specs.List.{flat_map}
use Rattle.sg_coord.specs.declared.coord.Coord.{Coord}
use Rattle.sg_words.specs.declared.memory.Memory.{Memory}
use Rattle.sg_words.specs.Words.{folded}
use Rattle.sg_accum.specs.declared.seat.AccSeat.{AccSeat}
use Rattle.sg_accum.specs.Folding.{old_values, operator_of, type_of, given_to, given_of, share_of, handed_of, IsSeatOf, IsCut, IsMerged}
use Rattle.sg_flat.specs.declared.state.FlatState.{FlatState}
use Rattle.sg_store.specs.StoreWords.{StoreWords, word_in}
use Rattle.sg_store.specs.Rows.{IsFieldFront}
use Rattle.sg_ir.specs.declared.code.Inst.{Inst}
use Rattle.sg_ir.specs.Runs.{is_own, iteration}
use Rattle.sg_exec.specs.declared.lanes.cell_write.CellWrite.{CellWrite}
use Rattle.sg_exec.specs.declared.lanes.moment.Moment.{Moment}
use Rattle.sg_exec.specs.declared.results.shared.Accumulated.{Accumulated}
use Rattle.sg_exec.specs.declared.results.shared.Owned.{Owned}
use Rattle.sg_exec.specs.declared.workers.state.Hand.{Hand}
use Rattle.sg_exec.specs.steps.Machines.{seen_in, cell_write, AreCells}
use Rattle.sg_exec.specs.steps.Written.{own_write}
use Rattle.sg_exec.specs.steps.Puts.{kept_writes}

-- ---- contributions

-- a write to a field of a layout
abbrev pub is_into : ℕ → ℕ → CellWrite → Bool
is_into layout place write = (write.layout == layout) && (write.place == place)

-- what a value gives to a cell that may be there
abbrev pub given_at : Option ℕ → ℕ → List (ℕ × ℕ)
given_at None value = []
given_at (Some cell) value = (cell, value) ∷ []

-- what a write gives to a field: nothing unless it is a contribution to it
abbrev pub given_by : ℕ → ℕ → CellWrite → List (ℕ × ℕ)
given_by layout place write = if (not (is_own write.way) && is_into layout place write) then given_at write.cell write.value else []

-- what writes give to a field, in order
abbrev pub contributions : ℕ → ℕ → List CellWrite → List (ℕ × ℕ)
contributions layout place writes = flat_map (given_by layout place) writes

-- ---- own values

-- a write as a list of one, or the empty list if there is none
abbrev pub listed : Option CellWrite → List CellWrite
listed None = []
listed (Some write) = write ∷ []

-- the last own write to each own-written field
abbrev pub last_own : List Owned → List CellWrite → List CellWrite
last_own owned writes = flat_map (λ (own : Owned). listed (own_write own.layout own.field writes)) owned

-- ---- iterations

-- what the iteration at a coordinate writes, with its cells
abbrev pub wrote : List StoreWords → FlatState → List Inst → Coord → List CellWrite
wrote stores state code at = map (cell_write stores) (iteration (seen_in stores state at) code).writes

-- the points from one number up to below another
abbrev pub between : ℕ → ℕ → List Coord → List Coord
between from to points = take (to - from) (drop from points)

-- ---- passes and seats

-- how the contributions to an accumulated field are joined
abbrev pub joining : Accumulated → ℕ → ℕ → ℕ
joining it = folded (operator_of it.pass) (type_of it.pass)

-- some contributions come to the same as others: they make the same of each old word, and where there are none of these, there are none of them
pub record ComeTo (into : ℕ → ℕ → ℕ) (some others : List ℕ) : Type 0 where
  pub words : (old : ℕ) → fold into old some ≡ fold into old others
  pub none : others ≡ [] → some ≡ []

-- a pass into an accumulated field starts with its values in the first cells, with all reached ones among them
pub record IsPassOf (stores : List StoreWords) (it : Accumulated) : Type 0 where
  pub store : StoreWords
  pub there : slice_get stores it.layout ≡ Some store
  pub field : slice_get store.shape.fields it.field ≡ Some (type_of it.pass)
  pub operator : operator_of it.pass ≡ it.op
  pub order : type_of it.pass ≡ it.ty
  pub is_front : IsFieldFront store (old_values it.pass)
  pub words : (cell : ℕ) → slice_index (old_values it.pass) cell ≡ word_in store it.field cell

-- each is a pass into its field, and no field has two
pub record ArePasses (stores : List StoreWords) (accumulated : List Accumulated) : Type 0 where
  pub each : (k : ℕ) (it : Accumulated) → slice_get accumulated k ≡ Some it → IsPassOf stores it
  pub apart : (j k : ℕ) (it other : Accumulated) → slice_get accumulated j ≡ Some it → slice_get accumulated k ≡ Some other →
      it.layout ≡ other.layout → it.field ≡ other.field → j ≡ k

-- there is a seat in each pass
pub record AreSeats (accumulated : List Accumulated) (seats : List AccSeat) : Type 0 where
  pub long : length seats ≡ length accumulated
  pub own : (k : ℕ) (it : Accumulated) (seat : AccSeat) → slice_get accumulated k ≡ Some it → slice_get seats k ≡ Some seat →
      IsSeatOf it.pass seat

-- each seat has at least so many shares
abbrev pub HaveShares : ℕ → List AccSeat → Type 0
HaveShares shares seats = (k : ℕ) (seat : AccSeat) → slice_get seats k ≡ Some seat → shares ≤ share_of seat

-- a seat has given what a field's contributions among writes come to, and has as many shares
pub record HasGiven (it : Accumulated) (writes : List CellWrite) (old now : AccSeat) : Type 0 where
  pub given : (c : ℕ) → ComeTo (joining it) (given_of now c) (given_of old c ++ given_to c (contributions it.layout it.field writes))
  pub weight_is : handed_of now ≡ handed_of old

-- the writes of iterations, one after the other
abbrev pub all_writes : List Moment → List CellWrite
all_writes moments = flat_map (λ (moment : Moment). moment.cells.writes) moments

-- each seat has
abbrev pub HaveGiven : List Accumulated → List CellWrite → List AccSeat → List AccSeat → Type 0
HaveGiven accumulated writes olds nows =
    (k : ℕ) (it : Accumulated) (old now : AccSeat) → slice_get accumulated k ≡ Some it → slice_get olds k ≡ Some old →
    slice_get nows k ≡ Some now → HasGiven it writes old now

-- a hand after iterations, each with its writes
pub record HasWorked (accumulated : List Accumulated) (owned : List Owned) (turns : List (List CellWrite)) (old now : Hand) : Type 0 where
  pub gave : HaveGiven accumulated (flat_map (λ writes. writes) turns) old.seats.items now.seats.items
  pub puts : (kept_writes now.puts) ≡ (kept_writes old.puts) ++ flat_map (last_own owned) turns

-- A hand after iterations that wrote into cells of the stores; at each state of which something holds the iterations are these.
pub record HasRun (stores : List StoreWords) (accumulated : List Accumulated) (owned : List Owned) (P : FlatState → Type 0) (at : FlatState → List (List CellWrite)) (old now : Hand) : Type 0 where
  pub turns : List (List CellWrite)
  pub worked : HasWorked accumulated owned turns old now
  pub cells : AreCells stores (flat_map (λ writes. writes) turns)
  pub are : (state : FlatState) → P state → turns ≡ at state

-- each seat was split into one that keeps half of the share, rounded up, and a new one that has the other half
abbrev pub AreSplit : List AccSeat → List AccSeat → List AccSeat → Type 0
AreSplit olds nows others =
    (k : ℕ) (old now other : AccSeat) → slice_get olds k ≡ Some old → slice_get nows k ≡ Some now → slice_get others k ≡ Some other →
    IsCut old now other

-- each seat was joined by the other
abbrev pub AreJoined : List AccSeat → List AccSeat → List AccSeat → Type 0
AreJoined olds others nows =
    (k : ℕ) (old other now : AccSeat) → slice_get olds k ≡ Some old → slice_get others k ≡ Some other → slice_get nows k ≡ Some now →
    IsMerged old other now

-- a hand was divided: its seats were split, and the other has no own values yet
pub record IsDivided (old now other : Hand) : Type 0 where
  pub split : AreSplit old.seats.items now.seats.items other.seats.items
  pub kept : (kept_writes now.puts) ≡ (kept_writes old.puts)
  pub none : (kept_writes other.puts) ≡ []
  pub long : length now.seats.items ≡ length old.seats.items
  pub other_long : length other.seats.items ≡ length old.seats.items

-- a hand has what two have, the second after the first
pub record IsOfBoth (left right : Result Hand Memory) (after : Hand) : Type 0 where
  pub hand : Hand
  pub other : Hand
  pub left_is : left ≡ Ok hand
  pub right_is : right ≡ Ok other
  pub seats_join : AreJoined hand.seats.items other.seats.items after.seats.items
  pub puts_are : (kept_writes after.puts) ≡ (kept_writes hand.puts) ++ (kept_writes other.puts)
