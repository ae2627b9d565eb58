-- The fields that code writes: passes into the accumulated ones, and a list of the own-written ones.
use Rattle.std.specs.Prelude.{◌≡◌, ◌≢◌, ℕ, ◌<◌, Bool, ◌&&◌, ◌==◌, List, [], ◌∷◌, ◌++◌, map, length, filter, Some, Contains, slice_get, slice_set, slice_index_or}
use Rattle.sg_words.specs.declared.operators.AccOp.{AccOp}
use Rattle.sg_coord.specs.declared.coord.Coord.{Coord}
use Rattle.sg_accum.specs.declared.seat.AccSeat.{AccSeat}
use Rattle.sg_accum.specs.Folding.{old_values, operator_of, type_of, given_to, given_of, handed_of, IsNew, AreFolded}
use Rattle.sg_flat.specs.declared.effects.Way.{Way}
use Rattle.sg_flat.specs.declared.effects.Way.TheVariants.{Own, Acc}
use Rattle.sg_flat.specs.declared.effects.Write.{Write}
use Rattle.sg_flat.specs.declared.state.FlatLayout.{FlatLayout}
use Rattle.sg_store.specs.StoreWords.{StoreWords}
use Rattle.sg_store.specs.Rows.{put_over}
use Rattle.sg_store.specs.StandsFor.{StandsFor}
use Rattle.sg_ir.specs.declared.code.Inst.{Inst, fold-Inst}
use Rattle.sg_ir.specs.Apt.{Use, Writes, uses_step}
use Rattle.sg_exec.specs.declared.results.shared.Accumulated.{Accumulated}
use Rattle.sg_exec.specs.declared.results.shared.Owned.{Owned}
use Rattle.sg_exec.specs.declared.results.written_fields.WrittenFields.{WrittenFields}
use Rattle.sg_exec.specs.steps.Machines.{IsCellOf}
use Rattle.sg_exec.specs.steps.Landing.{landing}
use Rattle.sg_exec.specs.steps.Racing.{contributions, joining, ComeTo, IsPassOf, ArePasses, AreSeats}

-- the uses in an instruction
abbrev pub uses_of : Inst → List Use
uses_of = fold-Inst (List Use) uses_step

-- there is a pass into a field
pub record HasPass (accumulated : List Accumulated) (layout field : ℕ) : Type 0 where
  pub number : ℕ
  pub it : Accumulated
  pub there : slice_get accumulated number ≡ Some it
  pub layout_is : it.layout ≡ layout
  pub field_is : it.field ≡ field

-- a field is there, in a store in which something can be active
pub record HasActive (stores : List StoreWords) (layout field : ℕ) : Type 0 where
  pub store : StoreWords
  pub there : slice_get stores layout ≡ Some store
  pub field_there : field < length store.shape.fields
  pub flat : FlatLayout
  pub stands : StandsFor store flat
  pub at : Coord
  pub active : Contains flat.active at

-- a field is one of these
abbrev pub IsAmong : ℕ → ℕ → List Owned → Type 0
IsAmong layout place owned = (own : Owned) × (Contains owned own × ((own.layout ≡ layout) × (own.field ≡ place)))

-- each field that is accumulated, in a store in which something can be active, has its pass, with a new seat that has the whole
-- share; each pass is used; and the fields that are own-written are listed, and no others
pub record HaveFields (stores : List StoreWords) (uses : List Use) (accumulated : List Accumulated) (seats : List AccSeat) (owned : List Owned) : Type 0 where
  pub passes : ArePasses stores accumulated
  pub are_seats : AreSeats accumulated seats
  pub new : (k : ℕ) (seat : AccSeat) → slice_get seats k ≡ Some seat → IsNew 16 seat
  pub used : (k : ℕ) (it : Accumulated) → slice_get accumulated k ≡ Some it → Contains uses (Writes it.layout it.field (Acc it.op))
  pub each : (layout field : ℕ) (op : AccOp) → Contains uses (Writes layout field (Acc op)) → HasActive stores layout field → HasPass accumulated layout field
  pub own : (layout field : ℕ) → Contains uses (Writes layout field Own) → IsAmong layout field owned
  pub own_used : (own : Owned) → Contains owned own → Contains uses (Writes own.layout own.field Own)

-- a record of written fields holds the passes, the new seats and the own-written fields that these uses ask for
abbrev pub HaveWritten : List StoreWords → List Use → WrittenFields → Type 0
HaveWritten stores uses fields = HaveFields stores uses fields.accumulated.items fields.seats.items fields.owned.items

-- each field is written in one way
abbrev pub WritesOneWay : List Use → Type 0
WritesOneWay uses = (layout field : ℕ) (way other : Way) → Contains uses (Writes layout field way) → Contains uses (Writes layout field other) → way ≡ other

-- the fields of these uses were added
abbrev pub AddsUses : List StoreWords → List Use → WrittenFields → WrittenFields → Type 0
AddsUses stores more old now = (uses : List Use) → HaveWritten stores uses old → HaveWritten stores (uses ++ more) now

-- ---- the ends of passes

-- whether a write goes to a field of a layout
abbrev pub to_field : ℕ → ℕ → Write → Bool
to_field layout place write = (write.layout == layout) && (write.place == place)

-- those of some writes that go to a field of a layout, in their order
abbrev pub into_field : ℕ → ℕ → List Write → List Write
into_field layout place writes = filter (to_field layout place) writes

-- what passes land, the last first
abbrev pub passed : List Accumulated → List Write → List Write
passed [] writes = []
passed (it ∷ accumulated) writes = passed accumulated writes ++ into_field it.layout it.field writes

-- a store with other values in the first cells of a field
abbrev pub with_row : StoreWords → ℕ → List ℕ → StoreWords
with_row store field words = record store { fields = slice_set store.fields field (put_over words (slice_index_or store.fields field [])) }

-- all shares came back to each seat
abbrev pub AreWhole : List AccSeat → Type 0
AreWhole seats = (k : ℕ) (seat : AccSeat) → slice_get seats k ≡ Some seat → handed_of seat ≡ 16

-- what each seat has given went into cells of its layout's store
abbrev pub GaveReached : List StoreWords → List Accumulated → List AccSeat → Type 0
GaveReached stores accumulated seats =
    (k : ℕ) (it : Accumulated) (seat : AccSeat) → slice_get accumulated k ≡ Some it → slice_get seats k ≡ Some seat →
    (cell : ℕ) → given_of seat cell ≢ [] → IsCellOf stores it.layout cell

-- all writes to a pass's field are contributions by its operator, and what was given to each cell comes to these in their order
pub record IsGiven (stores : List StoreWords) (it : Accumulated) (given : ℕ → List ℕ) (writes : List Write) : Type 0 where
  pub ways : (write : Write) → Contains writes write → write.layout ≡ it.layout → write.place ≡ it.field → write.way ≡ Acc it.op
  pub given_is : (cell : ℕ) → ComeTo (joining it) (given cell) (given_to cell (contributions it.layout it.field (map (landing stores) writes)))

-- all writes to each pass's field are contributions by its operator, and what its seat has given comes to these
abbrev pub AreGiven : List StoreWords → List Accumulated → List AccSeat → List Write → Type 0
AreGiven stores accumulated seats writes =
    (k : ℕ) (it : Accumulated) (seat : AccSeat) → slice_get accumulated k ≡ Some it → slice_get seats k ≡ Some seat →
    IsGiven stores it (given_of seat) writes

-- words are what a pass into a field has made of it
pub record IsSumOf (stores : List StoreWords) (layout field : ℕ) (words : List ℕ) (writes : List Write) : Type 0 where
  pub it : Accumulated
  pub given : ℕ → List ℕ
  pub layout_is : it.layout ≡ layout
  pub field_is : it.field ≡ field
  pub pass : IsPassOf stores it
  pub is_given : IsGiven stores it given writes
  pub folds : AreFolded (operator_of it.pass) (type_of it.pass) (old_values it.pass) given words

-- each write to a field is at an active coordinate
abbrev pub AreActiveTo : FlatLayout → ℕ → ℕ → List Write → Type 0
AreActiveTo flat layout field writes =
    (write : Write) → Contains writes write → write.layout ≡ layout → write.place ≡ field → Contains flat.active write.at
