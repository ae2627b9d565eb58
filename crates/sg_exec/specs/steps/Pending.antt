-- Contributions that aren't given yet, at most one to each accumulated field: those to the same cell that follow it are joined to it first.
use Rattle.std.specs.Prelude.{◌≡◌, ℕ, ◌<◌, List, [], ◌∷◌, ◌++◌, length, Option, Some, None, IfSome, slice_get}
use Rattle.sg_accum.specs.declared.seat.AccSeat.{AccSeat}
use Rattle.sg_accum.specs.Folding.{old_values, given_to, given_of, handed_of}
use Rattle.sg_exec.specs.declared.lanes.cell_write.CellWrite.{CellWrite}
use Rattle.sg_exec.specs.declared.results.shared.Accumulated.{Accumulated}
use Rattle.sg_exec.specs.declared.results.shared.Pending.{Pending}
use Rattle.sg_exec.specs.steps.Racing.{contributions, joining, ComeTo}

-- the contribution that is pending, if there is one
abbrev pub pending_one : Option Pending → List (ℕ × ℕ)
pending_one None = []
pending_one (Some it) = (it.cell, it.word) ∷ []

-- it goes to a cell of the pass
abbrev pub IsPending : Accumulated → Option Pending → Type 0
IsPending it pending = IfSome pending (λ (one : Pending). one.cell < length (old_values it.pass))

-- there is one at most for each field
pub record ArePending (accumulated : List Accumulated) (pending : List (Option Pending)) : Type 0 where
  pub long : length pending ≡ length accumulated
  pub each : (k : ℕ) (it : Accumulated) (one : Option Pending) → slice_get accumulated k ≡ Some it → slice_get pending k ≡ Some one → IsPending it one

-- there is none for any field
pub record NonePending (accumulated : List Accumulated) (pending : List (Option Pending)) : Type 0 where
  pub long : length pending ≡ length accumulated
  pub none : (k : ℕ) (one : Option Pending) → slice_get pending k ≡ Some one → one ≡ None

-- what a seat has given to a cell, and then what is pending
abbrev pub due : Option Pending → AccSeat → ℕ → List ℕ
due one seat cell = given_of seat cell ++ given_to cell (pending_one one)

-- contributions were taken: with what is pending now a seat has given what they come to after what was given and pending, and has as many
-- shares
pub record HasTaken (it : Accumulated) (contributed : List (ℕ × ℕ)) (before : Option Pending) (old : AccSeat) (after : Option Pending) (now : AccSeat) : Type 0 where
  pub given : (cell : ℕ) → ComeTo (joining it) (due after now cell) (due before old cell ++ given_to cell contributed)
  pub weight_is : handed_of now ≡ handed_of old

-- each seat has taken its field's contributions among writes
abbrev pub HaveTaken : List Accumulated → List CellWrite → List (Option Pending) → List AccSeat → List (Option Pending) → List AccSeat → Type 0
HaveTaken accumulated writes befores olds afters nows =
    (k : ℕ) (it : Accumulated) (before : Option Pending) (old : AccSeat) (after : Option Pending) (now : AccSeat) → slice_get accumulated k ≡ Some it →
    slice_get befores k ≡ Some before → slice_get olds k ≡ Some old → slice_get afters k ≡ Some after → slice_get nows k ≡ Some now →
    HasTaken it (contributions it.layout it.field writes) before old after now

-- what was pending is given
pub record HasGivenLast (before : Option Pending) (old now : AccSeat) : Type 0 where
  pub given : (cell : ℕ) → given_of now cell ≡ due before old cell
  pub weight_is : handed_of now ≡ handed_of old

-- by each seat
abbrev pub HaveGivenLast : List Accumulated → List (Option Pending) → List AccSeat → List AccSeat → Type 0
HaveGivenLast accumulated befores olds nows =
    (k : ℕ) (it : Accumulated) (before : Option Pending) (old now : AccSeat) → slice_get accumulated k ≡ Some it →
    slice_get befores k ≡ Some before → slice_get olds k ≡ Some old → slice_get nows k ≡ Some now → HasGivenLast before old now
