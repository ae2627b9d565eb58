-- The stores with which tasks begin, where a snapshot is given.
use Rattle.std.specs.Prelude.{◌≡◌, ℕ, Bool, true, false, List, Option, Some, None, Result, Ok, Err}
use Rattle.std.specs.Result.{IsOkAnd}
use Rattle.sg_words.specs.declared.memory.Stop.{Stop}
use Rattle.sg_words.specs.declared.memory.Stop.TheVariants as stop
use Rattle.sg_outside.specs.Counts.{Rose}
use Rattle.sg_outside.specs.Files.{Held, Reading, Bytes, TooMany, Missing, reading}
use Rattle.sg_layout.specs.declared.shape.Shape.{Shape}
use Rattle.sg_flat.specs.declared.state.FlatState.{FlatState}
use Rattle.sg_names.specs.Tables.{Tables}
use Rattle.sg_store.specs.Standing.{StandForState}
use Rattle.sg_store.specs.declared.store.Stores.{Stores}
use Rattle.sg_snapshot.specs.declared.fault.SnapFault.TheVariants.{NotSnapshot, NotClosed, Full}
use Rattle.sg_snapshot.specs.Restoring.{restored}
use Rattle.sparsegrid.specs.declared.snapshot.NoSnapshot.{NoSnapshot}
use Rattle.sparsegrid.specs.declared.snapshot.NoSnapshot.TheVariants as no
use Rattle.sparsegrid.specs.declared.last_line.LastLine.{LastLine}
use Rattle.sparsegrid.specs.Limits.{most_snapshot_bytes}
use Rattle.sparsegrid.specs.Lines.{read_last, snapshot_last, snapshot_bytes_last}
use Rattle.sparsegrid.specs.Meaning.{left_by_snapshot}

-- the last line of a run whose snapshot is none
abbrev pub no_snapshot_last : Tables → List ℕ → NoSnapshot → LastLine
no_snapshot_last names name no.Read = read_last name
no_snapshot_last names name no.TooLong = snapshot_bytes_last
no_snapshot_last names name (no.Fault fault) = snapshot_last names fault

-- the state that such a run leaves, if any
abbrev pub no_snapshot_leaves : List Shape → NoSnapshot → Option FlatState
no_snapshot_leaves shapes no.Read = None
no_snapshot_leaves shapes no.TooLong = None
no_snapshot_leaves shapes (no.Fault fault) = left_by_snapshot shapes fault

-- there is no room for its state
abbrev pub lacks_room : NoSnapshot → Bool
lacks_room no.Read = false
lacks_room no.TooLong = false
lacks_room (no.Fault NotSnapshot) = false
lacks_room (no.Fault (NotClosed layout)) = false
lacks_room (no.Fault (Full layout node cap)) = true

-- the read failed
abbrev pub is_read : Result Stores (Stop NoSnapshot) → Bool
is_read (Ok stores) = false
is_read (Err stop.Memory) = false
is_read (Err (stop.Refused no.Read)) = true
is_read (Err (stop.Refused no.TooLong)) = false
is_read (Err (stop.Refused (no.Fault fault))) = false

-- the stores that were made of what the read of a snapshot gave, or why there are none; running out of memory is free
abbrev pub AreMadeOf : List Shape → Result Stores (Stop NoSnapshot) → Reading → Type 0
AreMadeOf shapes (Ok stores) given = (bytes : List ℕ) × (given ≡ Bytes bytes) × IsOkAnd (restored shapes bytes) (StandForState shapes stores.list)
AreMadeOf shapes (Err stop.Memory) given = Unit {0}
AreMadeOf shapes (Err (stop.Refused no.Read)) given = given ≡ Missing
AreMadeOf shapes (Err (stop.Refused no.TooLong)) given = given ≡ TooMany
AreMadeOf shapes (Err (stop.Refused (no.Fault fault))) given = (bytes : List ℕ) × (given ≡ Bytes bytes) × (restored shapes bytes ≡ Err fault)

-- what the read of the snapshot of this name gave: what the files hold, where they tell it and the read didn't fail
pub record WasRead (shapes : List Shape) (held : Option Held) (name : List ℕ) (result : Result Stores (Stop NoSnapshot)) : Type 0 where
  pub given : Reading
  pub made : AreMadeOf shapes result given
  pub told : is_read result ≡ false → (files : Held) → held ≡ Some files → given ≡ reading files name most_snapshot_bytes

-- the count of faults rose where the read failed, and else stays
abbrev pub SnapshotCause : Bool → ℕ → ℕ → Type 0
SnapshotCause true old new = Rose old new
SnapshotCause false old new = new ≡ old
