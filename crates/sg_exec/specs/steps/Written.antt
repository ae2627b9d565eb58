-- The writes of an iteration, with the last own write to each field at hand.
use Rattle.std.specs.Prelude.{◌≡◌, ℕ, Bool, ◌&&◌, ◌==◌, List, [], ◌∷◌, find, reverse, Option, Some, None, if◌then◌else◌}
use Rattle.sg_ir.specs.Runs.{is_own}
use Rattle.sg_exec.specs.declared.lanes.cell_write.CellWrite.{CellWrite}

-- a write is an own write to this field
abbrev pub is_own_to : ℕ → ℕ → CellWrite → Bool
is_own_to layout place write = is_own write.way && ((write.layout == layout) && (write.place == place))

-- the last own write to a field
abbrev pub own_write : ℕ → ℕ → List CellWrite → Option CellWrite
own_write layout place writes = find (is_own_to layout place) (reverse writes)

-- two writes are to one field
abbrev pub is_same_field : CellWrite → CellWrite → Bool
is_same_field write other = (write.layout == other.layout) && (write.place == other.place)

-- a write in the place of the first one to its field, or after all if there is none
abbrev pub replaced : CellWrite → List CellWrite → List CellWrite
replaced write [] = write ∷ []
replaced write (other ∷ own) = if is_same_field other write then write ∷ own else other ∷ replaced write own

-- these have the last own write to each field that some of the writes own-writes
abbrev pub IsLatest : List CellWrite → List CellWrite → Type 0
IsLatest own writes = (layout place : ℕ) → find (is_own_to layout place) own ≡ own_write layout place writes

-- the value of a write that may be there, or else another
abbrev pub last_or : Option CellWrite → ℕ → ℕ
last_or None value = value
last_or (Some write) value = write.value
