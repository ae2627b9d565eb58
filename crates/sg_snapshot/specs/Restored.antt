-- What restoring answered.
use Rattle.std.specs.Prelude.{◌≡◌, ℕ, List, Result, Ok, Err}
use Rattle.std.specs.Result.{IsOkAnd}
use Rattle.sg_words.specs.declared.memory.Stop.{Stop}
use Rattle.sg_words.specs.declared.memory.Stop.TheVariants as stop
use Rattle.sg_layout.specs.declared.shape.Shape.{Shape}
use Rattle.sg_flat.specs.declared.state.FlatState.{FlatState}
use Rattle.sg_store.specs.Standing.{StandForState}
use Rattle.sg_store.specs.declared.store.Stores.{Stores}
use Rattle.sg_snapshot.specs.declared.fault.SnapFault.{SnapFault}
use Rattle.sg_snapshot.specs.Restoring.{restored}

-- stores of these layouts that stand for the state that is meant, or the fault that is, unless memory ran out
abbrev pub StandForAnswer : List Shape → Result FlatState SnapFault → Result Stores (Stop SnapFault) → Type 0
StandForAnswer shapes meant (Ok stores) = IsOkAnd meant (StandForState shapes stores.list)
StandForAnswer shapes meant (Err stop.Memory) = Unit {0}
StandForAnswer shapes meant (Err (stop.Refused fault)) = meant ≡ Err fault

-- the same of what bytes are as a snapshot
abbrev pub StandForRestored : List Shape → List ℕ → Result Stores (Stop SnapFault) → Type 0
StandForRestored shapes bytes result = StandForAnswer shapes (restored shapes bytes) result
