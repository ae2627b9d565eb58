-- The states on the way of kernels that are run in order.
use Rattle.std.specs.Prelude.{◌≡◌, List, [], ◌∷◌, Result, Ok, Err}
use Rattle.sg_words.specs.declared.memory.Stop.{Stop}
use Rattle.sg_words.specs.declared.memory.Stop.TheVariants as stop
use Rattle.sg_layout.specs.declared.shape.Shape.{Shape}
use Rattle.sg_flat.specs.declared.state.FlatState.{FlatState}
use Rattle.sg_flat.specs.State.{IsFlat}
use Rattle.sg_ir.specs.declared.code.KernelCode.{KernelCode}
use Rattle.sg_exec.specs.Running.{run_meaning}
use Rattle.sg_batch.specs.declared.fault.BatchFault.{BatchFault}

-- states are flat along kernels that are run in order, up to the first that is refused
abbrev pub FlatAlong : List Shape → FlatState → List KernelCode → Type 0
FlatAlong shapes state [] = IsFlat shapes state
FlatAlong shapes state (kernel ∷ kernels) = IsFlat shapes state × ((next : FlatState) → run_meaning shapes state kernel ≡ Ok next → FlatAlong shapes next kernels)

-- if memory didn't run out, the states on the way are flat
abbrev pub PassesFlat : List Shape → Result Unit (Stop BatchFault) → FlatState → List KernelCode → Type 0
PassesFlat shapes (Ok done) state kernels = FlatAlong shapes state kernels
PassesFlat shapes (Err stop.Memory) state kernels = Unit {0}
PassesFlat shapes (Err (stop.Refused fault)) state kernels = FlatAlong shapes state kernels
