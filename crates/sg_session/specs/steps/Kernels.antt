-- What admission asks of typed kernels, and lowering of admitted ones; and what lowering and simplification give.
use Rattle.std.specs.Prelude.{◌≡◌, ◌≤◌, true, List, length, Ok}
use Rattle.std.specs.List.{range_with_len}
use Rattle.sg_layout.specs.declared.shape.Shape.{Shape}
use Rattle.sg_types.specs.declared.typed.TypedKernel.{TypedKernel}
use Rattle.sg_types.specs.WellTyped.{is_well_typed_kernel}
use Rattle.sg_types.specs.Numbers.{kernel_vars}
use Rattle.sg_admit.specs.declared.admitted.Admitted.{Admitted}
use Rattle.sg_admit.specs.Admission.{admission}
use Rattle.sg_flat.specs.declared.state.FlatState.{FlatState}
use Rattle.sg_flat.specs.State.{IsFlat}
use Rattle.sg_types.specs.Iterations.{kernel_effects}
use Rattle.sg_ir.specs.declared.code.KernelCode.{KernelCode}
use Rattle.sg_simplify.specs.Simplified.{IsSimplified}
use Rattle.sg_exec.specs.Running.{IsRunnable, code_effects}
use Rattle.sg_session.specs.Compiled.{world_of}

-- well typed over these layouts, with its variables numbered as typing numbers them
pub record IsReady (layouts : List Shape) (kernel : TypedKernel) : Type 0 where
  pub typed : is_well_typed_kernel layouts kernel ≡ true
  pub numbered : kernel_vars kernel ≡ range_with_len 0 (length kernel.types)
  pub few : kernel.vars ≤ 3

-- admitted and so
pub record IsLowerable (layouts : List Shape) (kernel : Admitted) : Type 0 where
  pub admitted : admission kernel.kernel ≡ Ok kernel
  pub ready : IsReady layouts kernel.kernel

-- lowered code of a kernel
pub record IsLoweredOf (shapes : List Shape) (kernel : Admitted) (code : KernelCode) : Type 0 where
  pub runnable : IsRunnable shapes code
  pub domain : code.domain ≡ kernel.domain
  pub effects : (state : FlatState) → IsFlat shapes state → code_effects shapes state code ≡ kernel_effects (world_of shapes state) kernel.kernel

-- both codes of a kernel are simplified over its domain
pub record AreSimplified (shapes : List Shape) (given made : KernelCode) : Type 0 where
  pub domain : made.domain ≡ given.domain
  pub slice : IsSimplified shapes given.domain given.slice made.slice
  pub code : IsSimplified shapes given.domain given.code made.code
