-- What members of a group have made, ready to land one after the other.
use Rattle.std.specs.Prelude.{◌≡◌, ◌<◌, ◌+◌, ℕ, suc, List, [], ◌∷◌, length, reverse, slice_get, Option, Some, None, Result, Ok, Err, IfOk}
use Rattle.sg_words.specs.declared.memory.Memory.{Memory}
use Rattle.sg_words.specs.declared.memory.Stop.{Stop}
use Rattle.sg_words.specs.declared.memory.Stop.TheVariants as stop
use Rattle.sg_layout.specs.declared.shape.Shape.{Shape}
use Rattle.sg_flat.specs.declared.effects.RunFault.{RunFault}
use Rattle.sg_flat.specs.declared.state.FlatState.{FlatState}
use Rattle.sg_store.specs.StoreWords.{StoreWords}
use Rattle.sg_ir.specs.declared.code.KernelCode.{KernelCode}
use Rattle.sg_exec.specs.declared.results.made.Made.{Made}
use Rattle.sg_exec.specs.Standing.{StandForState}
use Rattle.sg_exec.specs.Preparing.{IsMadeFor, Prepared}
use Rattle.sg_batch.specs.declared.fault.BatchFault.{BatchFault}
use Rattle.sg_batch.specs.declared.readying.Ready.{Ready}
use Rattle.sg_batch.specs.Batches.{members}

-- what was made by kernels from the first on, each in its order, can land in the stores
abbrev pub Fit : List StoreWords → List KernelCode → List Made → Type 0
Fit stores [] [] = Unit {0}
Fit stores [] (one ∷ made) = ⊥
Fit stores (kernel ∷ kernels) [] = Unit {0}
Fit stores (kernel ∷ kernels) (one ∷ made) = IsMadeFor kernel stores one × Fit stores kernels made

-- it is what the kernels prepared, up to the first that is refused, if one is; the first has the given place
abbrev pub AreReady : List Shape → List StoreWords → ℕ → List KernelCode → List Made → Option BatchFault → Type 0
AreReady shapes stores at [] made refused = refused ≡ None
AreReady shapes stores at (kernel ∷ kernels) [] None = ⊥
AreReady shapes stores at (kernel ∷ kernels) [] (Some fault) = (fault.at ≡ at) × Prepared shapes kernel stores (Err (stop.Refused fault.fault))
AreReady shapes stores at (kernel ∷ kernels) (one ∷ made) refused = Prepared shapes kernel stores (Ok one) × AreReady shapes stores (suc at) kernels made refused

-- what the kernel with this number prepared over the stores
pub record IsPreparedAt (shapes : List Shape) (kernels : List KernelCode) (stores : List StoreWords) (number : ℕ) (result : Result Made (Stop RunFault)) : Type 0 where
  pub lands : (kernel : KernelCode) → slice_get kernels number ≡ Some kernel → IfOk result (IsMadeFor kernel stores)
  pub prepared : (kernel : KernelCode) → slice_get kernels number ≡ Some kernel → (state : FlatState) → StandForState shapes stores state → Prepared shapes kernel stores result

-- what is ready, the last first, is what the members of a group prepared over the stores; the first has the given place
pub record IsReadyFrom (shapes : List Shape) (kernels : List KernelCode) (stores : List StoreWords) (at : ℕ) (group : List ℕ) (result : Result Ready Memory) : Type 0 where
  pub fits : IfOk result (λ ready. Fit stores (members kernels group) (reverse ready.made.items))
  pub ready : (state : FlatState) → StandForState shapes stores state →
      IfOk result (λ ready. AreReady shapes stores at (members kernels group) (reverse ready.made.items) ready.refused)
  pub place : IfOk result (λ ready. (fault : BatchFault) → ready.refused ≡ Some fault → fault.at < at + length group)
