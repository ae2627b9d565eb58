-- What kernels leave that are run in order, and what a batch of them answers.
use Rattle.std.specs.Prelude.{◌≡◌, ℕ, suc, List, [], ◌∷◌, filter_map, slice_get, Option, Some, None, Result, Ok, Err}
use Rattle.sg_words.specs.declared.memory.Stop.{Stop}
use Rattle.sg_words.specs.declared.memory.Stop.TheVariants as stop
use Rattle.sg_layout.specs.declared.shape.Shape.{Shape}
use Rattle.sg_flat.specs.declared.effects.RunFault.{RunFault}
use Rattle.sg_flat.specs.declared.state.FlatState.{FlatState}
use Rattle.sg_store.specs.StoreWords.{StoreWords}
use Rattle.sg_ir.specs.declared.code.KernelCode.{KernelCode}
use Rattle.sg_exec.specs.Running.{IsRunnable, run_meaning}
use Rattle.sg_exec.specs.Standing.{StandForState}
use Rattle.sg_batch.specs.declared.fault.BatchFault.{BatchFault}

-- how kernels end that are run in order: the state that they reach, and the first that is refused, by its place, with its fault
pub record GroupEnd : Type 0 where
  pub state : FlatState
  pub refused : Option BatchFault

-- after the kernel at a place: what follows at the state that it leaves, or its refusal, with the state that was before it
abbrev pub end_after : ℕ → FlatState → (FlatState → GroupEnd) → Result FlatState RunFault → GroupEnd
end_after at state more (Ok next) = more next
end_after at state more (Err fault) = record { state = state; refused = Some (record { at = at; fault = fault }) }

-- kernels run one after the other from a state on, up to the first that is refused; the first of them has the given place
abbrev pub group_end : List Shape → ℕ → FlatState → List KernelCode → GroupEnd
group_end shapes at state [] = record { state = state; refused = None }
group_end shapes at state (kernel ∷ kernels) = end_after at state (λ next. group_end shapes (suc at) next kernels) (run_meaning shapes state kernel)

-- the kernels of these numbers
abbrev pub members : List KernelCode → List ℕ → List KernelCode
members kernels group = filter_map (slice_get kernels) group

-- a kernel, by its number, that can be run over these layouts
abbrev pub RunnableAt : List Shape → List KernelCode → ℕ → Type 0
RunnableAt shapes kernels number = (kernel : KernelCode) → slice_get kernels number ≡ Some kernel → IsRunnable shapes kernel

-- the stores stand for the state at an end, and the refusal is its own
pub record EndsAs (shapes : List Shape) (stores : List StoreWords) (refused : Option BatchFault) (end : GroupEnd) : Type 0 where
  pub refusal : end.refused ≡ refused
  pub stand : StandForState shapes stores end.state

-- What a batch answered: the stores stand for the state that its kernels reach in order, up to the first that is refused, which is told. Want of
-- memory is free.
abbrev pub Batched : List Shape → List StoreWords → Result Unit (Stop BatchFault) → GroupEnd → Type 0
Batched shapes stores (Ok done) end = EndsAs shapes stores None end
Batched shapes stores (Err stop.Memory) end = Unit {0}
Batched shapes stores (Err (stop.Refused fault)) end = EndsAs shapes stores (Some fault) end

-- where memory ran out the stores are as before
abbrev pub StaysAtMemory : Result Unit (Stop BatchFault) → List StoreWords → List StoreWords → Type 0
StaysAtMemory (Ok done) old new = Unit {0}
StaysAtMemory (Err stop.Memory) old new = new ≡ old
StaysAtMemory (Err (stop.Refused fault)) old new = Unit {0}
