-- A group of runs over the stores of a compiled program, whose parts are looked at one by one.
use Rattle.std.proofs.Common.{◌≡◌, ℕ, zero, suc, ◌<◌, List, [], ◌∷◌, length, get_or, Result, sym, subst}
use Rattle.std.specs.Prelude.{All}
use Rattle.std.specs.List.{AllByRecursion}
use Rattle.std.proofs.lemmas.Option.{same_Some}
use Rattle.sg_words.specs.declared.memory.Stop.{Stop}
use Rattle.sg_layout.specs.declared.shape.Shape.{Shape}
use Rattle.sg_flat.specs.declared.state.FlatState.{FlatState}
use Rattle.sg_store.specs.StoreWords.{StoreWords}
use Rattle.sg_ir.specs.declared.code.KernelCode.{KernelCode}
use Rattle.sg_exec.specs.Running.{IsRunnable}
use Rattle.sg_exec.specs.Standing.{StandForState}
use Rattle.sg_batch.specs.declared.fault.BatchFault.{BatchFault}
use Rattle.sg_batch.specs.Batches.{Batched, RunnableAt, group_end, members}
use Rattle.sg_batch.specs.Independent.{AreApart}
use Rattle.sg_batch.specs.steps.Passing.{PassesFlat}

-- each kernel of a list of which all can be run
runnable_at : (shapes : List Shape) (kernels : List KernelCode) → AllByRecursion (IsRunnable shapes) kernels → (number : ℕ) → RunnableAt shapes kernels number
runnable_at shapes [] all number kernel at = absurd (cc (at))
runnable_at shapes (first ∷ kernels) all zero kernel at = subst (IsRunnable shapes) (same_Some first kernel at) all.0
runnable_at shapes (first ∷ kernels) all (suc number) kernel at = runnable_at shapes kernels all.1 number kernel at

module _ (layouts layouts' : List Shape) (kernels kernels' : List KernelCode) (same_layouts : layouts ≡ layouts') (same_kernels : kernels ≡ kernels') (group : List ℕ) where
  pub there_over : All (λ number. number < length kernels') group → All (λ number. number < length kernels) group
  there_over = subst (λ (list : List KernelCode). All (λ number. number < length list) group) (sym same_kernels)

  pub apart_over : AreApart (members kernels' group) → AreApart (members kernels group)
  apart_over = subst (λ (list : List KernelCode). AreApart (members list group)) (sym same_kernels)

  pub answer_over : (stores stores' : List StoreWords) (result : Result Unit (Stop BatchFault))
      → ((state : FlatState) → StandForState layouts stores state → Batched layouts stores' result (group_end layouts 0 state (members kernels group)))
      → (state : FlatState) → StandForState layouts' stores state → Batched layouts' stores' result (group_end layouts' 0 state (members kernels' group))
  answer_over stores stores' result answer =
      subst (λ (ls : List Shape). (state : FlatState) → StandForState ls stores state → Batched ls stores' result (group_end ls 0 state (members kernels' group))) same_layouts
      (subst (λ (list : List KernelCode). (state : FlatState) → StandForState layouts stores state → Batched layouts stores' result (group_end layouts 0 state (members list group))) same_kernels answer)

  pub flat_over : (stores : List StoreWords) (result : Result Unit (Stop BatchFault)) → ((state : FlatState) → StandForState layouts stores state → PassesFlat layouts result state (members kernels group))
      → (state : FlatState) → StandForState layouts' stores state → PassesFlat layouts' result state (members kernels' group)
  flat_over stores result flat =
      subst (λ (ls : List Shape). (state : FlatState) → StandForState ls stores state → PassesFlat ls result state (members kernels' group)) same_layouts
      (subst (λ (list : List KernelCode). (state : FlatState) → StandForState layouts stores state → PassesFlat layouts result state (members list group)) same_kernels flat)

-- all kernels of a group can be run, by the list that is given
pub runnable_over : (shapes : List Shape) (kernels given : List KernelCode) (group : List ℕ) → given ≡ kernels → AllByRecursion (IsRunnable shapes) kernels → All (RunnableAt shapes given) group
runnable_over shapes kernels given group same all =
    λ k d below. runnable_at shapes given (subst (λ (list : List KernelCode). AllByRecursion (IsRunnable shapes) list) (sym same) all) (get_or group k d)
