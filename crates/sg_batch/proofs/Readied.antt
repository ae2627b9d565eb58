-- What members of a group made, with one more in front.
use Rattle.std.proofs.Common.{◌≡◌, ℕ, suc, ◌+◌, ◌<◌, List, [], ◌∷◌, ◌++◌, length, Option, Some, None, Result, Ok, Err, refl, sym, ap, ◌∙◌, subst, arith}
use Rattle.std.specs.Prelude.{reverse, slice_get, IfOk}
use Rattle.std.proofs.lemmas.List.{nil_from_length}
use Rattle.std.proofs.lemmas.Option.{same_Some}
use Rattle.sg_words.specs.declared.memory.Memory.{Memory}
use Rattle.sg_words.specs.declared.memory.Stop.{Stop}
use Rattle.sg_words.specs.declared.memory.Stop.TheVariants as stop
use Rattle.sg_layout.specs.declared.shape.Shape.{Shape}
use Rattle.sg_flat.specs.declared.effects.RunFault.{RunFault}
use Rattle.sg_flat.specs.declared.state.FlatState.{FlatState}
use Rattle.sg_store.specs.StoreWords.{StoreWords}
use Rattle.sg_ir.specs.declared.code.KernelCode.{KernelCode}
use Rattle.sg_exec.specs.declared.results.made.Made.{Made}
use Rattle.sg_exec.specs.Standing.{StandForState}
use Rattle.sg_exec.specs.Preparing.{IsMadeFor, Prepared}
use Rattle.sg_batch.specs.declared.fault.BatchFault.{BatchFault}
use Rattle.sg_batch.specs.declared.readying.Ready.{Ready}
use Rattle.sg_batch.specs.Batches.{members}
use Rattle.sg_batch.specs.steps.Ready.{AreReady, Fit, IsPreparedAt, IsReadyFrom}
use Rattle.sg_batch.proofs.Members.{at_below, members_next, reverse_snoc}

module _ (shapes : List Shape) (kernels : List KernelCode) (stores : List StoreWords) where
  -- what was prepared of the kernel with a number
  pub prepared_here : (number : ℕ) (kernel : KernelCode) (result : Result Made (Stop RunFault)) → slice_get kernels number ≡ Some kernel → IfOk result (IsMadeFor kernel stores)
      → ((state : FlatState) → StandForState shapes stores state → Prepared shapes kernel stores result) → IsPreparedAt shapes kernels stores number result
  prepared_here number kernel result there lands prepared = record {
    lands = λ it is. subst (λ (k : KernelCode). IfOk result (IsMadeFor k stores)) (same_Some kernel it (sym there ∙ is)) lands;
    prepared = λ it is state stand. subst (λ (k : KernelCode). Prepared shapes k stores result) (same_Some kernel it (sym there ∙ is)) (prepared state stand);
  }

  -- nobody is left
  pub ready_none : (at : ℕ) (group : List ℕ) (ready : Ready) → length group ≡ 0 → ready.made.items ≡ [] → ready.refused ≡ None → IsReadyFrom shapes kernels stores at group (Ok ready)
  ready_none at group ready empty no_made no_fault = let none : group ≡ [] = nil_from_length group empty in record {
    fits = subst (λ (g : List ℕ). Fit stores (members kernels g) (reverse ready.made.items)) (sym none) (subst (λ (ms : List Made). Fit stores [] (reverse ms)) (sym no_made) tt);
    ready = λ state stand. subst (λ (g : List ℕ). AreReady shapes stores at (members kernels g) (reverse ready.made.items) ready.refused) (sym none) no_fault;
    place = λ fault is. let some : None ≡ Some fault = sym no_fault ∙ is in absurd (cc (some));
  }

  -- memory ran out
  pub ready_memory : (at : ℕ) (group : List ℕ) (why : Memory) → IsReadyFrom shapes kernels stores at group (Err why)
  ready_memory at group why = record { fits = tt; ready = λ state stand. tt; place = tt }

  module _ (at number : ℕ) (rest : List ℕ) (below : number < length kernels) where
    abbrev kernel : KernelCode
    kernel = (at_below kernels number below).0

    there : slice_get kernels number ≡ Some kernel
    there = (at_below kernels number below).1

    -- the first is refused
    pub ready_refused : (fault : RunFault) (ready : Ready) → IsPreparedAt shapes kernels stores number (Err (stop.Refused fault)) → ready.made.items ≡ [] → ready.refused ≡ Some (record { at = at; fault = fault })
        → IsReadyFrom shapes kernels stores at (number ∷ rest) (Ok ready)
    ready_refused fault ready prepared none refused = record {
      fits = subst (λ (ks : List KernelCode). Fit stores ks (reverse ready.made.items)) (sym (members_next kernels number rest kernel there))
          (subst (λ (ms : List Made). Fit stores (kernel ∷ members kernels rest) (reverse ms)) (sym none) tt);
      ready = λ state stand.
          subst (λ (ks : List KernelCode). AreReady shapes stores at ks (reverse ready.made.items) ready.refused) (sym (members_next kernels number rest kernel there))
          (subst (λ (ms : List Made). AreReady shapes stores at (kernel ∷ members kernels rest) (reverse ms) ready.refused) (sym none)
          (subst (λ (r : Option BatchFault). AreReady shapes stores at (kernel ∷ members kernels rest) [] r) (sym refused)
          (refl, prepared.prepared kernel there state stand)));
      place = λ it is.
          let same : at ≡ it.at = ap (at_or at) (sym refused ∙ is) in
          omega (arith, same);
    }
      where
        at_or : ℕ → Option BatchFault → ℕ
        at_or d None = d
        at_or d (Some f) = f.at

    -- the first has made something, which stands behind what the others made
    pub ready_first : (made : Made) (ready : Ready) (result : Result Ready Memory) → IsPreparedAt shapes kernels stores number (Ok made) → IsReadyFrom shapes kernels stores (at + 1) rest (Ok ready)
        → IfOk result (λ now. now.made.items ≡ ready.made.items ++ made ∷ []) → IfOk result (λ now. now.refused ≡ ready.refused) → IsReadyFrom shapes kernels stores at (number ∷ rest) result
    ready_first made ready (Err why) prepared later items refused = ready_memory at (number ∷ rest) why
    ready_first made ready (Ok now) prepared later items refused =
        let order : reverse now.made.items ≡ made ∷ reverse ready.made.items = ap reverse items ∙ reverse_snoc ready.made.items made in
        let one : at + 1 ≡ suc at = omega arith in
        record {
          fits = subst (λ (ks : List KernelCode). Fit stores ks (reverse now.made.items)) (sym (members_next kernels number rest kernel there))
              (subst (λ (ms : List Made). Fit stores (kernel ∷ members kernels rest) ms) (sym order) (prepared.lands kernel there, later.fits));
          ready = λ state stand.
              subst (λ (ks : List KernelCode). AreReady shapes stores at ks (reverse now.made.items) now.refused) (sym (members_next kernels number rest kernel there))
              (subst (λ (ms : List Made). AreReady shapes stores at (kernel ∷ members kernels rest) ms now.refused) (sym order) (
                prepared.prepared kernel there state stand,
                subst (λ (r : Option BatchFault). AreReady shapes stores (suc at) (members kernels rest) (reverse ready.made.items) r) (sym refused)
                    (subst (λ (n : ℕ). AreReady shapes stores n (members kernels rest) (reverse ready.made.items) ready.refused) one (later.ready state stand)),
              ));
          place = λ fault is. let low = later.place fault (sym refused ∙ is) in omega (arith, low);
        }
