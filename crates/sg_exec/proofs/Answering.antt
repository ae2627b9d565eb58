-- From what the copies are to what a run answers.
use Rattle.std.proofs.Common.{◌≡◌, ℕ, ◌++◌, List, Some, Result, Ok, Err, sym, ap, ◌∙◌, subst}
use Rattle.std.specs.Result.{IsOkAnd, IsErrAnd}
use Rattle.sg_words.specs.declared.memory.Stop.{Stop}
use Rattle.sg_words.specs.declared.memory.Stop.TheVariants as stop
use Rattle.sg_coord.specs.declared.coord.Coord.{Coord}
use Rattle.sg_layout.specs.declared.shape.Shape.{Shape}
use Rattle.sg_layout.specs.Need.{first_full}
use Rattle.sg_flat.specs.declared.effects.Turn.{Turn}
use Rattle.sg_flat.specs.declared.effects.RunFault.{RunFault}
use Rattle.sg_flat.specs.declared.state.FlatLayout.{FlatLayout}
use Rattle.sg_flat.specs.declared.state.FlatState.{FlatState}
use Rattle.sg_flat.specs.Kernel.{first_outside, full_fault, first_full_layout}
use Rattle.sg_store.specs.StoreWords.{StoreWords}
use Rattle.sg_ir.specs.declared.code.KernelCode.{KernelCode}
use Rattle.sg_exec.specs.Standing.{shapes_of, StandForState}
use Rattle.sg_exec.specs.Running.{IsRunnable, Ran}
use Rattle.sg_exec.specs.steps.Wants.{AllWanted, StoreReached, AllReached}
use Rattle.sg_exec.specs.steps.Landing.{CopiesRan}

-- ---- errors that go on

pub stopped : {A : Type 0} (view : A → List StoreWords) (shapes : List Shape) (meaning : Result FlatState RunFault) (r : Result A (Stop RunFault)) (e : Stop RunFault) → IsErrAnd r (λ x. x ≡ e)
    → ((fault : RunFault) → e ≡ stop.Refused fault → meaning ≡ Err fault) → CopiesRan view shapes r meaning
stopped view shapes meaning (Ok x) e is on = absurd is
stopped view shapes meaning (Err stop.Memory) e is on = tt
stopped view shapes meaning (Err (stop.Refused fault)) e is on = on fault (sym is)

pub wanted_fault : {A : Type 0} (view : A → List (List Coord)) (shapes : List Shape) (flats : List FlatLayout) (turns : List Turn) (e : Stop RunFault) (fault : RunFault)
    → AllWanted view shapes flats turns (Err e) → e ≡ stop.Refused fault → first_outside shapes turns ≡ Some fault
wanted_fault view shapes flats turns e fault h is = subst (λ (x : Stop RunFault). AllWanted view shapes flats turns (Err x)) is h

pub reached_fault : {A : Type 0} (view : A → List StoreWords) (shapes : List Shape) (flats : List FlatLayout) (turns : List Turn) (e : Stop RunFault) (fault : RunFault)
    → AllReached view shapes flats turns (Err e) → e ≡ stop.Refused fault → first_full_layout 0 shapes flats turns ≡ Some fault
reached_fault view shapes flats turns e fault h is = subst (λ (x : Stop RunFault). AllReached view shapes flats turns (Err x)) is h

pub all_stopped : {A : Type 0} (view : A → List StoreWords) (shapes : List Shape) (flats : List FlatLayout) (turns : List Turn) (r : Result A (Stop RunFault)) (e : Stop RunFault) → IsErrAnd r (λ x. x ≡ e)
    → ((fault : RunFault) → e ≡ stop.Refused fault → first_full_layout 0 shapes flats turns ≡ Some fault) → AllReached view shapes flats turns r
all_stopped view shapes flats turns (Ok x) e is on = absurd is
all_stopped view shapes flats turns (Err stop.Memory) e is on = tt
all_stopped view shapes flats turns (Err (stop.Refused fault)) e is on = on fault (sym is)

pub store_fault : {A : Type 0} (view : A → StoreWords) (number : ℕ) (shape : Shape) (flat : FlatLayout) (wanted list : List Coord) (e : Stop RunFault) (fault : RunFault)
    → StoreReached view number shape flat wanted (Err e) → e ≡ stop.Refused fault → wanted ≡ list → full_fault number (first_full shape (flat.active ++ list)) ≡ Some fault
store_fault view number shape flat wanted list e fault h is same =
    ap (λ (ws : List Coord). full_fault number (first_full shape (flat.active ++ ws))) (sym same) ∙ subst (λ (x : Stop RunFault). StoreReached view number shape flat wanted (Err x)) is h

-- ---- the stores of these layouts

pub ran_ok : (m : List Shape → Result FlatState RunFault) (shapes : List Shape) (stores news now : List StoreWords) → shapes_of stores ≡ shapes → news ≡ now
    → IsOkAnd (m (shapes_of stores)) (StandForState (shapes_of stores) now) → IsOkAnd (m shapes) (StandForState shapes news)
ran_ok m shapes stores news now same is ok =
    subst (λ (ss : List Shape). IsOkAnd (m ss) (StandForState ss news)) same
    (subst (λ (n : List StoreWords). IsOkAnd (m (shapes_of stores)) (StandForState (shapes_of stores) n)) (sym is) ok)

pub ran_err : {A : Type 0} (view : A → List StoreWords) (m : List Shape → Result FlatState RunFault) (shapes : List Shape) (stores news : List StoreWords) (r : Result Unit (Stop RunFault)) (e : Stop RunFault)
    → shapes_of stores ≡ shapes → IsErrAnd r (λ x. x ≡ e) → CopiesRan view (shapes_of stores) (Err e) (m (shapes_of stores)) → Ran shapes news r (m shapes)
ran_err view m shapes stores news (Ok x) e same is h = absurd is
ran_err view m shapes stores news (Err stop.Memory) e same is h = tt
ran_err view m shapes stores news (Err (stop.Refused fault)) e same is h =
    ap m (sym same) ∙ subst (λ (x : Stop RunFault). CopiesRan view (shapes_of stores) (Err x) (m (shapes_of stores))) (sym is) h

pub runnable_here : (shapes : List Shape) (stores : List StoreWords) (kernel : KernelCode) → shapes_of stores ≡ shapes → IsRunnable shapes kernel → IsRunnable (shapes_of stores) kernel
runnable_here shapes stores kernel same runnable = subst (λ (ss : List Shape). IsRunnable ss kernel) (sym same) runnable
