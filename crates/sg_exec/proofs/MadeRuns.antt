-- From what was made to what a run answers.
use Rattle.std.proofs.Common.{◌≡◌, List, Result, Ok, Err, sym, ap, ◌∙◌, subst}
use Rattle.std.specs.Result.{IsErrAnd}
use Rattle.sg_words.specs.declared.memory.Stop.{Stop}
use Rattle.sg_words.specs.declared.memory.Stop.TheVariants as stop
use Rattle.sg_layout.specs.declared.shape.Shape.{Shape}
use Rattle.sg_flat.specs.declared.effects.RunFault.{RunFault}
use Rattle.sg_flat.specs.declared.state.FlatState.{FlatState}
use Rattle.sg_store.specs.StoreWords.{StoreWords}
use Rattle.sg_exec.specs.declared.results.made.Made.{Made}
use Rattle.sg_exec.specs.Standing.{shapes_of}
use Rattle.sg_exec.specs.Running.{Ran}
use Rattle.sg_exec.specs.steps.Made.{MadeRan}

-- errors that go on
pub made_stopped : (stores : List StoreWords) (meaning : Result FlatState RunFault) (r : Result Made (Stop RunFault)) (e : Stop RunFault) → IsErrAnd r (λ x. x ≡ e)
    → ((fault : RunFault) → e ≡ stop.Refused fault → meaning ≡ Err fault) → MadeRan stores r meaning
made_stopped stores meaning (Ok x) e is on = absurd is
made_stopped stores meaning (Err stop.Memory) e is on = tt
made_stopped stores meaning (Err (stop.Refused fault)) e is on = on fault (sym is)

-- the stores of these layouts
pub made_err : (m : List Shape → Result FlatState RunFault) (shapes : List Shape) (stores news : List StoreWords) (r : Result Unit (Stop RunFault)) (e : Stop RunFault)
    → shapes_of stores ≡ shapes → IsErrAnd r (λ x. x ≡ e) → MadeRan stores (Err e) (m (shapes_of stores)) → Ran shapes news r (m shapes)
made_err m shapes stores news (Ok x) e same is h = absurd is
made_err m shapes stores news (Err stop.Memory) e same is h = tt
made_err m shapes stores news (Err (stop.Refused fault)) e same is h =
    ap m (sym same) ∙ subst (λ (x : Stop RunFault). MadeRan stores (Err x) (m (shapes_of stores))) (sym is) h
