-- Tasks one by one, or by groups of runs.
use Rattle.std.proofs.Common.{◌≡◌, ◌≢◌, ℕ, zero, suc, ◌+◌, ◌<◌, List, [], ◌∷◌, map, length, drop, get_or, Option, Result, Ok, Err, refl, sym, subst, arith}
use Rattle.std.specs.Prelude.{IfOk}
use Rattle.std.specs.List.{AllByRecursion}
use Rattle.sg_words.specs.declared.memory.Stop.{Stop}
use Rattle.sg_words.specs.declared.memory.Stop.TheVariants as stop
use Rattle.sg_flat.specs.declared.state.FlatState.{FlatState}
use Rattle.sg_store.specs.StoreWords.{StoreWords}
use Rattle.sg_names.specs.Tables.{Tables}
use Rattle.sg_session.specs.declared.refusal.RunRefusal.{RunRefusal}
use Rattle.sg_session.specs.declared.binds.Bind.{Bind}
use Rattle.sg_session.specs.declared.tasks.Task.{Task}
use Rattle.sg_session.specs.Compiled.{CheckedProgram}
use Rattle.sg_session.specs.Bindings.{Binding, binding_read}
use Rattle.sg_session.specs.Performed.{SessionParts}
use Rattle.sparsegrid.specs.declared.drive.Advance.{Advance}
use Rattle.sparsegrid.specs.declared.output.PutFailed.{PutFailed}
use Rattle.sparsegrid.specs.Telling.{Telling}
use Rattle.sparsegrid.specs.Lines.{run_last}
use Rattle.sparsegrid.specs.Meaning.{meaning_of_tasks}
use Rattle.sparsegrid.specs.Outcome.{Outside}
use Rattle.sparsegrid.specs.steps.Along.{Came, SendCause, Went, ended_with}
use Rattle.sparsegrid.specs.steps.Grouping.{AdvancedTo, IsAdvance, ended_as}
use Rattle.sparsegrid.proofs.Going.{stays_same, went_memory}
use Rattle.sparsegrid.proofs.Tasks.{came_went, run_statuses, tasks_end}

-- what holds of all tasks holds of the one at a place
pub all_here : {A : Type 0} (P : A → Type 0) (xs : List A) (i : ℕ) (other : A) → i < length xs → AllByRecursion P xs → P (get_or xs i other)
all_here P [] i other below all = absurd (omega (arith, below))
all_here P (x ∷ xs) zero other below all = all.0
all_here P (x ∷ xs) (suc i) other below all = all_here P xs i other (omega (arith, below)) all.1

-- and of those from a place on
pub drop_by : {A : Type 0} (P : A → Type 0) (xs : List A) (i : ℕ) → AllByRecursion P xs → AllByRecursion P (drop i xs)
drop_by P xs zero all = all
drop_by P [] (suc i) all = tt
drop_by P (x ∷ xs) (suc i) all = drop_by P xs i all.1

-- the run ended as it was answered
pub advanced_end : (program : CheckedProgram) (bindings : List Binding) (telling : Telling) (earlier : ℕ) (start : FlatState) (tasks : List Task) (session : SessionParts) (before now : Outside)
    (answer : Result ℕ (Stop PutFailed)) (result : Result Advance (Stop PutFailed)) → result ≡ ended_as answer
    → Went (λ readings. meaning_of_tasks program bindings telling readings 0 earlier start tasks) earlier before now (ended_with session answer)
    → AdvancedTo program bindings telling earlier start tasks session before now result
advanced_end program bindings telling earlier start tasks session before now (Ok status) result is went = subst (AdvancedTo program bindings telling earlier start tasks session before now) (sym is) went
advanced_end program bindings telling earlier start tasks session before now (Err why) result is went = subst (AdvancedTo program bindings telling earlier start tasks session before now) (sym is) went

-- its status isn't that of a failed put or of want of memory
pub ended_status : (at all : ℕ) (names : Tables) (file : Option (List ℕ)) (task : Task) (why : RunRefusal) (answer : Result ℕ (Stop PutFailed)) (result : Result Advance (Stop PutFailed)) → result ≡ ended_as answer
    → IfOk answer (λ status. status ≡ (run_last names file task why).status) → IfOk result (IsAdvance at all)
ended_status at all names file task why (Ok status) result is same =
    subst (λ (r : Result Advance (Stop PutFailed)). IfOk r (IsAdvance at all)) (sym is) (subst (λ (n : ℕ). (n ≢ 3) × (n ≢ 9)) (sym same) (run_statuses names file task why))
ended_status at all names file task why (Err e) result is same = subst (λ (r : Result Advance (Stop PutFailed)). IfOk r (IsAdvance at all)) (sym is) tt

-- and the sink's count of faults is as it was answered
pub ended_cause : (answer : Result ℕ (Stop PutFailed)) (result : Result Advance (Stop PutFailed)) (old now : ℕ) → result ≡ ended_as answer → SendCause answer old now → SendCause result old now
ended_cause (Ok status) result old now is cause = subst (λ (r : Result Advance (Stop PutFailed)). SendCause r old now) (sym is) cause
ended_cause (Err (stop.Refused failed)) result old now is cause = subst (λ (r : Result Advance (Stop PutFailed)). SendCause r old now) (sym is) cause
ended_cause (Err stop.Memory) result old now is cause = subst (λ (r : Result Advance (Stop PutFailed)). SendCause r old now) (sym is) cause

-- there was no memory for what comes next
pub advanced_memory : (program : CheckedProgram) (binds : List Bind) (telling : Telling) (earlier : ℕ) (start : FlatState) (tasks : List Task) (at : ℕ) (stores : List StoreWords) (before now : Outside)
    → Came program (map binding_read binds) telling earlier start tasks at (drop at tasks) stores before now
    → Went (λ readings. meaning_of_tasks program (map binding_read binds) telling readings 0 earlier start tasks) earlier before now (Err stop.Memory)
advanced_memory program binds telling earlier start tasks at stores before now came =
    came_went program binds telling earlier start tasks at (drop at tasks) stores before now now (Err stop.Memory) came
    (went_memory (λ readings. meaning_of_tasks program (map binding_read binds) telling readings at (length came.made + earlier) came.state (drop at tasks)) (length came.made + earlier) now now
    (λ readings. tasks_end program (map binding_read binds) telling readings at (length came.made + earlier) came.state (drop at tasks)) (stays_same now.output) refl refl refl)
