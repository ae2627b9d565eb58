-- How far tasks come, one by one or by groups of runs that are performed at the same time.
use Rattle.std.specs.Prelude.{◌≡◌, ◌≢◌, ℕ, zero, suc, ◌≤◌, ◌<◌, min, List, [], ◌∷◌, ◌++◌, map, take, drop, length, Option, Some, None, Result, Ok, Err}
use Rattle.std.specs.Option.{option_map_or}
use Rattle.sg_words.specs.declared.memory.Stop.{Stop}
use Rattle.sg_flat.specs.declared.state.FlatState.{FlatState}
use Rattle.sg_store.specs.StoreWords.{StoreWords}
use Rattle.sg_session.specs.Performed.{SessionParts}
use Rattle.sg_session.specs.Bindings.{Binding}
use Rattle.sparsegrid.specs.declared.drive.Advance.{Advance}
use Rattle.sparsegrid.specs.declared.drive.Advance.TheVariants.{Further, Ended}
use Rattle.sparsegrid.specs.declared.output.PutFailed.{PutFailed}
use Rattle.sparsegrid.specs.Telling.{Telling}
use Rattle.sparsegrid.specs.Meaning.{meaning_of_tasks}
use Rattle.sparsegrid.specs.Outcome.{Outside}
use Rattle.sparsegrid.specs.steps.Along.{Came, Went, ended_with}
use Rattle.sg_session.specs.declared.tasks.Task.{Task}
use Rattle.sg_session.specs.declared.tasks.Task.TheVariants.{Load, Run, Dump, Image, Stats, Prune, Clear}
use Rattle.sg_session.specs.Compiled.{CheckedProgram, CompiledProgram}
use Rattle.sg_batch.specs.Independent.{IsLongestFront}

-- tasks begin with the runs of the kernels of these numbers
pub record AreRuns (tasks : List Task) (numbers : List ℕ) : Type 0 where
  pub rest : List Task
  pub split : tasks ≡ map (λ number. Run number) numbers ++ rest

-- the kernel that a task runs, if it runs one
abbrev pub run_number : Task → Option ℕ
run_number (Load field) = None
run_number (Run kernel) = Some kernel
run_number (Dump field) = None
run_number (Image field lo hi) = None
run_number (Stats layout) = None
run_number (Prune layout) = None
run_number (Clear layout) = None

-- the kernels of the runs at the front of tasks, at most so many
abbrev pub runs_front : List Task → ℕ → List ℕ
runs_front [] most = []
runs_front (task ∷ tasks) zero = []
runs_front (task ∷ tasks) (suc most) = option_map_or (λ kernel. kernel ∷ runs_front tasks most) (run_number task) []

-- how many kernels may run at the same time on so many workers
abbrev pub most_members : ℕ → ℕ
most_members workers = min 4 workers

-- these are the kernels of the longest group at the front of tasks, for so many workers
pub record IsGroup (compiled : CompiledProgram) (tasks : List Task) (workers : ℕ) (group : List ℕ) : Type 0 where
  pub front : group ≡ take (length group) (runs_front tasks (most_members workers))
  pub longest : IsLongestFront compiled.kernels (runs_front tasks (most_members workers)) (most_members workers) (length group)

-- an end with the status that was given
abbrev pub ended_as : Result ℕ (Stop PutFailed) → Result Advance (Stop PutFailed)
ended_as (Ok status) = Ok (Ended status)
ended_as (Err why) = Err why

-- further than a place and not past the end, or an end that isn't that of a failed put or of want of memory
abbrev pub IsAdvance : ℕ → ℕ → Advance → Type 0
IsAdvance at all (Further next) = (at < next) × (next ≤ all)
IsAdvance at all (Ended status) = (status ≢ 3) × (status ≢ 9)

-- from where tasks came to at a place: they came further, or all went
abbrev pub AdvancedTo : CheckedProgram → List Binding → Telling → ℕ → FlatState → List Task → SessionParts → Outside → Outside → Result Advance (Stop PutFailed) → Type 0
AdvancedTo program bindings telling earlier start tasks session before now (Ok (Further next)) =
    Came program bindings telling earlier start tasks next (drop next tasks) session.stores before now
AdvancedTo program bindings telling earlier start tasks session before now (Ok (Ended status)) =
    Went (λ readings. meaning_of_tasks program bindings telling readings 0 earlier start tasks) earlier before now (ended_with session (Ok status))
AdvancedTo program bindings telling earlier start tasks session before now (Err why) =
    Went (λ readings. meaning_of_tasks program bindings telling readings 0 earlier start tasks) earlier before now (Err why)

-- so it is from all that may have come before
abbrev pub Advances : CheckedProgram → List Binding → Telling → List Task → ℕ → List StoreWords → SessionParts → Outside → Outside → Result Advance (Stop PutFailed) → Type 0
Advances program bindings telling tasks at stores session now next result =
    (earlier : ℕ) (start : FlatState) (before : Outside) → Came program bindings telling earlier start tasks at (drop at tasks) stores before now →
    AdvancedTo program bindings telling earlier start tasks session before next result
