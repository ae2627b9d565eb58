-- A group of runs that was performed, among the tasks of a program.
use Rattle.std.proofs.Common.{◌≡◌, ℕ, zero, suc, ◌+◌, ◌-◌, ◌<◌, ◌≤◌, inl, inr, List, [], ◌∷◌, ◌++◌, map, length, drop, Option, Some, None, refl, sym, ap, ◌∙◌, subst, arith}
use Rattle.std.specs.Prelude.{Contains, slice_get, Result, Err, IfOk}
use Rattle.std.specs.List.{AllByRecursion}
use Rattle.std.proofs.lemmas.List.{drop_all, length-append, length-drop, length-map}
use Rattle.sg_words.specs.declared.memory.Stop.{Stop}
use Rattle.sg_words.proofs.Uses.{contains_none, contains_cases}
use Rattle.sg_outside.specs.Files.{Missing}
use Rattle.sg_layout.specs.declared.shape.Shape.{Shape}
use Rattle.sg_flat.specs.declared.state.FlatState.{FlatState}
use Rattle.sg_store.specs.StoreWords.{StoreWords}
use Rattle.sg_names.specs.Tables.{Tables}
use Rattle.sg_exec.specs.Standing.{StandForState}
use Rattle.sg_batch.specs.declared.fault.BatchFault.{BatchFault}
use Rattle.sg_batch.specs.Batches.{GroupEnd, EndsAs, group_end, members}
use Rattle.sg_batch.specs.steps.Passing.{FlatAlong}
use Rattle.sg_session.specs.declared.refusal.RunRefusal.TheVariants as refusal
use Rattle.sg_session.specs.declared.binds.Bind.{Bind}
use Rattle.sg_session.specs.declared.tasks.Task.{Task}
use Rattle.sg_session.specs.declared.tasks.Task.TheVariants.{Run}
use Rattle.sg_session.specs.Compiled.{CheckedProgram, CompiledProgram, Compiles, IsTask}
use Rattle.sg_session.specs.Commands.{task_meaning}
use Rattle.sg_session.specs.Performed.{SessionParts}
use Rattle.sg_session.specs.Bindings.{binding_read}
use Rattle.sparsegrid.specs.declared.output.PutFailed.{PutFailed}
use Rattle.sparsegrid.specs.declared.showing.Showing.{Showing}
use Rattle.sparsegrid.specs.declared.showing.Showing.TheVariants.{Texts, Image, Advice, Changes}
use Rattle.sparsegrid.specs.Telling.{Telling, telling_of}
use Rattle.sparsegrid.specs.Lines.{run_last}
use Rattle.sparsegrid.specs.Meaning.{after_moves, meaning_of_tasks}
use Rattle.sparsegrid.specs.Outcome.{Outside}
use Rattle.sparsegrid.specs.steps.Along.{Came, Sends, Went, line_text, ended_with}
use Rattle.sparsegrid.specs.steps.Grouping.{AreRuns}
use Rattle.sparsegrid.proofs.Going.{stays_same}
use Rattle.sparsegrid.proofs.Tasks.{ended_in_task}
use Rattle.sparsegrid.proofs.Advancing.{drop_by}
use Rattle.sparsegrid.proofs.Grouped.{reaches, all_runs, stopped_at, StoppedAt, came_further, came_on}

-- nothing is shown of a run
pub quiet_of : (names : Tables) (shapes : List Shape) (what : Showing) (number : ℕ) → (telling_of names shapes what).each number [] ≡ []
quiet_of names shapes Texts number = refl
quiet_of names shapes Image number = refl
quiet_of names shapes Advice number = refl
quiet_of names shapes Changes number = refl

-- the kernels of a group are there
pub runs_there : (compiled : CompiledProgram) (group : List ℕ) (rest : List Task) → AllByRecursion (IsTask compiled) (map (λ number. Run number) group ++ rest)
    → (number : ℕ) → Contains group number → number < length compiled.kernels
runs_there compiled [] rest all number has = absurd (contains_none number has)
runs_there compiled (first ∷ group) rest all number has = elim (contains_cases number first group has) [
  | inl same ↦ subst (λ (n : ℕ). n < length compiled.kernels) same all.0
  | inr later ↦ runs_there compiled group rest all.1 number later
]

pub group_there : (compiled : CompiledProgram) (tasks : List Task) (at : ℕ) (group : List ℕ) → AllByRecursion (IsTask compiled) tasks → AreRuns (drop at tasks) group
    → (number : ℕ) → Contains group number → number < length compiled.kernels
group_there compiled tasks at group all runs = runs_there compiled group runs.rest (subst (AllByRecursion (IsTask compiled)) runs.split (drop_by (IsTask compiled) tasks at all))

-- the tasks behind a group
drop_runs : (group : List ℕ) (rest : List Task) → drop (length group) (map (λ number. Run number) group ++ rest) ≡ rest
drop_runs [] rest = refl
drop_runs (number ∷ group) rest = drop_runs group rest

drop_twice : {A : Type 0} (m n : ℕ) (xs : List A) → drop n (drop m xs) ≡ drop (n + m) xs
drop_twice zero n xs = ap (λ (k : ℕ). drop k xs) (plain n)
  where
    plain : (k : ℕ) → k ≡ k + 0
    plain k = omega arith
drop_twice {A} (suc m) n [] = drop_all n [] (low n) ∙ sym (drop_all (n + suc m) [] (low (n + suc m)))
  where
    low : (k : ℕ) → 0 ≤ k
    low k = omega arith
drop_twice (suc m) n (x ∷ xs) = drop_twice m n xs ∙ sym (ap (λ (k : ℕ). drop k (x ∷ xs)) (next n))
  where
    next : (k : ℕ) → k + suc m ≡ suc (k + m)
    next k = omega arith

-- a group ends within the tasks
pub group_within : (tasks : List Task) (at : ℕ) (group : List ℕ) → at ≤ length tasks → AreRuns (drop at tasks) group → at + length group ≤ length tasks
group_within tasks at group below runs =
    let cut : length (drop at tasks) ≡ length tasks - at = length-drop at tasks in
    let whole : length (drop at tasks) ≡ length (map (λ number. Run number) group) + length runs.rest = ap length runs.split ∙ length-append (map (λ number. Run number) group) runs.rest in
    let long : length (map (λ number. Run number) group) ≡ length group = length-map group (λ (number : ℕ). Run number) in
    omega (arith, cut, whole, long, below)

rest_is : (tasks : List Task) (at : ℕ) (group : List ℕ) (runs : AreRuns (drop at tasks) group) → runs.rest ≡ drop (length group + at) tasks
rest_is tasks at group runs = sym (drop_runs group runs.rest) ∙ ap (drop (length group)) (sym runs.split) ∙ drop_twice at (length group) tasks

module _ (program : CheckedProgram) (other : CompiledProgram) (compiles : Compiles program other) (binds : List Bind) (telling : Telling) (quiet : (number : ℕ) → telling.each number [] ≡ []) (earlier : ℕ) (start : FlatState) (tasks : List Task) (at : ℕ) (group : List ℕ)
    (stores stores' : List StoreWords) (before now : Outside) (came : Came program (map binding_read binds) telling earlier start tasks at (drop at tasks) stores before now) (runs : AreRuns (drop at tasks) group)
    (there : (number : ℕ) → Contains group number → number < length other.kernels) (flat : FlatAlong other.layouts came.state (members other.kernels group)) where
  abbrev end : GroupEnd
  end = group_end other.layouts 0 came.state (members other.kernels group)

  stand_for : (refused : Option BatchFault) → EndsAs other.layouts stores' refused end → StandForState program.layouts stores' end.state
  stand_for refused ends = subst (λ (ls : List Shape). StandForState ls stores' end.state) compiles.layouts ends.stand

  -- all of them are done
  pub group_further : EndsAs other.layouts stores' None end → Came program (map binding_read binds) telling earlier start tasks (at + length group) (drop (at + length group) tasks) stores' before now
  group_further ends =
      let order : length group + at ≡ at + length group = omega arith in
      let done = all_runs program other compiles binds telling quiet 0 group came.state end.state there flat (ap (λ (refused : Option BatchFault). record { state = end.state; refused = refused }) ends.refusal) in
      subst (λ (n : ℕ). Came program (map binding_read binds) telling earlier start tasks n (drop n tasks) stores' before now) order
      (came_further program other compiles binds telling quiet earlier start tasks at (drop at tasks) (length group) (drop (length group + at) tasks) end.state stores stores' before now came (stand_for None ends) done.passed
      (λ readings n.
      ap (meaning_of_tasks program (map binding_read binds) telling readings at n came.state) runs.split
      ∙ done.means_is readings at n runs.rest
      ∙ ap (λ (rest : List Task). after_moves (reaches program other compiles binds telling quiet done.passed) (meaning_of_tasks program (map binding_read binds) telling readings (length group + at) n end.state rest)) (rest_is tasks at group runs)))

  -- one of them is refused: those before it are done
  pub group_stopped : (fault : BatchFault) → EndsAs other.layouts stores' (Some fault) end → StoppedAt program other compiles binds telling quiet 0 came.state group end.state fault
  group_stopped fault ends = stopped_at program other compiles binds telling quiet 0 group came.state end.state fault there flat
      (ap (λ (refused : Option BatchFault). record { state = end.state; refused = refused }) ends.refusal)

  item_there : (before later : List ℕ) (kernel : ℕ) → slice_get (before ++ kernel ∷ later) (length before) ≡ Some kernel
  item_there [] later kernel = refl
  item_there (first ∷ before) later kernel = item_there before later kernel

  -- its last line was written
  pub group_ended : (fault : BatchFault) (kernel : ℕ) (session : SessionParts) (answer : Result ℕ (Stop PutFailed)) (after : Outside) → EndsAs other.layouts stores' (Some fault) end → slice_get group fault.at ≡ Some kernel
      → session.stores ≡ stores' → Compiles program session.compiled
      → Sends answer now.output after.output (line_text (run_last program.names None (Run kernel) (refusal.Run (Some kernel) fault.fault)))
      → IfOk answer (λ status. status ≡ (run_last program.names None (Run kernel) (refusal.Run (Some kernel) fault.fault)).status)
      → after.asked ≡ now.asked → after.reads ≡ now.reads → after.failed_reads ≡ now.failed_reads
      → Went (λ readings. meaning_of_tasks program (map binding_read binds) telling readings 0 earlier start tasks) earlier before after (ended_with session answer)
  group_ended fault kernel session answer after ends is stay same sent status asked reads faults =
      (ended_in_task program binds telling earlier start tasks (length stopped.before + at) rest later (Run kernel) stores' session before now now after (refusal.Run (Some kernel) fault.fault) answer
      (ap (λ (k : ℕ). Run k ∷ later) (sym same_kernel)) same
      further.0
      (record {
        has = tt;
        chosen = (
          Missing,
          subst (λ (s : FlatState). task_meaning program s (Run kernel) Missing ≡ Err (refusal.Run (Some kernel) fault.fault)) (sym further.1)
              (subst (λ (k : ℕ). task_meaning program end.state (Run k) Missing ≡ Err (refusal.Run (Some k) fault.fault)) (sym same_kernel) stopped.means_refused),
          λ h told. refl,
        );
        asked = refl;
        reads = refl;
        cause = refl;
        held = refl;
      })
      stay (stays_same now.output) sent status asked reads faults).went
    where
      stopped : StoppedAt program other compiles binds telling quiet 0 came.state group end.state fault
      stopped = group_stopped fault ends

      later : List Task
      later = map (λ number. Run number) stopped.later ++ runs.rest

      rest : List Task
      rest = Run stopped.kernel ∷ later

      further : (next : Came program (map binding_read binds) telling earlier start tasks (length stopped.before + at) rest stores' before now) × (next.state ≡ end.state)
      further =
          came_on program other compiles binds telling quiet earlier start tasks at (drop at tasks) (length stopped.before) rest end.state stores stores' before now came (stand_for (Some fault) ends) stopped.passed
          (λ readings n. ap (meaning_of_tasks program (map binding_read binds) telling readings at n came.state) runs.split ∙ stopped.means_is readings at n runs.rest)

      some_same : (x y : ℕ) → Some x ≡ Some y → x ≡ y
      some_same x y e = ap (λ (o : Option ℕ). or_first x o) e
        where
          or_first : ℕ → Option ℕ → ℕ
          or_first d None = d
          or_first d (Some z) = z

      same_kernel : kernel ≡ stopped.kernel
      same_kernel =
          let place : fault.at ≡ length stopped.before = let is_at = stopped.place in omega (arith, is_at) in
          some_same kernel stopped.kernel
          (sym is ∙ ap (λ (list : List ℕ). slice_get list fault.at) stopped.split ∙ ap (slice_get (stopped.before ++ stopped.kernel ∷ stopped.later)) place ∙ item_there stopped.before stopped.later stopped.kernel)
