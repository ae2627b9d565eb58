-- One task of a program more.
use Rattle.std.proofs.Common.{◌≡◌, ◌≢◌, ℕ, suc, ◌+◌, Bool, true, false, List, [], ◌∷◌, ◌++◌, map, length, Option, Some, None, Result, Ok, Err, IfOk, refl, sym, ap, ◌∙◌, subst, append_assoc, arith}
use Rattle.std.specs.Prelude.{IsSome, slice_get}
use Rattle.sg_words.specs.Results.{◌>>=◌, fault_as}
use Rattle.std.specs.Option.{IfSome}
use Rattle.std.proofs.lemmas.List.{append-nil, length-append}
use Rattle.std.specs.List.{AllByRecursion}
use Rattle.sg_words.specs.declared.memory.Stop.{Stop}
use Rattle.sg_words.specs.declared.memory.Stop.TheVariants as stop
use Rattle.sg_words.specs.declared.text.Text.{Text}
use Rattle.sg_outside.specs.Counts.{Rose, one_more}
use Rattle.sg_outside.specs.Files.{Held, Reading, Bytes, TooMany, Missing, reading, asked_too}
use Rattle.sg_layout.specs.declared.shape.Shape.{Shape}
use Rattle.sg_flat.specs.declared.state.FlatState.{FlatState}
use Rattle.sg_flat.specs.declared.effects.Write.{Write}
use Rattle.sg_flat.specs.declared.effects.RunFault.{RunFault}
use Rattle.sg_flat.specs.declared.effects.RunFault.TheVariants.{WriteOutside, PoolFull}
use Rattle.sg_names.specs.Tables.{Tables}
use Rattle.sg_store.specs.StoreWords.{StoreWords}
use Rattle.sg_grid.specs.Limits.{most_grid_bytes}
use Rattle.sg_grid.specs.declared.grid.GridFault.{GridFault}
use Rattle.sg_grid.specs.declared.grid.GridFault.TheVariants as grid
use Rattle.sg_exec.specs.Standing.{StandForState}
use Rattle.sg_exec.specs.Running.{load_meaning}
use Rattle.sg_session.specs.declared.refusal.RunRefusal.{RunRefusal}
use Rattle.sg_session.specs.declared.refusal.RunRefusal.TheVariants as refusal
use Rattle.sg_session.specs.declared.binds.Bind.{Bind}
use Rattle.sg_session.specs.Performed.{SessionParts}
use Rattle.sg_session.specs.declared.tasks.Task.{Task}
use Rattle.sg_session.specs.declared.tasks.Task.TheVariants.{Load, Run, Dump, Image, Stats, Prune, Clear}
use Rattle.sg_session.specs.Compiled.{CheckedProgram, CompiledProgram, Compiles}
use Rattle.sg_session.specs.Commands as commands
use Rattle.sg_session.specs.Commands.{Left, compiled_meaning, task_meaning}
use Rattle.sg_session.proofs.Uses.{task_kept}
use Rattle.sg_session.specs.Performed.{HasFile, LeavesMeaning, Performs, StepCause, reading_of, asked_after, reads_after}
use Rattle.sg_session.specs.Bindings.{Binding, binding_read, file_of_task}
use Rattle.sparsegrid.specs.declared.output.PutFailed.{PutFailed}
use Rattle.sparsegrid.specs.declared.session.Done.{Done}
use Rattle.sparsegrid.specs.declared.last_line.LastLine.{LastLine}
use Rattle.sparsegrid.specs.Lines.{run_last}
use Rattle.sparsegrid.specs.Moves.{Move, ReadsFile, Reaches, Reached, writing, reaching, names_in, reached_in}
use Rattle.sparsegrid.specs.Telling.{Telling}
use Rattle.sparsegrid.specs.Meaning.{Meaning, Readings, moves_of, after_moves, refused_with, done_with, asking_for, at_state, after_task, task_and_more, meaning_of_tasks}
use Rattle.sparsegrid.specs.Outcome.{Output, Outside, StaysWritten, Grew, Made, StandsForLast}
use Rattle.sparsegrid.specs.steps.Along.{PutsText, Sends, line_text, ended_with, Follows, ReadMade, names_of, Agree, AreTold, load_reads, NoneFailed, Went, Came}
use Rattle.sparsegrid.proofs.Writing.{unread_reaching, reached_append, names_append, grew_reaching, grew_part, made_twice, made_none, made_unread, made_read}
use Rattle.sparsegrid.proofs.Readings.{names_twice, told_twice, agree_twice}
use Rattle.sparsegrid.proofs.Going.{EndsInLine, longer, at_text, Gone, gone_text, gone_before, stays_same, went_still, went_memory, went_failed, compose}

-- ---- a refused meaning ends in its line

cons_not_empty : (x : ℕ) (xs : List ℕ) → ◌≢◌ {A = List ℕ} (x ∷ xs) []
cons_not_empty x xs none = absurd (cc)

pub refused_ends : (state : Option FlatState) (last : LastLine) → EndsInLine (refused_with state last)
refused_ends state last = λ other. longer last.line (10 ∷ []) (cons_not_empty 10 [])

some_none : (o : Option (List ℕ)) → IsSome o → o ≡ None → ⊥
some_none None has is = absurd (cc)
some_none (Some name) has is = absurd (cc)

module _ (compiled : CheckedProgram) (bindings : List Binding) (telling : Telling) where
  after_ends : (number : ℕ) (state : FlatState) (file : Option (List ℕ)) (task : Task) (more : FlatState → Meaning) (answer : Result Left RunRefusal)
      → ((next : FlatState) → EndsInLine (more next)) → EndsInLine (after_task compiled telling number state file task more answer)
  after_ends number state file task more (Ok left) rest = rest left.state
  after_ends number state file task more (Err why) rest = refused_ends (Some state) (run_last compiled.names file task why)

  pub tasks_end : (readings : Readings) (number n : ℕ) (state : FlatState) (tasks : List Task) → EndsInLine (meaning_of_tasks compiled bindings telling readings number n state tasks)
  unfolding meaning_of_tasks
  tasks_end readings number n state [] = λ other. absurd (other refl)
  tasks_end readings number n state (task ∷ tasks) = by_file (file_of_task compiled.names bindings task) (λ after next. tasks_end readings (suc number) after next tasks) where
    more : ℕ → FlatState → Meaning
    more after next = meaning_of_tasks compiled bindings telling readings (suc number) after next tasks

    by_file : (file : Option (List ℕ)) → ((after : ℕ) (next : FlatState) → EndsInLine (more after next)) → EndsInLine (task_and_more compiled telling readings number n state task more file)
    by_file None rest = after_ends number state None task (more n) (task_meaning compiled state task Missing) (rest n)
    by_file (Some name) rest =
        after_ends number state (Some name) task (more (suc n)) (task_meaning compiled state task (readings (suc n) name most_grid_bytes)) (rest (suc n))

-- the moves by which a task reads its file, where it has one
abbrev pub load_moves : Option (List ℕ) → List Move
load_moves None = []
load_moves (Some name) = ReadsFile name ∷ []

load_names : (file : Option (List ℕ)) (given : Reading) → names_in (load_moves file) ≡ names_of (load_reads file given)
load_names None given = refl
load_names (Some name) given = refl

pub load_still : (file : Option (List ℕ)) → reached_in (load_moves file) ≡ []
load_still None = refl
load_still (Some name) = refl

module _ (compiled : CheckedProgram) (binds : List Bind) (telling : Telling) where
  pub tasks_step : (readings : Readings) (number n : ℕ) (state : FlatState) (task : Task) (tasks : List Task)
      → meaning_of_tasks compiled (map binding_read binds) telling readings number n state (task ∷ tasks)
      ≡ task_and_more compiled telling readings number n state task (λ after next. meaning_of_tasks compiled (map binding_read binds) telling readings (suc number) after next tasks)
      (file_of_task compiled.names (map binding_read binds) task)
  unfolding meaning_of_tasks
  tasks_step readings number n state task tasks = refl

  tasks_none : (readings : Readings) (number n : ℕ) (state : FlatState) → meaning_of_tasks compiled (map binding_read binds) telling readings number n state [] ≡ done_with telling state
  unfolding meaning_of_tasks
  tasks_none readings number n state = refl

  -- a task without a file means the same whatever was read
  given_same : (state : FlatState) (task : Task) (given : Reading) → HasFile compiled.names (map binding_read binds) task → file_of_task compiled.names (map binding_read binds) task ≡ None
      → task_meaning compiled state task Missing ≡ task_meaning compiled state task given
  given_same state (Load at) given has none = absurd (some_none (file_of_task compiled.names (map binding_read binds) (Load at)) has none)
  given_same state (Run kernel) given has none = refl
  given_same state (Dump at) given has none = refl
  given_same state (Image field lo hi) given has none = refl
  given_same state (Stats layout) given has none = refl
  given_same state (Prune layout) given has none = refl
  given_same state (Clear layout) given has none = refl

  -- what a task and those after it mean, where its read gave this
  one_task : (readings : Readings) (number n : ℕ) (state : FlatState) (task : Task) (tasks : List Task) (given : Reading) → HasFile compiled.names (map binding_read binds) task
      → Agree readings n (load_reads (file_of_task compiled.names (map binding_read binds) task) given)
      → meaning_of_tasks compiled (map binding_read binds) telling readings number n state (task ∷ tasks)
      ≡ after_moves (load_moves (file_of_task compiled.names (map binding_read binds) task))
      (after_task compiled telling number state (file_of_task compiled.names (map binding_read binds) task) task
      (λ next. meaning_of_tasks compiled (map binding_read binds) telling readings (suc number) (length (load_reads (file_of_task compiled.names (map binding_read binds) task) given) + n) next tasks)
      (task_meaning compiled state task given))
  one_task readings number n state task tasks given has agree = tasks_step readings number n state task tasks ∙ by_file (file_of_task compiled.names (map binding_read binds) task) refl agree where
    more : ℕ → FlatState → Meaning
    more after next = meaning_of_tasks compiled (map binding_read binds) telling readings (suc number) after next tasks

    none_more : n ≡ length (load_reads None given) + n
    none_more = omega arith

    one_more_read : (name : List ℕ) → suc n ≡ length (load_reads (Some name) given) + n
    one_more_read name = omega arith

    by_file : (file : Option (List ℕ)) → file_of_task compiled.names (map binding_read binds) task ≡ file → Agree readings n (load_reads file given)
        → task_and_more compiled telling readings number n state task more file
        ≡ after_moves (load_moves file) (after_task compiled telling number state file task (more (length (load_reads file given) + n)) (task_meaning compiled state task given))
    by_file None none agrees =
        ap (λ (a : Result Left RunRefusal). after_task compiled telling number state None task (more n) a) (given_same state task given has none)
        ∙ ap (λ (k : ℕ). after_task compiled telling number state None task (more k) (task_meaning compiled state task given)) none_more
    by_file (Some name) some agrees =
        ap (λ (r : Reading). asking_for name (after_task compiled telling number state (Some name) task (more (suc n)) (task_meaning compiled state task r))) agrees.0
        ∙ ap (λ (k : ℕ). asking_for name (after_task compiled telling number state (Some name) task (more k) (task_meaning compiled state task given))) (one_more_read name)

  regrouped : (one two : List Move) (m : Meaning) → after_moves one (after_moves two m) ≡ after_moves (one ++ two) m
  regrouped one two m = ap (λ (moves : List Move). let n : Meaning = record { moves = moves; line = m.line; status = m.status; last = m.last } in n) (sym (append_assoc one two m.moves))

-- ---- what a step read

-- what was read, of what is said where the files are told and where they aren't
pub given_chosen : (held : Option Held) (file : Option (List ℕ)) (result : Result Text (Stop RunRefusal)) (layouts : List Shape) (stores : List StoreWords) (means : Reading → Result Left RunRefusal)
    → ((h : Held) → held ≡ Some h → Performs layouts stores result (means (reading_of h file result)))
    → ((given : Reading) × Performs layouts stores result (means given))
    → (given : Reading) × Performs layouts stores result (means given) × ((h : Held) → held ≡ Some h → given ≡ reading_of h file result)
given_chosen None file result layouts stores means told performed = (performed.0, performed.1, λ h e. absurd (cc))
given_chosen (Some held) file result layouts stores means told performed =
    (reading_of held file result, told held refl, λ h e. ap (λ (f : Held). reading_of f file result) (same h e))
  where
    same : (h : Held) → Some held ≡ Some h → held ≡ h
    same h e = cc

-- the answer isn't that the read failed
abbrev IsNoRead : Result Text (Stop RunRefusal) → Type 0
IsNoRead result = (field : ℕ) → result ≢ Err (stop.Refused (refusal.Read field))

reading_kept : (held : Held) (name : List ℕ) (result : Result Text (Stop RunRefusal)) → IsNoRead result → reading_of held (Some name) result ≡ reading held name most_grid_bytes
reading_kept held name (Ok text) no_read = refl
reading_kept held name (Err stop.Memory) no_read = refl
reading_kept held name (Err (stop.Refused (refusal.Read field))) no_read = absurd (no_read field refl)
reading_kept held name (Err (stop.Refused (refusal.GridBytes field))) no_read = refl
reading_kept held name (Err (stop.Refused (refusal.GridRows field))) no_read = refl
reading_kept held name (Err (stop.Refused (refusal.Grid field line))) no_read = refl
reading_kept held name (Err (stop.Refused (refusal.Run kernel fault))) no_read = refl

pub reads_told : (held : Held) (file : Option (List ℕ)) (result : Result Text (Stop RunRefusal)) (given : Reading) → IsNoRead result → given ≡ reading_of held file result → AreTold held (load_reads file given)
reads_told held None result given no_read is = tt
reads_told held (Some name) result given no_read is = (is ∙ reading_kept held name result no_read, tt)

pub cause_kept : (result : Result Text (Stop RunRefusal)) (before now : ℕ) → IsNoRead result → StepCause result before now → now ≡ before
cause_kept (Ok text) before now no_read cause = cause
cause_kept (Err stop.Memory) before now no_read cause = cause
cause_kept (Err (stop.Refused (refusal.Read field))) before now no_read cause = absurd (no_read field refl)
cause_kept (Err (stop.Refused (refusal.GridBytes field))) before now no_read cause = cause
cause_kept (Err (stop.Refused (refusal.GridRows field))) before now no_read cause = cause
cause_kept (Err (stop.Refused (refusal.Grid field line))) before now no_read cause = cause
cause_kept (Err (stop.Refused (refusal.Run kernel fault))) before now no_read cause = cause

-- what a step read
pub made_by_load : (file : Option (List ℕ)) (now next : Outside) → StaysWritten now.output next.output → next.asked ≡ asked_after file now.asked → next.reads ≡ reads_after file now.reads
    → Made (load_moves file) [] now next
made_by_load None now next stays asked reads = made_none now next stays asked reads
made_by_load (Some name) now next stays asked reads = made_read name now next stays asked reads

-- a task whose read failed was told so: only a missing file means it
pub read_refused : (compiled : CheckedProgram) (state : FlatState) (task : Task) (given : Reading) (field : ℕ) → task_meaning compiled state task given ≡ Err (refusal.Read field) → given ≡ Missing
read_refused compiled state (Load at) Missing field is = refl
read_refused compiled state (Load at) TooMany field is = absurd (cc)
read_refused compiled state (Load at) (Bytes bytes) field is = by_writes (commands.field_writes compiled.layouts at bytes) is where
  by_writes : (writes : Result (List Write) GridFault) → ◌≡◌ {A = Result Left RunRefusal}
      ((fault_as (commands.grid_refusal at.number) writes >>= (λ rows. fault_as (refusal.Run None) (load_meaning compiled.layouts state rows))) >>= (λ after. Ok (commands.without_text after))) (Err (refusal.Read field))
      → Bytes bytes ≡ Missing
  by_writes (Ok rows) e = by_loaded (load_meaning compiled.layouts state rows) e where
    by_loaded : (answer : Result FlatState RunFault) → ◌≡◌ {A = Result Left RunRefusal} (fault_as (refusal.Run None) answer >>= (λ after. Ok (commands.without_text after))) (Err (refusal.Read field)) → Bytes bytes ≡ Missing
    by_loaded (Ok after) e = absurd (cc)
    by_loaded (Err fault) e = absurd (cc)
  by_writes (Err (grid.BadText line)) e = absurd (cc)
  by_writes (Err (grid.Outside line)) e = absurd (cc)
  by_writes (Err (grid.NotRising line)) e = absurd (cc)
  by_writes (Err grid.TooManyBytes) e = absurd (cc)
  by_writes (Err grid.TooManyRows) e = absurd (cc)
read_refused compiled state (Run kernel) given field is = absurd (by_run (commands.after_kernel compiled.layouts state (slice_get compiled.kernels kernel)) is) where
  by_run : (answer : Result FlatState RunFault) → ◌≡◌ {A = Result Left RunRefusal} (fault_as (refusal.Run (Some kernel)) answer >>= (λ after. Ok (commands.without_text after))) (Err (refusal.Read field)) → ⊥
  by_run (Ok after) e = absurd (cc)
  by_run (Err fault) e = absurd (cc)
read_refused compiled state (Dump at) given field is = absurd (cc)
read_refused compiled state (Image at lo hi) given field is = absurd (cc)
read_refused compiled state (Stats layout) given field is = absurd (cc)
read_refused compiled state (Prune layout) given field is = absurd (cc)
read_refused compiled state (Clear layout) given field is = absurd (cc)

-- ---- the statuses of refused tasks

abbrev is_read : RunRefusal → Bool
is_read (refusal.Read field) = true
is_read (refusal.GridBytes field) = false
is_read (refusal.GridRows field) = false
is_read (refusal.Grid field line) = false
is_read (refusal.Run kernel fault) = false

pub run_statuses : (names : Tables) (file : Option (List ℕ)) (task : Task) (why : RunRefusal) → ((run_last names file task why).status ≢ 3) × ((run_last names file task why).status ≢ 9)
run_statuses names file task (refusal.Read field) = ((λ e. absurd (omega arith)), (λ e. absurd (omega arith)))
run_statuses names file task (refusal.GridBytes field) = ((λ e. absurd (omega arith)), (λ e. absurd (omega arith)))
run_statuses names file task (refusal.GridRows field) = ((λ e. absurd (omega arith)), (λ e. absurd (omega arith)))
run_statuses names file task (refusal.Grid field line) = ((λ e. absurd (omega arith)), (λ e. absurd (omega arith)))
run_statuses names file task (refusal.Run kernel (WriteOutside stmt at)) = ((λ e. absurd (omega arith)), (λ e. absurd (omega arith)))
run_statuses names file task (refusal.Run kernel (PoolFull layout node most)) = ((λ e. absurd (omega arith)), (λ e. absurd (omega arith)))

no_read_status : (names : Tables) (file : Option (List ℕ)) (task : Task) (why : RunRefusal) → is_read why ≡ false → (run_last names file task why).status ≢ 2
no_read_status names file task (refusal.Read field) no_read = absurd (cc)
no_read_status names file task (refusal.GridBytes field) no_read = λ e. absurd (omega arith)
no_read_status names file task (refusal.GridRows field) no_read = λ e. absurd (omega arith)
no_read_status names file task (refusal.Grid field line) no_read = λ e. absurd (omega arith)
no_read_status names file task (refusal.Run kernel (WriteOutside stmt at)) no_read = λ e. absurd (omega arith)
no_read_status names file task (refusal.Run kernel (PoolFull layout node most)) no_read = λ e. absurd (omega arith)

no_read_refusal : (why : RunRefusal) → is_read why ≡ false → IsNoRead (Err (stop.Refused why))
no_read_refusal (refusal.Read field) no_read = absurd (cc)
no_read_refusal (refusal.GridBytes field) no_read = λ f e. absurd (cc)
no_read_refusal (refusal.GridRows field) no_read = λ f e. absurd (cc)
no_read_refusal (refusal.Grid field line) no_read = λ f e. absurd (cc)
no_read_refusal (refusal.Run kernel fault) no_read = λ f e. absurd (cc)

-- ---- performed tasks

-- what the outside tells after a step, of which a task is known to have read this
pub record Stepped (compiled : CheckedProgram) (binds : List Bind) (state : FlatState) (task : Task) (stores : List StoreWords) (result : Result Text (Stop RunRefusal)) (now next : Outside) : Type 0 where
  pub has : HasFile compiled.names (map binding_read binds) task
  pub chosen : (given : Reading) × Performs compiled.layouts stores result (task_meaning compiled state task given)
      × ((h : Held) → now.held ≡ Some h → given ≡ reading_of h (file_of_task compiled.names (map binding_read binds) task) result)
  pub asked : next.asked ≡ asked_after (file_of_task compiled.names (map binding_read binds) task) now.asked
  pub reads : next.reads ≡ reads_after (file_of_task compiled.names (map binding_read binds) task) now.reads
  pub cause : StepCause result now.failed_reads next.failed_reads
  pub held : next.held ≡ now.held

-- these reads and moves were made
pub record DoneSo (made : List ReadMade) (moves : List Move) (before next : Outside) : Type 0 where
  pub names : names_in moves ≡ names_of made
  pub grew : Made moves [] before next
  pub held : next.held ≡ before.held
  pub none : NoneFailed before next made

-- a part of a run went, and came to these states
pub record WentTo (m : Readings → Meaning) (n : ℕ) (before after : Outside) (result : Result Done (Stop PutFailed)) (reached : List Reached) : Type 0 where
  pub went : Went m n before after result
  pub reached_is : reached_in went.did ≡ reached

still_to : (m : Readings → Meaning) (n : ℕ) (before after : Outside) (result : Result Done (Stop PutFailed)) (did : List Move) (part : List ℕ) → reached_in did ≡ []
    → names_in did ≡ [] → Grew did part before.output after.output → ((readings : Readings) → Follows (m readings) did part result)
    → after.asked ≡ before.asked → after.reads ≡ before.reads → after.failed_reads ≡ before.failed_reads → IfOk result (λ done. done.status ≢ 2) → WentTo m n before after result []
unfolding went_still
still_to m n before after result did part still none grew follows asked reads faults status = record {
  went = went_still m n before after result did part none grew follows asked reads faults status;
  reached_is = still;
}

failed_to : (m : Readings → Meaning) (line : Meaning) (n : ℕ) (name : List ℕ) (limit : ℕ) (before after : Outside) (result : Result Done (Stop PutFailed))
    → ((readings : Readings) → readings (suc n) name limit ≡ Missing → m readings ≡ asking_for name line) → Gone line before.output after.output result
    → after.asked ≡ asked_too before.asked name → after.reads ≡ one_more before.reads → Rose before.failed_reads after.failed_reads → IfOk result (λ done. done.status ≡ 2)
    → WentTo m n before after result []
unfolding went_failed
failed_to m line n name limit before after result is gone asked reads rose status = record {
  went = went_failed m line n name limit before after result is gone asked reads rose status;
  reached_is = gone.still;
}

module _ (compiled : CheckedProgram) (binds : List Bind) (telling : Telling) (earlier : ℕ) where
  abbrev file : Task → Option (List ℕ)
  file task = file_of_task compiled.names (map binding_read binds) task

  -- the moves of a step before its text is written
  step_made : (state : FlatState) (task : Task) (stores : List StoreWords) (result : Result Text (Stop RunRefusal)) (now next : Outside)
      → Stepped compiled binds state task stores result now next → StaysWritten now.output next.output → Made (load_moves (file task)) [] now next
  step_made state task stores result now next did stays = made_by_load (file_of_task compiled.names (map binding_read binds) task) now next stays did.asked did.reads

  step_none : (state : FlatState) (task : Task) (stores : List StoreWords) (result : Result Text (Stop RunRefusal)) (now next : Outside)
      → IsNoRead result → (did : Stepped compiled binds state task stores result now next) → NoneFailed now next (load_reads (file task) did.chosen.0)
  step_none state task stores result now next no_read did =
      record {
        no_fault = cause_kept result now.failed_reads next.failed_reads no_read did.cause;
        told = λ h e. reads_told h (file task) result did.chosen.0 no_read (did.chosen.2 h e);
      }

  -- tasks before any of them was performed
  pub came_start : (start : FlatState) (tasks : List Task) (stores : List StoreWords) (now : Outside) → StandForState compiled.layouts stores start
      → Came compiled (map binding_read binds) telling earlier start tasks 0 tasks stores now now
  came_start start tasks stores now stand =
      record {
        made = [];
        did = [];
        state = start;
        stand = stand;
        names = refl;
        grew = made_none now now (stays_same now.output) refl refl;
        held = refl;
        none = record { no_fault = refl; told = λ h e. tt };
        is = λ readings agree. ap (λ (n : ℕ). after_moves [] (meaning_of_tasks compiled (map binding_read binds) telling readings 0 n start tasks)) none_made;
      }
    where
      none_made : earlier ≡ 0 + earlier
      none_made = omega arith

  -- the moves of a task of which this text was written, and its reads
  abbrev task_moves : (state : FlatState) (task : Task) (stores : List StoreWords) (text : Text) (now mid : Outside) → Stepped compiled binds state task stores (Ok text) now mid → List ℕ → List Move
  task_moves state task stores text now mid did said = load_moves (file task) ++ reaching said (at_state compiled did.chosen.1.left.state)

  abbrev task_reads : (state : FlatState) (task : Task) (stores : List StoreWords) (text : Text) (now mid : Outside) → Stepped compiled binds state task stores (Ok text) now mid → List ReadMade
  task_reads state task stores text now mid did = load_reads (file task) did.chosen.0

  -- what was made and done with one more task: `mid` is the outside before its text was written
  pub done_next : (made : List ReadMade) (moves : List Move) (state : FlatState) (task : Task) (stores : List StoreWords) (text : Text) (said : List ℕ) (before now mid next : Outside)
      → names_in moves ≡ names_of made → Made moves [] before now → now.held ≡ before.held → NoneFailed before now made
      → (did : Stepped compiled binds state task stores (Ok text) now mid) → StaysWritten now.output mid.output
      → PutsText mid.output next.output said → next.asked ≡ mid.asked → next.reads ≡ mid.reads → next.failed_reads ≡ mid.failed_reads → next.held ≡ mid.held
      → DoneSo (made ++ task_reads state task stores text now mid did) (moves ++ task_moves state task stores text now mid did said) before next
  done_next made moves state task stores text said before now mid next names grew kept none did stays sent asked reads faults held =
      record {
        names = names_append moves own ∙ ap (λ (xs : List (List ℕ)). xs ++ names_in own) names ∙ ap (λ (xs : List (List ℕ)). names_of made ++ xs) own_names ∙ sym (names_twice made more);
        grew = made_twice moves own [] before now next grew
            (made_twice (load_moves (file task)) (reaching said at) [] now mid next (step_made state task stores (Ok text) now mid did stays)
            (made_unread (reaching said at) [] mid next (unread_reaching said at) (grew_reaching said at mid.output next.output sent) asked reads));
        held = held ∙ did.held ∙ kept;
        none = record {
          no_fault = faults ∙ own_none.no_fault ∙ none.no_fault;
          told = λ h e. told_twice h made more (none.told h e) (own_none.told h (kept ∙ e));
        };
      }
    where
      at : Reached
      at = at_state compiled did.chosen.1.left.state

      more : List ReadMade
      more = load_reads (file task) did.chosen.0

      own : List Move
      own = load_moves (file task) ++ reaching said at

      own_names : names_in own ≡ names_of more
      own_names = names_append (load_moves (file task)) (reaching said at) ∙ ap (λ (xs : List (List ℕ)). names_in (load_moves (file task)) ++ xs) (unread_reaching said at)
          ∙ append-nil (names_in (load_moves (file task))) ∙ load_names (file task) did.chosen.0

      own_none : NoneFailed now mid more
      own_none = step_none state task stores (Ok text) now mid (λ f e. absurd (cc)) did

  -- what tasks mean after one more of them, where this is what is written of it
  pub means_next : (start : FlatState) (tasks : List Task) (number : ℕ) (rest rest' : List Task) (task : Task) (made : List ReadMade) (moves : List Move) (state : FlatState) (stores : List StoreWords) (text : Text) (said : List ℕ)
      (now mid : Outside) → rest ≡ task ∷ rest' → (did : Stepped compiled binds state task stores (Ok text) now mid) → telling.each number did.chosen.1.left.text ≡ said
      → ((readings : Readings) → Agree readings earlier made → meaning_of_tasks compiled (map binding_read binds) telling readings 0 earlier start tasks
      ≡ after_moves moves (meaning_of_tasks compiled (map binding_read binds) telling readings number (length made + earlier) state rest))
      → (readings : Readings) → Agree readings earlier (made ++ task_reads state task stores text now mid did) → meaning_of_tasks compiled (map binding_read binds) telling readings 0 earlier start tasks
      ≡ after_moves (moves ++ task_moves state task stores text now mid did said)
      (meaning_of_tasks compiled (map binding_read binds) telling readings (suc number) (length (made ++ task_reads state task stores text now mid did) + earlier) did.chosen.1.left.state rest')
  means_next start tasks number rest rest' task made moves state stores text said now mid split did same is readings agree =
      let left = did.chosen.1 in
      let more = load_reads (file task) did.chosen.0 in
      let own = load_moves (file task) ++ reaching said (at_state compiled left.left.state) in
      let two = agree_twice readings earlier (length made + earlier) made more refl agree in
      let count : length more + (length made + earlier) ≡ length (made ++ more) + earlier = omega (arith, length-append made more) in
      let then = meaning_of_tasks compiled (map binding_read binds) telling readings (suc number) (length more + (length made + earlier)) left.left.state rest' in
      let step : meaning_of_tasks compiled (map binding_read binds) telling readings number (length made + earlier) state rest ≡ after_moves (load_moves (file task)) (after_moves (reaching said (at_state compiled left.left.state)) then) =
      ap (meaning_of_tasks compiled (map binding_read binds) telling readings number (length made + earlier) state) split
      ∙ one_task compiled binds telling readings number (length made + earlier) state task rest' did.chosen.0 did.has two.1
      ∙ ap (λ (a : Result Left RunRefusal). after_moves (load_moves (file task)) (after_task compiled telling number state (file task) task (λ following. meaning_of_tasks compiled (map binding_read binds) telling readings (suc number) (length more + (length made + earlier)) following rest') a)) left.is
      ∙ ap (λ (t : List ℕ). after_moves (load_moves (file task)) (after_moves (reaching t (at_state compiled left.left.state)) then)) same in
      is readings two.0
      ∙ ap (λ (m : Meaning). after_moves moves m) (step ∙ regrouped compiled binds telling (load_moves (file task)) (reaching said (at_state compiled left.left.state)) then)
      ∙ regrouped compiled binds telling moves own then
      ∙ ap (λ (n : ℕ). after_moves (moves ++ own) (meaning_of_tasks compiled (map binding_read binds) telling readings (suc number) n left.left.state rest')) count

  -- one more task was performed, and its text was written
  pub came_next : (start : FlatState) (tasks : List Task) (number : ℕ) (rest rest' : List Task) (task : Task) (stores stores' : List StoreWords) (text : Text) (before now mid next : Outside)
      → rest ≡ task ∷ rest' → (came : Came compiled (map binding_read binds) telling earlier start tasks number rest stores before now)
      → Stepped compiled binds came.state task stores' (Ok text) now mid → StaysWritten now.output mid.output
      → PutsText mid.output next.output (telling.each number text.bytes) → next.asked ≡ mid.asked → next.reads ≡ mid.reads → next.failed_reads ≡ mid.failed_reads → next.held ≡ mid.held
      → Came compiled (map binding_read binds) telling earlier start tasks (suc number) rest' stores' before next
  came_next start tasks number rest rest' task stores stores' text before now mid next split came did stays sent asked reads faults held =
      let left = did.chosen.1 in
      let said = telling.each number left.left.text in
      let so = done_next came.made came.did came.state task stores' text said before now mid next came.names came.grew came.held came.none did stays
      (subst (λ (t : List ℕ). PutsText mid.output next.output (telling.each number t)) left.text_is sent) asked reads faults held in
      record {
        made = came.made ++ load_reads (file task) did.chosen.0;
        did = came.did ++ (load_moves (file task) ++ reaching said (at_state compiled left.left.state));
        state = left.left.state;
        stand = left.stand;
        names = so.names;
        grew = so.grew;
        held = so.held;
        none = so.none;
        is = means_next start tasks number rest rest' task came.made came.did came.state stores' text said now mid split did refl came.is;
      }

  -- the rest of the tasks went, so all did
  pub came_went : (start : FlatState) (tasks : List Task) (number : ℕ) (rest : List Task) (stores : List StoreWords) (before now after : Outside) (result : Result Done (Stop PutFailed))
      → (came : Came compiled (map binding_read binds) telling earlier start tasks number rest stores before now)
      → Went (λ readings. meaning_of_tasks compiled (map binding_read binds) telling readings number (length came.made + earlier) came.state rest) (length came.made + earlier) now after result
      → Went (λ readings. meaning_of_tasks compiled (map binding_read binds) telling readings 0 earlier start tasks) earlier before after result
  came_went start tasks number rest stores before now after result came went =
      compose _ _ earlier (length came.made + earlier) came.made came.did before now after result refl came.is came.names came.grew came.held came.none went

  pub came_to : (start : FlatState) (tasks : List Task) (number : ℕ) (rest : List Task) (stores : List StoreWords) (before now after : Outside) (result : Result Done (Stop PutFailed))
      → (came : Came compiled (map binding_read binds) telling earlier start tasks number rest stores before now)
      → WentTo (λ readings. meaning_of_tasks compiled (map binding_read binds) telling readings number (length came.made + earlier) came.state rest) (length came.made + earlier) now after result []
      → WentTo (λ readings. meaning_of_tasks compiled (map binding_read binds) telling readings 0 earlier start tasks) earlier before after result (reached_in came.did)
  unfolding came_went compose
  came_to start tasks number rest stores before now after result came to = record {
    went = came_went start tasks number rest stores before now after result came to.went;
    reached_is = reached_append came.did to.went.did ∙ ap (λ (more : List Reached). reached_in came.did ++ more) to.reached_is ∙ append-nil (reached_in came.did);
  }

  -- ---- if a task cuts the run short, or ends it

  -- what stands after a task that read what was given
  abbrev behind : (number : ℕ) (state : FlatState) (task : Task) (rest : List Task) (given : Reading) (n : ℕ) → Readings → Meaning
  behind number state task rest given n readings =
      after_task compiled telling number state (file task) task (λ next. meaning_of_tasks compiled (map binding_read binds) telling readings (suc number) (length (load_reads (file task) given) + n) next rest) (task_meaning compiled state task given)

  -- what stands after a task goes on after its reads
  went_behind : (number n : ℕ) (state : FlatState) (task : Task) (rest rest' : List Task) (stores : List StoreWords) (answer : Result Text (Stop RunRefusal)) (now mid after : Outside) (result : Result Done (Stop PutFailed))
      → rest ≡ task ∷ rest' → IsNoRead answer → (did : Stepped compiled binds state task stores answer now mid) → StaysWritten now.output mid.output
      → Went (behind number state task rest' did.chosen.0 n) (length (load_reads (file task) did.chosen.0) + n) mid after result
      → Went (λ readings. meaning_of_tasks compiled (map binding_read binds) telling readings number n state rest) n now after result
  went_behind number n state task rest rest' stores answer now mid after result split no_read did stays went =
      compose _ (behind number state task rest' did.chosen.0 n) n (length (load_reads (file task) did.chosen.0) + n) (load_reads (file task) did.chosen.0) (load_moves (file task)) now mid after result refl
      (λ readings agree. ap (meaning_of_tasks compiled (map binding_read binds) telling readings number n state) split ∙ one_task compiled binds telling readings number n state task rest' did.chosen.0 did.has agree)
      (load_names (file task) did.chosen.0) (step_made state task stores answer now mid did stays)
      did.held (step_none state task stores answer now mid no_read did) went

  behind_to : (number n : ℕ) (state : FlatState) (task : Task) (rest rest' : List Task) (stores : List StoreWords) (answer : Result Text (Stop RunRefusal)) (now mid after : Outside) (result : Result Done (Stop PutFailed))
      → (split : rest ≡ task ∷ rest') (no_read : IsNoRead answer) (did : Stepped compiled binds state task stores answer now mid) (stays : StaysWritten now.output mid.output)
      → WentTo (behind number state task rest' did.chosen.0 n) (length (load_reads (file task) did.chosen.0) + n) mid after result []
      → WentTo (λ readings. meaning_of_tasks compiled (map binding_read binds) telling readings number n state rest) n now after result []
  unfolding went_behind compose
  behind_to number n state task rest rest' stores answer now mid after result split no_read did stays to = record {
    went = went_behind number n state task rest rest' stores answer now mid after result split no_read did stays to.went;
    reached_is = reached_append (load_moves (file task)) to.went.did ∙ ap (λ (more : List Reached). more ++ reached_in to.went.did) (load_still (file task)) ∙ to.reached_is;
  }

  behind_ends : (number : ℕ) (state : FlatState) (task : Task) (rest : List Task) (given : Reading) (n : ℕ) (readings : Readings) → EndsInLine (behind number state task rest given n readings)
  behind_ends number state task rest given n readings =
      after_ends compiled (map binding_read binds) telling number state (file task) task (λ next. meaning_of_tasks compiled (map binding_read binds) telling readings (suc number) (length (load_reads (file task) given) + n) next rest) (task_meaning compiled state task given)
      (λ next. tasks_end compiled (map binding_read binds) telling readings (suc number) (length (load_reads (file task) given) + n) next rest)

  -- the put of the task's text failed, or there was no memory for it
  pub cut_in_send : (start : FlatState) (tasks : List Task) (number : ℕ) (rest rest' : List Task) (task : Task) (stores stores' : List StoreWords) (text : Text) (before now mid after : Outside) (why : Stop PutFailed)
      → rest ≡ task ∷ rest' → (came : Came compiled (map binding_read binds) telling earlier start tasks number rest stores before now)
      → Stepped compiled binds came.state task stores' (Ok text) now mid → StaysWritten now.output mid.output
      → Sends {A = Unit} (Err why) mid.output after.output (telling.each number text.bytes) → after.asked ≡ mid.asked → after.reads ≡ mid.reads → after.failed_reads ≡ mid.failed_reads
      → Went (λ readings. meaning_of_tasks compiled (map binding_read binds) telling readings 0 earlier start tasks) earlier before after (Err why)
  cut_in_send start tasks number rest rest' task stores stores' text before now mid after why split came did stays sent asked reads faults =
      came_went start tasks number rest stores before now after (Err why) came
      (went_behind number (length came.made + earlier) came.state task rest rest' stores' (Ok text) now mid after (Err why) split (λ f e. absurd (cc)) did stays (went why sent))
    where
      left : LeavesMeaning compiled.layouts stores' text.bytes (task_meaning compiled came.state task did.chosen.0)
      left = did.chosen.1

      n : ℕ
      n = length came.made + earlier

      k : ℕ
      k = length (load_reads (file task) did.chosen.0) + n

      then : Readings → Meaning
      then readings = meaning_of_tasks compiled (map binding_read binds) telling readings (suc number) k left.left.state rest'

      is : (readings : Readings) → behind number came.state task rest' did.chosen.0 n readings ≡ after_moves (reaching (telling.each number left.left.text) (at_state compiled left.left.state)) (then readings)
      is readings = ap (λ (a : Result Left RunRefusal). after_task compiled telling number came.state (file task) task (λ next. meaning_of_tasks compiled (map binding_read binds) telling readings (suc number) k next rest') a) left.is

      went : (w : Stop PutFailed) → Sends {A = Unit} (Err w) mid.output after.output (telling.each number text.bytes) → Went (behind number came.state task rest' did.chosen.0 n) k mid after (Err w)
      went stop.Memory nothing = went_memory (behind number came.state task rest' did.chosen.0 n) k mid after (behind_ends number came.state task rest' did.chosen.0 n) nothing asked reads faults
      went (stop.Refused failed) part =
          went_still (behind number came.state task rest' did.chosen.0 n) k mid after (Err (stop.Refused failed)) [] part.part refl (grew_part (telling.each number text.bytes) mid.output after.output part)
          (λ readings. at_text (behind number came.state task rest' did.chosen.0 n readings) (telling.each number text.bytes) (Reaches (at_state compiled left.left.state) ∷ moves_of (then readings)) mid.output after.output part
          (ap (λ (m : Meaning). moves_of m) (is readings) ∙ append_assoc (reaching (telling.each number left.left.text) (at_state compiled left.left.state)) (then readings).moves (writing (then readings).line)
          ∙ append_assoc (writing (telling.each number left.left.text)) (Reaches (at_state compiled left.left.state) ∷ []) (moves_of (then readings))
          ∙ ap (λ (t : List ℕ). writing (telling.each number t) ++ Reaches (at_state compiled left.left.state) ∷ moves_of (then readings)) (sym left.text_is)))
          asked reads faults tt

  -- there was no memory for the task
  pub cut_in_step : (start : FlatState) (tasks : List Task) (number : ℕ) (rest rest' : List Task) (task : Task) (stores stores' : List StoreWords) (before now after : Outside)
      → rest ≡ task ∷ rest' → (came : Came compiled (map binding_read binds) telling earlier start tasks number rest stores before now)
      → Stepped compiled binds came.state task stores' (Err stop.Memory) now after → StaysWritten now.output after.output
      → Went (λ readings. meaning_of_tasks compiled (map binding_read binds) telling readings 0 earlier start tasks) earlier before after (Err stop.Memory)
  cut_in_step start tasks number rest rest' task stores stores' before now after split came did stays =
      came_went start tasks number rest stores before now after (Err stop.Memory) came
      (went_behind number (length came.made + earlier) came.state task rest rest' stores' (Err stop.Memory) now after after (Err stop.Memory) split (λ f e. absurd (cc)) did stays
      (went_memory (behind number came.state task rest' did.chosen.0 (length came.made + earlier)) (length (load_reads (file task) did.chosen.0) + (length came.made + earlier)) after after
      (behind_ends number came.state task rest' did.chosen.0 (length came.made + earlier)) (stays_same after.output) refl refl refl))

  sent_line : (session : SessionParts) (answer : Result ℕ (Stop PutFailed)) (old new : Output) (text : List ℕ) → Sends answer old new text → Sends (ended_with session answer) old new text
  sent_line session (Ok status) old new text sent = sent
  sent_line session (Err (stop.Refused failed)) old new text sent = sent
  sent_line session (Err stop.Memory) old new text sent = sent

  same_status : (session : SessionParts) (answer : Result ℕ (Stop PutFailed)) (line : ℕ) → IfOk answer (λ status. status ≡ line) → IfOk (ended_with session answer) (λ done. done.status ≡ line)
  same_status session (Ok status) line is = is
  same_status session (Err why) line is = tt

  same_last : (state : FlatState) (session : SessionParts) (answer : Result ℕ (Stop PutFailed)) → Compiles compiled session.compiled → StandForState compiled.layouts session.stores state
      → IfOk (ended_with session answer) (λ done. IfSome done.session (StandsForLast (Some state)))
  same_last state session (Ok status) same stand = subst (λ (ls : List Shape). StandForState ls session.stores state) (sym same.layouts) stand
  same_last state session (Err why) same stand = tt

  -- what was written of a last line goes along with it
  gone_line : (state : FlatState) (last : LastLine) (old new : Output) (session : SessionParts) (answer : Result ℕ (Stop PutFailed))
      → Sends answer old new (line_text last) → IfOk answer (λ status. status ≡ last.status) → Compiles compiled session.compiled → StandForState compiled.layouts session.stores state
      → Gone (refused_with (Some state) last) old new (ended_with session answer)
  gone_line state last old new session answer sent is same stand =
      gone_text (refused_with (Some state) last) (line_text last) old new (ended_with session answer) refl (refused_ends (Some state) last) (sent_line session answer old new (line_text last) sent)
      (same_status session answer last.status is) (same_last state session answer same stand)

  other_status : (session : SessionParts) (answer : Result ℕ (Stop PutFailed)) (line : ℕ) → IfOk answer (λ status. status ≡ line) → line ≢ 2 → IfOk (ended_with session answer) (λ done. done.status ≢ 2)
  other_status session (Ok status) line is other = λ two. other (sym is ∙ two)
  other_status session (Err why) line is other = tt

  -- no task is left, and the one text that is written then was put
  pub went_all : (start : FlatState) (tasks : List Task) (number : ℕ) (rest : List Task) (before now after : Outside) (session : SessionParts) (answer : Result ℕ (Stop PutFailed)) (text : List ℕ) → rest ≡ []
      → Compiles compiled session.compiled → (came : Came compiled (map binding_read binds) telling earlier start tasks number rest session.stores before now)
      → moves_of (done_with telling came.state) ≡ writing text → Sends answer now.output after.output text → IfOk answer (λ status. status ≡ 0)
      → after.asked ≡ now.asked → after.reads ≡ now.reads → after.failed_reads ≡ now.failed_reads
      → WentTo (λ readings. meaning_of_tasks compiled (map binding_read binds) telling readings 0 earlier start tasks) earlier before after (ended_with session answer) (reached_in came.did)
  went_all start tasks number rest before now after session answer text none same came one sent status asked reads faults =
      came_to start tasks number rest session.stores before now after (ended_with session answer) came
      (still_to _ (length came.made + earlier) now after (ended_with session answer) gone.did gone.part gone.still gone.unread gone.grew
      (λ readings. subst (λ (m : Meaning). Follows m gone.did gone.part (ended_with session answer)) (sym (is readings)) gone.follows)
      asked reads faults (other_status session answer 0 status (λ e. absurd (omega arith))))
    where
      is : (readings : Readings) → meaning_of_tasks compiled (map binding_read binds) telling readings number (length came.made + earlier) came.state rest ≡ done_with telling came.state
      is readings =
          ap (meaning_of_tasks compiled (map binding_read binds) telling readings number (length came.made + earlier) came.state) none
          ∙ tasks_none compiled binds telling readings number (length came.made + earlier) came.state

      gone : Gone (done_with telling came.state) now.output after.output (ended_with session answer)
      gone = gone_text (done_with telling came.state) text now.output after.output (ended_with session answer) one (λ wrong. absurd (wrong refl))
          (sent_line session answer now.output after.output text sent) (same_status session answer 0 status) (same_last came.state session answer same came.stand)

  -- the task was refused, and its line written
  pub ended_in_task : (start : FlatState) (tasks : List Task) (number : ℕ) (rest rest' : List Task) (task : Task) (stores : List StoreWords) (session : SessionParts) (before now mid after : Outside) (why : RunRefusal) (answer : Result ℕ (Stop PutFailed))
      → rest ≡ task ∷ rest' → Compiles compiled session.compiled → (came : Came compiled (map binding_read binds) telling earlier start tasks number rest stores before now)
      → Stepped compiled binds came.state task session.stores (Err (stop.Refused why)) now mid → session.stores ≡ stores → StaysWritten now.output mid.output
      → Sends answer mid.output after.output (line_text (run_last compiled.names (file_of_task compiled.names (map binding_read binds) task) task why))
      → IfOk answer (λ status. status ≡ (run_last compiled.names (file_of_task compiled.names (map binding_read binds) task) task why).status)
      → after.asked ≡ mid.asked → after.reads ≡ mid.reads → after.failed_reads ≡ mid.failed_reads
      → WentTo (λ readings. meaning_of_tasks compiled (map binding_read binds) telling readings 0 earlier start tasks) earlier before after (ended_with session answer) (reached_in came.did)
  ended_in_task start tasks number rest rest' task stores session before now mid after why answer split same came did stay stays sent status asked reads faults =
      came_to start tasks number rest stores before now after (ended_with session answer) came (by_read (is_read why) refl)
    where
      n : ℕ
      n = length came.made + earlier

      last : LastLine
      last = run_last compiled.names (file task) task why

      stand : StandForState compiled.layouts session.stores came.state
      stand = subst (λ (s : List StoreWords). StandForState compiled.layouts s came.state) (sym stay) came.stand

      gone : Gone (refused_with (Some came.state) last) mid.output after.output (ended_with session answer)
      gone = gone_line came.state last mid.output after.output session answer sent status same stand

      by_read : (test : Bool) → is_read why ≡ test → WentTo (λ readings. meaning_of_tasks compiled (map binding_read binds) telling readings number n came.state rest) n now after (ended_with session answer) []
      by_read false no_read =
          behind_to number n came.state task rest rest' session.stores (Err (stop.Refused why)) now mid after (ended_with session answer) split (no_read_refusal why no_read) did stays
          (still_to (behind number came.state task rest' did.chosen.0 n) (length (load_reads (file task) did.chosen.0) + n) mid after (ended_with session answer) gone.did gone.part gone.still gone.unread gone.grew
          (λ readings. subst (λ (m : Meaning). Follows m gone.did gone.part (ended_with session answer)) (sym (is readings)) gone.follows)
          asked reads faults (other_status session answer last.status status (no_read_status compiled.names (file task) task why no_read)))
        where
          is : (readings : Readings) → behind number came.state task rest' did.chosen.0 n readings ≡ refused_with (Some came.state) last
          is readings =
              ap (λ (a : Result Left RunRefusal). after_task compiled telling number came.state (file task) task (λ next. meaning_of_tasks compiled (map binding_read binds) telling readings (suc number) (length (load_reads (file task) did.chosen.0) + n) next rest') a) did.chosen.1
      by_read true read = by_why why refl read where
        by_why : (w : RunRefusal) → why ≡ w → is_read w ≡ true → WentTo (λ readings. meaning_of_tasks compiled (map binding_read binds) telling readings number n came.state rest) n now after (ended_with session answer) []
        by_why (refusal.Read field) is_it sure = by_file (file task) refl where
          means : task_meaning compiled came.state task did.chosen.0 ≡ Err (refusal.Read field)
          means = did.chosen.1 ∙ ap (λ (w : RunRefusal). let r : Result Left RunRefusal = Err w in r) is_it

          missing : did.chosen.0 ≡ Missing
          missing = read_refused compiled came.state task did.chosen.0 field means

          by_file : (f : Option (List ℕ)) → file task ≡ f → WentTo (λ readings. meaning_of_tasks compiled (map binding_read binds) telling readings number n came.state rest) n now after (ended_with session answer) []
          by_file None none = absurd (no_load task did.has none means) where
            no_load : (t : Task) → HasFile compiled.names (map binding_read binds) t → file t ≡ None → task_meaning compiled came.state t did.chosen.0 ≡ Err (refusal.Read field) → ⊥
            no_load (Load at) has nothing e = some_none (file_of_task compiled.names (map binding_read binds) (Load at)) has nothing
            no_load (Run kernel) has nothing e = absurd_run (commands.after_kernel compiled.layouts came.state (slice_get compiled.kernels kernel)) e where
              absurd_run : (a : Result FlatState RunFault) → ◌≡◌ {A = Result Left RunRefusal} (fault_as (refusal.Run (Some kernel)) a >>= (λ next. Ok (commands.without_text next))) (Err (refusal.Read field)) → ⊥
              absurd_run (Ok next) h = absurd (cc)
              absurd_run (Err fault) h = absurd (cc)
            no_load (Dump at) has nothing e = absurd (cc)
            no_load (Image field lo hi) has nothing e = absurd (cc)
            no_load (Stats layout) has nothing e = absurd (cc)
            no_load (Prune layout) has nothing e = absurd (cc)
            no_load (Clear layout) has nothing e = absurd (cc)
          by_file (Some name) some =
              failed_to (λ readings. meaning_of_tasks compiled (map binding_read binds) telling readings number n came.state rest) (refused_with (Some came.state) last) n name most_grid_bytes now after (ended_with session answer)
              is (gone_before (refused_with (Some came.state) last) now.output mid.output after.output (ended_with session answer) stays gone)
              (asked ∙ did.asked ∙ ap (λ (f : Option (List ℕ)). asked_after f now.asked) some)
              (reads ∙ did.reads ∙ ap (λ (f : Option (List ℕ)). reads_after f now.reads) some)
              (subst (λ (c : ℕ). Rose now.failed_reads c) (sym faults) (subst (λ (w : RunRefusal). StepCause (Err (stop.Refused w)) now.failed_reads mid.failed_reads) is_it did.cause))
              (same_status session answer 2 (subst (λ (w : RunRefusal). IfOk answer (λ s. s ≡ (run_last compiled.names (file task) task w).status)) is_it status))
            where
              is : (readings : Readings) → readings (suc n) name most_grid_bytes ≡ Missing → meaning_of_tasks compiled (map binding_read binds) telling readings number n came.state rest ≡ asking_for name (refused_with (Some came.state) last)
              is readings failed =
                  ap (meaning_of_tasks compiled (map binding_read binds) telling readings number n came.state) split
                  ∙ tasks_step compiled binds telling readings number n came.state task rest'
                  ∙ ap (λ (f : Option (List ℕ)). task_and_more compiled telling readings number n came.state task (λ following next. meaning_of_tasks compiled (map binding_read binds) telling readings (suc number) following next rest') f) some
                  ∙ ap (λ (r : Reading). asking_for name (after_task compiled telling number came.state (Some name) task (λ next. meaning_of_tasks compiled (map binding_read binds) telling readings (suc number) (suc n) next rest') (task_meaning compiled came.state task r))) (failed ∙ sym missing)
                  ∙ ap (λ (a : Result Left RunRefusal). asking_for name (after_task compiled telling number came.state (Some name) task (λ next. meaning_of_tasks compiled (map binding_read binds) telling readings (suc number) (suc n) next rest') a)) did.chosen.1
                  ∙ ap (λ (f : Option (List ℕ)). asking_for name (refused_with (Some came.state) (run_last compiled.names f task why))) (sym some)
        by_why (refusal.GridBytes field) is_it sure = absurd (cc)
        by_why (refusal.GridRows field) is_it sure = absurd (cc)
        by_why (refusal.Grid field l) is_it sure = absurd (cc)
        by_why (refusal.Run kernel fault) is_it sure = absurd (cc)

-- ---- from the clauses of a step

pub head_of : {A : Type 0} (P : A → Type 0) (xs rest : List A) (x : A) → xs ≡ x ∷ rest → AllByRecursion P xs → P x
head_of P xs rest x split all = (subst (AllByRecursion P) split all).0

pub tail_of : {A : Type 0} (P : A → Type 0) (xs rest : List A) (x : A) → xs ≡ x ∷ rest → AllByRecursion P xs → AllByRecursion P rest
tail_of P xs rest x split all = (subst (AllByRecursion P) split all).1

-- the first of tasks that have a file has one by the program's names
pub has_head : (program : CheckedProgram) (compiled : CompiledProgram) (binds : List Bind) (xs rest : List Task) (x : Task) → Compiles program compiled → xs ≡ x ∷ rest
    → AllByRecursion (HasFile compiled.names (map binding_read binds)) xs → HasFile program.names (map binding_read binds) x
has_head program compiled binds xs rest x compiles split all = subst (λ (t : Tables). HasFile t (map binding_read binds) x) compiles.names (head_of (HasFile compiled.names (map binding_read binds)) xs rest x split all)

-- what a step of a session that is compiled from this program did
pub stepped : (program : CheckedProgram) (other : CompiledProgram) (binds : List Bind) (state : FlatState) (task : Task) (stores stores' : List StoreWords) (result : Result Text (Stop RunRefusal)) (now next : Outside)
    → Compiles program other → StandForState program.layouts stores state → HasFile program.names (map binding_read binds) task
    → ((h : Held) → now.held ≡ Some h → (s : FlatState) → StandForState other.layouts stores s
    → Performs other.layouts stores' result (compiled_meaning other s task (reading_of h (file_of_task other.names (map binding_read binds) task) result)))
    → ((s : FlatState) → StandForState other.layouts stores s → (given : Reading) × Performs other.layouts stores' result (compiled_meaning other s task given))
    → next.asked ≡ asked_after (file_of_task other.names (map binding_read binds) task) now.asked → next.reads ≡ reads_after (file_of_task other.names (map binding_read binds) task) now.reads
    → StepCause result now.failed_reads next.failed_reads → next.held ≡ now.held → Stepped program binds state task stores' result now next
stepped program other binds state task stores stores' result now next compiles stand has told performed asked reads cause held =
    record {
      has = has;
      chosen = given_chosen now.held (file_of_task program.names (map binding_read binds) task) result program.layouts stores' (task_meaning program state task)
          (λ h e. subst (λ (t : Tables). Performs program.layouts stores' result (task_meaning program state task (reading_of h (file_of_task t (map binding_read binds) task) result))) compiles.names
          (subst (λ (ls : List Shape). Performs ls stores' result (task_meaning program state task (reading_of h (file_of_task other.names (map binding_read binds) task) result))) compiles.layouts
          (kept (reading_of h (file_of_task other.names (map binding_read binds) task) result) (told h e state stand_other))))
          (let did = performed state stand_other in
          (did.0, subst (λ (ls : List Shape). Performs ls stores' result (task_meaning program state task did.0)) compiles.layouts (kept did.0 did.1)));
      asked = asked ∙ ap (λ (t : Tables). asked_after (file_of_task t (map binding_read binds) task) now.asked) compiles.names;
      reads = reads ∙ ap (λ (t : Tables). reads_after (file_of_task t (map binding_read binds) task) now.reads) compiles.names;
      cause = cause;
      held = held;
    }
  where
    stand_other : StandForState other.layouts stores state
    stand_other = subst (λ (ls : List Shape). StandForState ls stores state) (sym compiles.layouts) stand

    kept : (given : Reading) → Performs other.layouts stores' result (compiled_meaning other state task given) → Performs other.layouts stores' result (task_meaning program state task given)
    kept given did = subst (Performs other.layouts stores' result) (task_kept program other compiles stores state stand_other task given) did

-- a line that was written in the words of other names
pub line_of : (names other : Tables) (binds : List Bind) (task : Task) (why : RunRefusal) (answer : Result ℕ (Stop PutFailed)) (old new : Output) → other ≡ names
    → Sends answer old new (line_text (run_last other (file_of_task other (map binding_read binds) task) task why))
    → Sends answer old new (line_text (run_last names (file_of_task names (map binding_read binds) task) task why))
line_of names other binds task why answer old new same sent =
    subst (λ (t : Tables). Sends answer old new (line_text (run_last t (file_of_task t (map binding_read binds) task) task why))) same sent

pub line_status_of : (names other : Tables) (binds : List Bind) (task : Task) (why : RunRefusal) (answer : Result ℕ (Stop PutFailed)) → other ≡ names
    → IfOk answer (λ status. status ≡ (run_last other (file_of_task other (map binding_read binds) task) task why).status)
    → IfOk answer (λ status. status ≡ (run_last names (file_of_task names (map binding_read binds) task) task why).status)
line_status_of names other binds task why answer same is =
    subst (λ (t : Tables). IfOk answer (λ status. status ≡ (run_last t (file_of_task t (map binding_read binds) task) task why).status)) same is
