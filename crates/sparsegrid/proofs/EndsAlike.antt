-- A run that shows something of its commands ends as the same one in mode run.
use Rattle.std.proofs.Common.{◌≡◌, ℕ, suc, Bool, false, if◌then◌else◌, List, [], ◌∷◌, Option, Some, None, Result, Ok, Err, refl, sym, ap, subst}
use Rattle.std.specs.Prelude.{find}
use Rattle.sg_outside.specs.Files.{Reading, Bytes, TooMany, Missing}
use Rattle.sg_lexer.specs.Limits.{most_file_bytes}
use Rattle.sg_grid.specs.Limits.{most_grid_bytes}
use Rattle.sg_flat.specs.declared.state.FlatState.{FlatState}
use Rattle.sg_flat.specs.State.{opening}
use Rattle.sg_snapshot.specs.declared.fault.SnapFault.{SnapFault}
use Rattle.sg_snapshot.specs.Restoring.{restored}
use Rattle.sg_session.specs.declared.refusal.Refusal.{Refusal}
use Rattle.sg_session.specs.declared.refusal.RunRefusal.{RunRefusal}
use Rattle.sg_session.specs.declared.tasks.Task.{Task}
use Rattle.sg_session.specs.Commands.{Left, task_meaning}
use Rattle.sg_session.specs.Bindings.{Binding, file_of_task}
use Rattle.sg_session.specs.Compiled.{CheckedProgram, unfolded_tasks}
use Rattle.sg_session.specs.Compiling.{compiled_program}
use Rattle.sparsegrid.specs.declared.showing.Showing.{Showing}
use Rattle.sparsegrid.specs.declared.showing.Showing.TheVariants.{Texts}
use Rattle.sparsegrid.specs.declared.words.Mode.{Mode}
use Rattle.sparsegrid.specs.declared.words.Mode.TheVariants as mode
use Rattle.sparsegrid.specs.Words.{Asked, Doing, performs, doing, is_generated, is_gen}
use Rattle.sparsegrid.specs.Limits.{most_snapshot_bytes}
use Rattle.sparsegrid.specs.Telling.{Telling, telling_of}
use Rattle.sparsegrid.specs.Meaning.{Meaning, Readings, after_restoring, after_snapshot, begun, is_unbound, after_task, task_and_more, meaning_of_tasks, meaning_from, meaning_unless, meaning_of_run, meaning_in, meaning_of_compiled, meaning_of_source, meaning_of_file, meaning_of_generated, meaning_of_asked}
use Rattle.sparsegrid.specs.Laws.{EndAlike, ShownEndsAsRun}

same : (m : Meaning) → EndAlike m m
same m = record { status = refl; last = refl; line = λ other. refl }

module _ (program : CheckedProgram) (bindings : List Binding) (one two : Telling) (readings : Readings) where
  tasks_alike : (number n : ℕ) (state : FlatState) (tasks : List Task) → EndAlike (meaning_of_tasks program bindings one readings number n state tasks) (meaning_of_tasks program bindings two readings number n state tasks)
  unfolding meaning_of_tasks
  tasks_alike number n state [] = record { status = refl; last = refl; line = λ other. absurd (other refl) }
  tasks_alike number n state (task ∷ tasks) = by_file (file_of_task program.names bindings task) (λ after next. tasks_alike (suc number) after next tasks) where
    more : ℕ → FlatState → Meaning
    more after next = meaning_of_tasks program bindings one readings (suc number) after next tasks

    others : ℕ → FlatState → Meaning
    others after next = meaning_of_tasks program bindings two readings (suc number) after next tasks

    by_answer : (file : Option (List ℕ)) (after : ℕ) (answer : Result Left RunRefusal) → ((next : FlatState) → EndAlike (more after next) (others after next))
        → EndAlike (after_task program one number state file task (more after) answer) (after_task program two number state file task (others after) answer)
    by_answer file after (Ok left) rest = let r = rest left.state in record { status = r.status; last = r.last; line = r.line }
    by_answer file after (Err why) rest = same _

    by_file : (file : Option (List ℕ)) → ((after : ℕ) (next : FlatState) → EndAlike (more after next) (others after next))
        → EndAlike (task_and_more program one readings number n state task more file) (task_and_more program two readings number n state task others file)
    by_file None rest = by_answer None n (task_meaning program state task Missing) (rest n)
    by_file (Some name) rest =
        let r = by_answer (Some name) (suc n) (task_meaning program state task (readings (suc n) name most_grid_bytes)) (rest (suc n)) in
        record { status = r.status; last = r.last; line = r.line }

  from_alike : (reads : ℕ) (state : FlatState) (tasks : List Task) → EndAlike (meaning_from program bindings one readings reads state tasks) (meaning_from program bindings two readings reads state tasks)
  from_alike reads state tasks = let r = tasks_alike 0 reads state tasks in record { status = r.status; last = r.last; line = r.line }

snapshot_alike : (program : CheckedProgram) (name : List ℕ) (more others : FlatState → Meaning) (given : Reading) → ((state : FlatState) → EndAlike (more state) (others state))
    → EndAlike (after_snapshot program name more given) (after_snapshot program name others given)
snapshot_alike program name more others Missing rest = same _
snapshot_alike program name more others TooMany rest = same _
snapshot_alike program name more others (Bytes bytes) rest = by_restored (restored program.layouts bytes) where
  by_restored : (answer : Result FlatState SnapFault) → EndAlike (after_restoring program more answer) (after_restoring program others answer)
  by_restored (Ok state) = rest state
  by_restored (Err fault) = same _

begun_alike : (program : CheckedProgram) (from : Option (List ℕ)) (readings : Readings) (more others : ℕ → FlatState → Meaning) → ((reads : ℕ) (state : FlatState) → EndAlike (more reads state) (others reads state))
    → EndAlike (begun program from readings more) (begun program from readings others)
begun_alike program None readings more others rest = rest 1 (opening program.layouts)
begun_alike program (Some name) readings more others rest =
    let r = snapshot_alike program name (more 2) (others 2) (readings 2 name most_snapshot_bytes) (rest 2) in record { status = r.status; last = r.last; line = r.line }

run_alike : (program : CheckedProgram) (one two : Telling) (from : Option (List ℕ)) (bindings : List Binding) (readings : Readings) (tasks : List Task)
    → EndAlike (meaning_of_run program one from bindings readings tasks) (meaning_of_run program two from bindings readings tasks)
run_alike program one two from bindings readings tasks = by_find (find (is_unbound program.names bindings) tasks) where
  by_find : (o : Option Task) → EndAlike (meaning_unless o program one from bindings readings tasks) (meaning_unless o program two from bindings readings tasks)
  by_find None = begun_alike program from readings (λ reads state. meaning_from program bindings one readings reads state tasks) (λ reads state. meaning_from program bindings two readings reads state tasks)
      (λ reads state. from_alike program bindings one two readings reads state tasks)
  by_find (Some task) = same _

module _ (workers : ℕ) (file : List ℕ) (from : Option (List ℕ)) (bindings : List Binding) (number : ℕ) (readings : Readings) (own : Mode) (what : Showing) (shows : doing own ≡ performs what) where
  abbrev in_mode : Mode → Asked
  in_mode m = record { workers = workers; mode = m; file = file; from = from; bindings = bindings; number = number }

  compiled_alike : (bytes : List ℕ) (answer : Result CheckedProgram Refusal) → EndAlike (meaning_of_compiled (in_mode own) readings bytes answer) (meaning_of_compiled (in_mode mode.Run) readings bytes answer)
  compiled_alike bytes (Err why) = same _
  compiled_alike bytes (Ok program) =
      subst (λ (d : Doing). EndAlike (meaning_in d program from bindings readings) (meaning_in (performs Texts) program from bindings readings)) (sym shows)
      (run_alike program (telling_of program.names program.layouts what) (telling_of program.names program.layouts Texts) from bindings readings (unfolded_tasks program.commands))

  source_alike : (given : Reading) → EndAlike (meaning_of_source (in_mode own) readings given) (meaning_of_source (in_mode mode.Run) readings given)
  source_alike Missing = same _
  source_alike TooMany = same _
  source_alike (Bytes bytes) = compiled_alike bytes (compiled_program bytes)

  file_alike : EndAlike (meaning_of_file (in_mode own) readings) (meaning_of_file (in_mode mode.Run) readings)
  file_alike = let r = source_alike (readings 1 file most_file_bytes) in record { status = r.status; last = r.last; line = r.line }

  asked_alike : EndAlike (meaning_of_asked (in_mode own) readings) (meaning_of_asked (in_mode mode.Run) readings)
  asked_alike =
      let plain : is_gen own ≡ false = ap is_generated shows in
      subst (λ (b : Bool). EndAlike (if b then meaning_of_generated (in_mode own) readings else meaning_of_file (in_mode own) readings) (meaning_of_file (in_mode mode.Run) readings)) (sym plain) file_alike

pub shown_ends_as_run : ShownEndsAsRun
shown_ends_as_run asked readings what shows = asked_alike asked.workers asked.file asked.from asked.bindings asked.number readings asked.mode what shows
