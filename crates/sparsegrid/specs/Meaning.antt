-- What a run means: its moves, its last line, its status, and the last state.
use Rattle.std.specs.Prelude.{ℕ, suc, Bool, true, false, ◌&&◌, List, [], ◌∷◌, ◌++◌, find, if◌then◌else◌, ◌==◌, Option, Some, None, is_none, Result, Ok, Err}
use Rattle.sg_outside.specs.Files.{Held, Reading, Bytes, TooMany, Missing, reading}
use Rattle.sg_ast.specs.declared.program.Item.{Item}
use Rattle.sg_ast.specs.declared.program.Program.{Program}
use Rattle.sg_lexer.specs.Limits.{most_file_bytes}
use Rattle.sg_grid.specs.Limits.{most_grid_bytes}
use Rattle.sg_flat.specs.declared.state.FlatState.{FlatState}
use Rattle.sg_flat.specs.State.{opening}
use Rattle.sg_names.specs.Tables.{Tables}
use Rattle.sg_layout.specs.declared.shape.Shape.{Shape}
use Rattle.sg_snapshot.specs.declared.fault.SnapFault.{SnapFault}
use Rattle.sg_snapshot.specs.declared.fault.SnapFault.TheVariants.{NotSnapshot, NotClosed, Full}
use Rattle.sg_snapshot.specs.Restoring.{restored}
use Rattle.sg_session.specs.declared.refusal.Refusal.{Refusal}
use Rattle.sg_session.specs.declared.refusal.RunRefusal.{RunRefusal}
use Rattle.sg_session.specs.declared.tasks.Task.{Task}
use Rattle.sg_session.specs.declared.tasks.Task.TheVariants.{Load, Run, Dump, Image, Stats, Prune, Clear}
use Rattle.sg_session.specs.Compiled.{CheckedProgram, unfolded_tasks}
use Rattle.sg_session.specs.Compiling.{spelled_program, compiled_program}
use Rattle.sg_session.specs.Commands.{Left, task_meaning}
use Rattle.sg_session.specs.Texts.{check_text}
use Rattle.sg_session.specs.Bindings.{file_of_field, file_of_task, Binding}
use Rattle.sg_audit.specs.Auditing.{audited}
use Rattle.sparsegrid.specs.declared.last_line.LastLine.{LastLine}
use Rattle.sparsegrid.specs.Words.{Asked, Doing, performs, generates, looks, writes_code, audits, doing, good_words, is_gen}
use Rattle.sparsegrid.specs.declared.showing.Showing.TheVariants.{Texts}
use Rattle.sparsegrid.specs.Telling.{Telling, telling_of, shows_journal}
use Rattle.sparsegrid.specs.Limits.{most_snapshot_bytes}
use Rattle.sparsegrid.specs.Moves.{Move, ReadsFile, Reaches, Reached, writing, reaching, names_in, text_in}
use Rattle.sparsegrid.specs.Generated.{generated_text}
use Rattle.sparsegrid.specs.Verdicts.{most_journal_bytes, journal_file, verdict_text}
use Rattle.sparsegrid.specs.Lines.{words_last, no_file_last, read_last, file_bytes_last, journal_bytes_last, refusal_last, run_last, field_text, snapshot_last, snapshot_bytes_last}

-- What a run means: the moves that it makes before its last line; that line with its newline, which is empty if all is done, but for the end of a
-- journal; its status; and the last state, where it leaves one.
pub record Meaning : Type 0 where
  pub moves : List Move
  pub line : List ℕ
  pub status : ℕ
  pub last : Option FlatState

-- all moves: the last line is written after the others
abbrev pub moves_of : Meaning → List Move
moves_of m = m.moves ++ writing m.line

-- what it says before its last line
abbrev pub said : Meaning → List ℕ
said m = text_in m.moves

-- the text that it writes
abbrev pub text_meant : Meaning → List ℕ
text_meant m = said m ++ m.line

-- the names of the files that it asks for, in order
abbrev pub asked_of : Meaning → List (List ℕ)
asked_of m = names_in m.moves

-- a refusal writes its one line, with the state that it leaves, if any
abbrev pub refused_with : Option FlatState → LastLine → Meaning
refused_with state last = record { moves = []; line = last.line ++ 10 ∷ []; status = last.status; last = state }

-- a refusal before the first command leaves no state
abbrev pub refused_before_tasks : LastLine → Meaning
refused_before_tasks last = refused_with None last

-- all is done: this text is written, and this is the state
abbrev pub all_done : List ℕ → FlatState → Meaning
all_done text state = record { moves = writing text; line = []; status = 0; last = Some state }

-- moves, and then what else the run means
abbrev pub after_moves : List Move → Meaning → Meaning
after_moves moves m = record { moves = moves ++ m.moves; line = m.line; status = m.status; last = m.last }

-- a text, and then what else the run means
abbrev pub before : List ℕ → Meaning → Meaning
before text m = after_moves (writing text) m

-- a file is asked for, and then what else the run means
abbrev pub asking_for : List ℕ → Meaning → Meaning
asking_for name m = after_moves (ReadsFile name ∷ []) m

-- what the reads of a run give: that of a number, counted from 1, of the file of a name, under a limit on its bytes
abbrev pub Readings : Type 0
Readings = ℕ → List ℕ → ℕ → Reading

-- ---- loads without a file

-- a load whose field has no file
abbrev pub is_unbound : Tables → List Binding → Task → Bool
is_unbound names bindings (Load field) = is_none (file_of_field names bindings field)
is_unbound names bindings (Run kernel) = false
is_unbound names bindings (Dump field) = false
is_unbound names bindings (Image field lo hi) = false
is_unbound names bindings (Stats layout) = false
is_unbound names bindings (Prune layout) = false
is_unbound names bindings (Clear layout) = false

-- ---- the tasks of a program, one after the other

-- all commands are done at a state: what is written then, and the last line
abbrev pub done_with : Telling → FlatState → Meaning
done_with telling state = record { moves = writing (telling.ending state); line = telling.closing; status = 0; last = Some state }

-- a state of a program's commands
abbrev pub at_state : CheckedProgram → FlatState → Reached
at_state program state = record { shapes = program.layouts; state = state }

-- after the task of a number at a state: what is written of its text, and then what follows; or its last line, with the state that was before it
abbrev pub after_task : CheckedProgram → Telling → ℕ → FlatState → Option (List ℕ) → Task → (FlatState → Meaning) → Result Left RunRefusal → Meaning
after_task program telling number state file task more (Ok left) = after_moves (reaching (telling.each number left.text) (at_state program left.state)) (more left.state)
after_task program telling number state file task more (Err why) = refused_with (Some state) (run_last program.names file task why)

-- The task of a number and what follows it, with the file that it reads, if any. So many reads were before it; what follows takes the number of
-- reads and the state after it.
abbrev pub task_and_more : CheckedProgram → Telling → Readings → ℕ → ℕ → FlatState → Task → (ℕ → FlatState → Meaning) → Option (List ℕ) → Meaning
task_and_more program telling readings number reads state task more None =
    after_task program telling number state None task (more reads) (task_meaning program state task Missing)
task_and_more program telling readings number reads state task more (Some name) =
    asking_for name (after_task program telling number state (Some name) task (more (suc reads)) (task_meaning program state task (readings (suc reads) name most_grid_bytes)))

-- tasks from a state on, up to the first that is refused; so many tasks and so many reads were before them
unfoldable pub meaning_of_tasks : CheckedProgram → List Binding → Telling → Readings → ℕ → ℕ → FlatState → List Task → Meaning
meaning_of_tasks program bindings telling readings number reads state [] = done_with telling state
meaning_of_tasks program bindings telling readings number reads state (task ∷ tasks) =
    task_and_more program telling readings number reads state task
    (λ after next. meaning_of_tasks program bindings telling readings (suc number) after next tasks) (file_of_task program.names bindings task)

-- all tasks from the state with which they begin, where so many reads were before them
abbrev pub meaning_from : CheckedProgram → List Binding → Telling → Readings → ℕ → FlatState → List Task → Meaning
meaning_from program bindings telling readings reads state tasks =
    after_moves (Reaches (at_state program state) ∷ []) (meaning_of_tasks program bindings telling readings 0 reads state tasks)

-- ---- the state with which tasks begin

-- the state that a refused snapshot leaves: the opening one, if a node has no room, and else none
abbrev pub left_by_snapshot : List Shape → SnapFault → Option FlatState
left_by_snapshot shapes NotSnapshot = None
left_by_snapshot shapes (NotClosed layout) = None
left_by_snapshot shapes (Full layout node cap) = Some (opening shapes)

-- the state whose image a snapshot is, and what follows it; or why it is none
abbrev pub after_restoring : CheckedProgram → (FlatState → Meaning) → Result FlatState SnapFault → Meaning
after_restoring program more (Ok state) = more state
after_restoring program more (Err fault) = refused_with (left_by_snapshot program.layouts fault) (snapshot_last program.names fault)

-- what the read of the snapshot of this name gave
abbrev pub after_snapshot : CheckedProgram → List ℕ → (FlatState → Meaning) → Reading → Meaning
after_snapshot program name more Missing = refused_before_tasks (read_last name)
after_snapshot program name more TooMany = refused_before_tasks snapshot_bytes_last
after_snapshot program name more (Bytes bytes) = after_restoring program more (restored program.layouts bytes)

-- What follows begins with the opening state, or with that of a snapshot, which is the second file that is read. It takes how many files were
-- read, and the state.
abbrev pub begun : CheckedProgram → Option (List ℕ) → Readings → (ℕ → FlatState → Meaning) → Meaning
begun program None readings more = more 1 (opening program.layouts)
begun program (Some name) readings more = asking_for name (after_snapshot program name (more 2) (readings 2 name most_snapshot_bytes))

-- ---- from the words to the tasks

-- no task runs where a load has no file: the first of these is named
abbrev pub meaning_unless : Option Task → CheckedProgram → Telling → Option (List ℕ) → List Binding → Readings → List Task → Meaning
meaning_unless (Some task) program telling from bindings readings tasks = refused_before_tasks (no_file_last (field_text program.names task))
meaning_unless None program telling from bindings readings tasks =
    begun program from readings (λ reads state. meaning_from program bindings telling readings reads state tasks)

-- the tasks of a program from its opening state, or from a snapshot, on; its file was read before
abbrev pub meaning_of_run : CheckedProgram → Telling → Option (List ℕ) → List Binding → Readings → List Task → Meaning
meaning_of_run program telling from bindings readings tasks =
    meaning_unless (find (is_unbound program.names bindings) tasks) program telling from bindings readings tasks

-- what the read of a journal gave: the verdict on it is written
abbrev pub after_journal : CheckedProgram → List ℕ → Reading → Meaning
after_journal program name Missing = refused_before_tasks (read_last name)
after_journal program name TooMany = refused_before_tasks journal_bytes_last
after_journal program name (Bytes bytes) = all_done (verdict_text (audited program.layouts bytes)) (opening program.layouts)

-- the journal of this name is the second file that is read
abbrev pub meaning_of_audit : CheckedProgram → Readings → List ℕ → Meaning
meaning_of_audit program readings name = asking_for name (after_journal program name (readings 2 name most_journal_bytes))

-- What is done with a compiled program. The text of access code is no part of the meaning, since the code's registers may be numbered in any way:
-- it is that of the session which the run leaves. The tasks of a generated program have no files, and begin with no snapshot.
abbrev pub meaning_in : Doing → CheckedProgram → Option (List ℕ) → List Binding → Readings → Meaning
meaning_in (performs what) program from bindings readings = meaning_of_run program (telling_of program.names program.layouts what) from bindings readings (unfolded_tasks program.commands)
meaning_in generates program from bindings readings = meaning_of_run program (telling_of program.names program.layouts Texts) None [] readings (unfolded_tasks program.commands)
meaning_in looks program from bindings readings = all_done (check_text program.names program.neutral) (opening program.layouts)
meaning_in writes_code program from bindings readings = all_done [] (opening program.layouts)
meaning_in audits program from bindings readings = meaning_of_audit program readings (journal_file bindings)

-- the items of a program, if there is one
abbrev pub items_or_none : Result Program Refusal → List Item
items_or_none (Ok program) = program.items
items_or_none (Err refusal) = []

-- a checked program, or the refusal of these bytes
abbrev pub meaning_of_compiled : Asked → Readings → List ℕ → Result CheckedProgram Refusal → Meaning
meaning_of_compiled asked readings bytes (Err refusal) = refused_before_tasks (refusal_last (items_or_none (spelled_program bytes)) refusal)
meaning_of_compiled asked readings bytes (Ok program) = meaning_in (doing asked.mode) program asked.from asked.bindings readings

-- what the read of the file gave
abbrev pub meaning_of_source : Asked → Readings → Reading → Meaning
meaning_of_source asked readings Missing = refused_before_tasks (read_last asked.file)
meaning_of_source asked readings TooMany = refused_before_tasks file_bytes_last
meaning_of_source asked readings (Bytes bytes) = meaning_of_compiled asked readings bytes (compiled_program bytes)

-- the file that good words name is the first that is asked for
abbrev pub meaning_of_file : Asked → Readings → Meaning
meaning_of_file asked readings = asking_for asked.file (meaning_of_source asked readings (readings 1 asked.file most_file_bytes))

-- the generated program is asked of no file
abbrev pub meaning_of_generated : Asked → Readings → Meaning
meaning_of_generated asked readings = meaning_of_compiled asked readings (generated_text asked.number) (compiled_program (generated_text asked.number))

-- what good words ask for
abbrev pub meaning_of_asked : Asked → Readings → Meaning
meaning_of_asked asked readings = if is_gen asked.mode then meaning_of_generated asked readings else meaning_of_file asked readings

-- good words, or bad ones
abbrev pub meaning_of_words : Option Asked → Readings → Meaning
meaning_of_words None readings = refused_before_tasks words_last
meaning_of_words (Some asked) readings = meaning_of_asked asked readings

-- the meaning of a run with these words, whose reads give these readings
abbrev pub meaning_by : List (List ℕ) → Readings → Meaning
meaning_by words readings = meaning_of_words (good_words words) readings

-- ---- what a meaning leaves open

-- whether a journal is written
abbrev pub is_journal : Doing → Bool
is_journal (performs what) = shows_journal what
is_journal generates = false
is_journal looks = false
is_journal writes_code = false
is_journal audits = false

-- good words ask for a journal; bad ones ask for nothing
abbrev pub asks_journal : Option Asked → Bool
asks_journal None = false
asks_journal (Some asked) = is_journal (doing asked.mode)

-- whether access code is written
abbrev pub is_code : Doing → Bool
is_code (performs what) = false
is_code generates = false
is_code looks = false
is_code writes_code = true
is_code audits = false

-- good words ask for access code; bad ones ask for nothing
abbrev pub asks_code : Option Asked → Bool
asks_code None = false
asks_code (Some asked) = is_code (doing asked.mode)

-- a meaning with this text before its last line, too
abbrev pub saying : List ℕ → Meaning → Meaning
saying text m = record { moves = m.moves ++ writing text; line = m.line; status = m.status; last = m.last }

-- A meaning leaves a text open where the words ask for access code and all is done. This is the meaning with that text.
abbrev pub with_open : List (List ℕ) → List ℕ → Meaning → Meaning
with_open words opened m = if asks_code (good_words words) && (m.status == 0) then saying opened m else m

-- ---- the reads

-- the read of this number, counted from 1, is the one at which the run is stopped
abbrev pub stops_at : Option ℕ → ℕ → Bool
stops_at None number = false
stops_at (Some stop) number = stop == number

-- what reads of these files give: nothing if the run is stopped
abbrev pub readings_in : Held → Option ℕ → Readings
readings_in held stop number name limit = if stops_at stop number then Missing else reading held name limit

-- the meaning of a run with these words over these files, where the read of the given number fails, if any
abbrev pub meaning : List (List ℕ) → Held → Option ℕ → Meaning
meaning words held stop = meaning_by words (readings_in held stop)
