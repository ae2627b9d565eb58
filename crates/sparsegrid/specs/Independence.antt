-- What a run means is what its commands leave, one after the other. So layouts don't matter to the values and the images of a run.
use Rattle.std.specs.Prelude.{◌≡◌, ◌≢◌, refl, ℕ, zero, suc, pos, codes, List, [], ◌∷◌, map, Option, Some, None, Ok}
use Rattle.std.specs.List.{AllByRecursion, flat_map}
use Rattle.std.specs.FinMap.{get}
use Rattle.std.specs.Fmt.{digits}
use Rattle.sg_words.specs.declared.operators.Ty.TheVariants as ty
use Rattle.sg_coord.specs.declared.coord.Coord.{Coord}
use Rattle.sg_layout.specs.declared.shape.Kind.TheVariants.{Dense}
use Rattle.sg_layout.specs.declared.shape.Shape.{Shape}
use Rattle.sg_outside.specs.Files.{Held, Reading, Bytes, Missing}
use Rattle.sg_outside.specs.Sink.{followed_by}
use Rattle.sg_exec.specs.Standing.{StandForState}
use Rattle.sg_grid.specs.Fronts.{rest_after, count_at, number_at, number_before, further_part_at, coordinate_at, length_at, line_at, head_at}
use Rattle.sg_grid.specs.Limits.{most_grid_bytes}
use Rattle.sg_grid.specs.Reading.{run_in, runs_of, rows_of}
use Rattle.sg_flat.specs.declared.state.FlatState.{FlatState}
use Rattle.sg_flat.specs.State.{opening}
use Rattle.sg_names.specs.Tables.{Tables}
use Rattle.sg_session.specs.declared.tasks.Task.{Task}
use Rattle.sg_session.specs.declared.tasks.Task.TheVariants.{Load, Dump, Prune}
use Rattle.sg_session.specs.declared.tasks.Stage.TheVariants.{Once}
use Rattle.sg_session.specs.Bindings.{Binding, file_of_task}
use Rattle.sg_session.specs.Compiled.{CheckedProgram, unfolded_tasks}
use Rattle.sg_session.specs.Commands.{Left}
use Rattle.sg_session.specs.Independence.{AreSameUpToNodes, RunsNeutral, HaveSameValues, AllLeaveSame, RunsLeaveSame, left_by_program, last_state}
use Rattle.sg_session.specs.Performed.{SessionParts}
use Rattle.sparsegrid.specs.declared.words.Mode.TheVariants as mode
use Rattle.sparsegrid.specs.declared.showing.Showing.TheVariants.{Texts}
use Rattle.sparsegrid.specs.Telling.{telling_of}
use Rattle.sparsegrid.specs.Words.{Asked, good_words}
use Rattle.sparsegrid.specs.Moves.{ReadsFile, WritesText, Reaches, pieces_of, pieces_in}
use Rattle.sparsegrid.specs.Meaning.{Meaning, moves_of, text_meant, Readings, readings_in, at_state, meaning_of_tasks, meaning_of_run, meaning}
use Rattle.sparsegrid.specs.Outcome.{Outside, WroteMeaning, open_text, StandsForLast, IsOfFile}

-- ---- what the commands of a run leave

-- what the read of a task's file gives, where it reads one; so many reads were before it
abbrev pub reading_behind : Readings → ℕ → Option (List ℕ) → Reading
reading_behind readings reads None = Missing
reading_behind readings reads (Some name) = readings (suc reads) name most_grid_bytes

-- how many reads there are then
abbrev pub reads_with : ℕ → Option (List ℕ) → ℕ
reads_with reads None = reads
reads_with reads (Some name) = suc reads

-- what the read of the task at a place gives, among tasks with so many reads before them
abbrev pub told_from : Tables → List Binding → Readings → ℕ → List Task → ℕ → Reading
told_from names bindings readings reads [] place = Missing
told_from names bindings readings reads (task ∷ tasks) zero = reading_behind readings reads (file_of_task names bindings task)
told_from names bindings readings reads (task ∷ tasks) (suc place) = told_from names bindings readings (reads_with reads (file_of_task names bindings task)) tasks place

-- what the read of the task at a place of a program gives; the program's own file was read before
abbrev pub told : CheckedProgram → List Binding → Readings → ℕ → Reading
told program bindings readings place = told_from program.names bindings readings 1 (unfolded_tasks program.commands) place

-- A meaning is what commands leave: its text is their texts, one after the other and each by one put, and its last state is that after the last
-- of them.
pub record IsWhatIsLeft (program : CheckedProgram) (bindings : List Binding) (readings : Readings) (m : Meaning) (lefts : List Left) : Type 0 where
  pub left : left_by_program program (told program bindings readings) ≡ Ok lefts
  pub pieces : pieces_in (moves_of m) ≡ flat_map (λ left. pieces_of left.text) lefts
  pub text : text_meant m ≡ flat_map (λ left. left.text) lefts
  pub last : m.last ≡ Some (last_state program lefts)

-- A meaning is of the commands of a program: it has status 0 exactly when none of them is refused, and then it is what they leave.
pub record IsOfCommands (program : CheckedProgram) (bindings : List Binding) (readings : Readings) (m : Meaning) : Type 0 where
  pub leaves : m.status ≡ 0 → (lefts : List Left) × IsWhatIsLeft program bindings readings m lefts
  pub whole : (lefts : List Left) → left_by_program program (told program bindings readings) ≡ Ok lefts → m.status ≡ 0

-- the meaning of every run from the opening state on is of the commands of its program
abbrev pub MeaningIsOfCommands : Type 0
MeaningIsOfCommands = (program : CheckedProgram) (bindings : List Binding) (readings : Readings)
    → IsOfCommands program bindings readings (meaning_of_run program (telling_of program.names program.layouts Texts) None bindings readings (unfolded_tasks program.commands))

-- ---- two runs

-- the same files, except for the one of this name
abbrev pub AreSameBut : List ℕ → Held → Held → Type 0
AreSameBut file held held' = (name : List ℕ) → name ≢ file → get held name ≡ get held' name

-- The same good words in mode run, without a snapshot, over the same files except for the one that they name. That one has the one program or the other, which differ
-- in the nodes of their layouts alone. Every kernel that is run is neutral.
pub record DifferInLayouts (words : List (List ℕ)) (held held' : Held) (asked : Asked) (first second : CheckedProgram) : Type 0 where
  pub words_are : good_words words ≡ Some asked
  pub runs : asked.mode ≡ mode.Run
  pub opened : asked.from ≡ None
  pub others : AreSameBut asked.file held held'
  pub file : List ℕ
  pub file' : List ℕ
  pub file_is : get held asked.file ≡ Some file
  pub file_is' : get held' asked.file ≡ Some file'
  pub alike : AreSameUpToNodes file file' first second
  pub neutral : AllByRecursion (RunsNeutral first) (unfolded_tasks first.commands)

-- what two runs mean: after each command their states have the same values, and so have their last states; their images are the same
pub record MeanSame (held held' : Held) (bindings : List Binding) (first second : CheckedProgram) (one other : Meaning) : Type 0 where
  pub lefts : List Left
  pub rights : List Left
  pub one_is : IsWhatIsLeft first bindings (readings_in held None) one lefts
  pub other_is : IsWhatIsLeft second bindings (readings_in held' None) other rights
  pub same : RunsLeaveSame first second lefts rights

-- Two runs whose programs differ in the nodes of their layouts alone, neither of which refuses anything, mean the same values and images.
abbrev pub LayoutsDontMatterToRuns : Type 0
LayoutsDontMatterToRuns = (words : List (List ℕ)) (held held' : Held) (asked : Asked) (first second : CheckedProgram) →
    DifferInLayouts words held held' asked first second → (meaning words held None).status ≡ 0 → (meaning words held' None).status ≡ 0 →
    MeanSame held held' asked.bindings first second (meaning words held None) (meaning words held' None)

-- ---- two calls of `run`

-- A call of `run` with these words over these files ended with status 0 and left this session. This is what its clauses `whole`, `last` and
-- `program` say then.
pub record LeftSession (words : List (List ℕ)) (held : Held) (before after : Outside) (session : SessionParts) : Type 0 where
  pub told : before.held ≡ Some held
  pub wrote : WroteMeaning words (open_text words (Some session)) None before after 0
  pub last : StandsForLast (meaning words held None).last session
  pub program : IsOfFile words held session

-- the stores of a session stand for the state after these commands, and the text of the call is the texts of them
pub record IsAfter (program : CheckedProgram) (lefts : List Left) (before after : Outside) (session : SessionParts) : Type 0 where
  pub stand : StandForState session.compiled.layouts session.stores (last_state program lefts)
  pub written : after.output.written ≡ followed_by before.output.written (flat_map (λ left. left.text) lefts)

-- What two calls left: the stores of their sessions stand for states with the same values. The states after each command have the same values, too,
-- and the images that were written are the same.
pub record SessionsAreSame (first second : CheckedProgram) (before after before' after' : Outside) (session session' : SessionParts) : Type 0 where
  pub lefts : List Left
  pub rights : List Left
  pub one : IsAfter first lefts before after session
  pub other : IsAfter second rights before' after' session'
  pub values : HaveSameValues session.compiled.layouts session'.compiled.layouts (last_state first lefts) (last_state second rights)
  pub each : AllLeaveSame session.compiled.layouts session'.compiled.layouts (unfolded_tasks first.commands) lefts rights

-- Two calls over files that differ in the nodes of layouts alone, both of which end with status 0, leave sessions with the same values, and write the
-- same images.
abbrev pub LayoutsDontMatterToCalls : Type 0
LayoutsDontMatterToCalls = (words : List (List ℕ)) (held held' : Held) (asked : Asked) (first second : CheckedProgram) (before after before' after' : Outside)
    (session session' : SessionParts) → DifferInLayouts words held held' asked first second →
    LeftSession words held before after session → LeftSession words held' before' after' session' →
    SessionsAreSame first second before after before' after' session session'

-- ---- examples

-- tables with a field `x` that is read from the file `f`
abbrev one_field : Tables
one_field = record {
  constants = [];
  layouts = record { name = record { text = codes "A" }; axes = 1 } ∷ [];
  fields = record { name = record { text = codes "x" }; at = record { number = 0; layout = 0; place = 0; ty = ty.I32 } } ∷ [];
  kernels = [];
}

abbrev from_f : List Binding
from_f = record { name = codes "x"; file = codes "f" } ∷ []

-- each read gives its number
abbrev numbered : Readings
numbered number name limit = Bytes (number ∷ [])

-- `load x; prune A; load x;`: the reads of the two loads are the second and the third of the run
abbrev two_loads : List Task
two_loads = Load (record { number = 0; layout = 0; place = 0; ty = ty.I32 }) ∷ Prune 0 ∷ Load (record { number = 0; layout = 0; place = 0; ty = ty.I32 }) ∷ []

told_to_each : map (told_from one_field from_f numbered 1 two_loads) (0 ∷ 1 ∷ 2 ∷ []) ≡ Bytes (2 ∷ []) ∷ Missing ∷ Bytes (3 ∷ []) ∷ []
told_to_each = refl

-- `load x; dump x;` over a line of 4 points
abbrev whole_line : Shape
whole_line = record {
  axes = 1;
  nodes = record { kind = Dense; sizes = record { axis = 1; extent = pos 4 } ∷ []; cap = pos 0; chunk = pos 0 } ∷ [];
  fields = ty.I32 ∷ [];
}

abbrev loads_and_dumps : CheckedProgram
loads_and_dumps = record {
  names = one_field;
  layouts = whole_line ∷ [];
  kernels = [];
  neutral = [];
  commands = Once (Load (record { number = 0; layout = 0; place = 0; ty = ty.I32 })) ∷ Once (Dump (record { number = 0; layout = 0; place = 0; ty = ty.I32 })) ∷ [];
}

-- the file lists the value 7 at the point 2
abbrev lists_a_seven : Readings
lists_a_seven number name limit = Bytes (codes "grid 1 1\n2 7\n")

abbrev on_line : ℕ → Coord
on_line part = record { n = 1; a = pos part; b = pos 0; c = pos 0 }

abbrev loaded_line : FlatState
loaded_line = record { layouts = record { active = map on_line (0 ∷ 1 ∷ 2 ∷ 3 ∷ []); fields = ((2, 7) ∷ []) ∷ [] } ∷ [] }

-- the load leaves no text, and the dump that of the grid
left_by_each : left_by_program loads_and_dumps (told loads_and_dumps from_f lists_a_seven)
    ≡ Ok (record { state = loaded_line; text = [] } ∷ record { state = loaded_line; text = codes "grid 1 4\n0 0\n1 0\n2 7\n3 0\n" } ∷ [])
unfolding rows_of runs_of head_at run_in line_at length_at coordinate_at further_part_at number_before number_at count_at rest_after digits
left_by_each = refl

-- and so the run means
meant_by_both : meaning_of_run loads_and_dumps (telling_of loads_and_dumps.names loads_and_dumps.layouts Texts) None from_f lists_a_seven (unfolded_tasks loads_and_dumps.commands)
    ≡ record {
      moves = Reaches (at_state loads_and_dumps (opening (whole_line ∷ []))) ∷ ReadsFile (codes "f") ∷ Reaches (at_state loads_and_dumps loaded_line)
          ∷ WritesText (codes "grid 1 4\n0 0\n1 0\n2 7\n3 0\n") ∷ Reaches (at_state loads_and_dumps loaded_line) ∷ [];
      line = [];
      status = 0;
      last = Some loaded_line;
    }
unfolding meaning_of_tasks rows_of runs_of head_at run_in line_at length_at coordinate_at further_part_at number_before number_at count_at rest_after digits
meant_by_both = refl
