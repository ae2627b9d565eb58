-- Layouts don't matter to what runs mean.
use Rattle.std.proofs.Common.{◌≡◌, ◌≢◌, ℕ, suc, ◌+◌, Bool, true, false, List, [], ◌∷◌, map, length, Option, Some, None, Result, Ok, Err, refl, sym, ap, ◌∙◌, arith}
use Rattle.std.specs.Prelude.{if◌then◌else◌, nat_le, slice_get, bytes_eq}
use Rattle.std.specs.FinMap.{get}
use Rattle.std.proofs.lemmas.Slice.Eq.{bytes_eq-Decides}
use Rattle.sg_words.specs.Results.{◌>>=◌, fault_as}
use Rattle.sg_ast.specs.declared.program.Program.{Program}
use Rattle.sg_lexer.specs.Limits.{most_file_bytes}
use Rattle.sg_parser.specs.Laws.{ParsedIsSpelled}
use Rattle.sg_outside.specs.Files.{Held, Reading, Bytes, TooMany, reading_at, reading}
use Rattle.sg_grid.specs.Limits.{most_grid_bytes}
use Rattle.sg_grid.specs.declared.grid.GridRow.{GridRow}
use Rattle.sg_grid.specs.Reading.{rows_of}
use Rattle.sg_flat.specs.declared.effects.Write.{Write}
use Rattle.sg_flat.specs.declared.state.FlatState.{FlatState}
use Rattle.sg_flat.specs.State.{opening}
use Rattle.sg_names.specs.declared.tables.FieldAt.{FieldAt}
use Rattle.sg_names.specs.Tables.{Tables}
use Rattle.sg_exec.specs.Running.{load_meaning}
use Rattle.sg_session.specs.declared.refusal.RunRefusal.{RunRefusal}
use Rattle.sg_session.specs.declared.refusal.RunRefusal.TheVariants as refusal
use Rattle.sg_session.specs.declared.tasks.Task.{Task}
use Rattle.sg_session.specs.declared.tasks.Task.TheVariants.{Load, Run, Dump, Image, Stats, Prune, Clear}
use Rattle.sg_session.specs.Bindings.{Binding, file_of_task}
use Rattle.sg_session.specs.Compiled.{CheckedProgram, unfolded_tasks}
use Rattle.sg_session.specs.Compiling.{spelled_program, compiled_program}
use Rattle.sg_session.specs.Commands.{Left, row_write, bounds_or_none, grid_refusal, field_writes, loaded_state, without_text, task_meaning}
use Rattle.sg_session.specs.Independence.{LayoutsDontMatter, left_by}
use Rattle.sparsegrid.specs.declared.words.Mode.{Mode}
use Rattle.sparsegrid.specs.declared.words.Mode.TheVariants as mode
use Rattle.sparsegrid.specs.declared.showing.Showing.TheVariants.{Texts}
use Rattle.sparsegrid.specs.Telling.{telling_of}
use Rattle.sparsegrid.specs.Moves.{pieces_in}
use Rattle.sparsegrid.specs.Words.{Asked, doing, is_gen, good_words}
use Rattle.sparsegrid.specs.Meaning.{Meaning, moves_of, text_meant, asking_for, readings_in, meaning_of_run, meaning_in, meaning_of_compiled, meaning_of_source, meaning_of_file, meaning_of_generated, meaning_of_asked, meaning_of_words, meaning}
use Rattle.sparsegrid.specs.Independence.{reading_behind, reads_with, told_from, told, IsWhatIsLeft, MeaningIsOfCommands, AreSameBut, LayoutsDontMatterToRuns}
use Rattle.sparsegrid.proofs.NoGrids.{no_grid}
use Rattle.sg_session.proofs.Uses.{bound_ok, tasks_same}

-- ---- a program is no grid of a field

written_rows : ParsedIsSpelled → (layouts : List _) (at : FieldAt) (file : List ℕ) (program : Program) (writes : List Write) → spelled_program file ≡ Ok program → field_writes layouts at file ≡ Ok writes → ⊥
written_rows law layouts at file program writes spelled e =
    let found = bound_ok (rows_of (bounds_or_none (slice_get layouts at.layout)) at.ty file) (λ (rows : List GridRow). Ok (map (row_write at.layout at.place) rows)) writes e in
    no_grid law file program (bounds_or_none (slice_get layouts at.layout)) at.ty found.x spelled found.is

as_none : {A D E : Type 0} (tell : D → E) (r : Result A D) (x : A) → ((y : A) → r ≡ Ok y → ⊥) → fault_as tell r ≡ Ok x → ⊥
as_none tell (Ok y) x none e = none y refl
as_none tell (Err fault) x none e = absurd (cc)

not_loaded : ParsedIsSpelled → (program : CheckedProgram) (state : FlatState) (at : FieldAt) (file : List ℕ) (limit : ℕ) (spelled : Program) (left : Left) → spelled_program file ≡ Ok spelled
    → task_meaning program state (Load at) (reading_at (Some file) limit) ≡ Ok left → ⊥
not_loaded law program state at file limit spelled left is e = by_size (nat_le (length file) limit) e where
  by_size : (fits : Bool) → task_meaning program state (Load at) (if fits then Bytes file else TooMany) ≡ Ok left → ⊥
  by_size false h = absurd (cc)
  by_size true h =
      let state_made = bound_ok (loaded_state program.layouts state at file) (λ after. Ok (without_text after)) left h in
      let writes = bound_ok (fault_as (grid_refusal at.number) (field_writes program.layouts at file)) (λ rows. fault_as (refusal.Run None) (load_meaning program.layouts state rows)) state_made.x state_made.is in
      as_none (grid_refusal at.number) (field_writes program.layouts at file) writes.x (λ rows. written_rows law program.layouts at file spelled rows is) writes.is

-- ---- the files of the two runs give the same to each command that is performed

-- two tellings give the same to each of these tasks, if it is performed
abbrev Agree : CheckedProgram → (ℕ → Reading) → (ℕ → Reading) → ℕ → List Task → Type 0
Agree program one other place [] = Unit {0}
Agree program one other place (task ∷ tasks) =
    ((state : FlatState) (left : Left) → task_meaning program state task (one place) ≡ Ok left → task_meaning program state task (other place) ≡ Ok left) × Agree program one other (suc place) tasks

left_too : (program : CheckedProgram) (one other : ℕ → Reading) (place : ℕ) (tasks : List Task) (state : FlatState) (lefts : List Left) → Agree program one other place tasks
    → left_by program one place tasks state ≡ Ok lefts → left_by program other place tasks state ≡ Ok lefts
left_too program one other place [] state lefts agree e = e
left_too program one other place (task ∷ tasks) state lefts agree e =
    let here = bound_ok (task_meaning program state task (one place)) (λ (left : Left). left_by program one (suc place) tasks left.state >>= (λ more. Ok (left ∷ more))) lefts e in
    let rest = bound_ok (left_by program one (suc place) tasks here.x.state) (λ more. Ok (here.x ∷ more)) lefts here.gives in
    ap (λ (r : Result Left RunRefusal). r >>= (λ left. left_by program other (suc place) tasks left.state >>= (λ more. Ok (left ∷ more)))) (agree.0 state here.x here.is)
    ∙ ap (λ (r : Result (List Left) RunRefusal). r >>= (λ more. Ok (here.x ∷ more))) (left_too program one other (suc place) tasks here.x.state rest.x agree.1 rest.is) ∙ rest.gives

module _ (law : ParsedIsSpelled) (program : CheckedProgram) (bindings : List Binding) (held held' : Held) (file : List ℕ) (bytes : List ℕ) (spelled : Program)
    (others : AreSameBut file held held') (has : get held' file ≡ Some bytes) (is_spelled : spelled_program bytes ≡ Ok spelled) where
  -- of the file itself no load is performed
  same_file : (state : FlatState) (task : Task) (name : List ℕ) (left : Left) → file_of_task program.names bindings task ≡ Some name
      → task_meaning program state task (reading held' name most_grid_bytes) ≡ Ok left → task_meaning program state task (reading held name most_grid_bytes) ≡ Ok left
  same_file state (Load at) name left reads e = by_name (bytes_eq name file) refl where
    by_name : (same : Bool) → bytes_eq name file ≡ same → task_meaning program state (Load at) (reading held name most_grid_bytes) ≡ Ok left
    by_name true is =
        let it : name ≡ file = (bytes_eq-Decides name file).0 is in
        absurd (not_loaded law program state at bytes most_grid_bytes spelled left is_spelled
        (sym (ap (λ (given : Option (List ℕ)). task_meaning program state (Load at) (reading_at given most_grid_bytes)) (ap (get held') it ∙ has)) ∙ e))
    by_name false is =
        let apart : name ≢ file = λ it. let also : bytes_eq name file ≡ true = (bytes_eq-Decides name file).1 it in absurd (cc) in
        ap (λ (given : Option (List ℕ)). task_meaning program state (Load at) (reading_at given most_grid_bytes)) (others name apart) ∙ e
  same_file state (Run kernel) name left reads e = absurd (cc)
  same_file state (Dump at) name left reads e = absurd (cc)
  same_file state (Image field lo hi) name left reads e = absurd (cc)
  same_file state (Stats layout) name left reads e = absurd (cc)
  same_file state (Prune layout) name left reads e = absurd (cc)
  same_file state (Clear layout) name left reads e = absurd (cc)

  same_given : (reads : ℕ) (state : FlatState) (task : Task) (left : Left) (name : Option (List ℕ)) → file_of_task program.names bindings task ≡ name
      → task_meaning program state task (reading_behind (readings_in held' None) reads name) ≡ Ok left → task_meaning program state task (reading_behind (readings_in held None) reads name) ≡ Ok left
  same_given reads state task left None is e = e
  same_given reads state task left (Some name) is e = same_file state task name left is e

  agree : (one other : ℕ → Reading) (place reads : ℕ) (tasks : List Task) → ((i : ℕ) → one (i + place) ≡ told_from program.names bindings (readings_in held' None) reads tasks i)
      → ((i : ℕ) → other (i + place) ≡ told_from program.names bindings (readings_in held None) reads tasks i) → Agree program one other place tasks
  agree one other place reads [] ones others_are = tt
  agree one other place reads (task ∷ tasks) ones others_are = (
    (λ state left e.
        ap (task_meaning program state task) (ap other (omega arith) ∙ others_are 0)
        ∙ same_given reads state task left (file_of_task program.names bindings task) refl (sym (ap (task_meaning program state task) (ap one (omega arith) ∙ ones 0)) ∙ e)),
    agree one other (suc place) (reads_with reads (file_of_task program.names bindings task)) tasks (λ i. ap one (omega arith) ∙ ones (suc i)) (λ i. ap other (omega arith) ∙ others_are (suc i)),
  )

-- ---- a run over files means what its program's commands leave

-- the meaning of the run of the program of the named file
module _ (words : List (List ℕ)) (held : Held) (asked : Asked) (file : List ℕ) (program : CheckedProgram)
    (words_are : good_words words ≡ Some asked) (runs : asked.mode ≡ mode.Run) (bare : asked.from ≡ None) (has : get held asked.file ≡ Some file) (checked : compiled_program file ≡ Ok program) where
  abbrev in_run : Meaning
  in_run = meaning_of_run program (telling_of program.names program.layouts Texts) None asked.bindings (readings_in held None) (unfolded_tasks program.commands)

  of_source : (fits : Bool) → (meaning_of_source asked (readings_in held None) (if fits then Bytes file else TooMany)).status ≡ 0
      → meaning_of_source asked (readings_in held None) (if fits then Bytes file else TooMany) ≡ in_run
  of_source false status = absurd (cc)
  of_source true status =
      ap (meaning_of_compiled asked (readings_in held None) file) checked ∙ ap (λ (m : Mode). meaning_in (doing m) program asked.from asked.bindings (readings_in held None)) runs
      ∙ ap (λ (from : Option (List ℕ)). meaning_in (doing mode.Run) program from asked.bindings (readings_in held None)) bare

  run_meant : (meaning words held None).status ≡ 0 → meaning words held None ≡ asking_for asked.file in_run
  run_meant status =
      let first : meaning words held None ≡ meaning_of_asked asked (readings_in held None) = ap (λ (good : Option Asked). meaning_of_words good (readings_in held None)) words_are in
      let second : meaning_of_asked asked (readings_in held None) ≡ meaning_of_file asked (readings_in held None) =
      ap (λ (m : Mode). if is_gen m then meaning_of_generated asked (readings_in held None) else meaning_of_file asked (readings_in held None)) runs in
      let third : meaning_of_file asked (readings_in held None) ≡ asking_for asked.file (meaning_of_source asked (readings_in held None) (reading_at (Some file) most_file_bytes)) =
      ap (λ (given : Option (List ℕ)). asking_for asked.file (meaning_of_source asked (readings_in held None) (reading_at given most_file_bytes))) has in
      let whole : meaning words held None ≡ asking_for asked.file (meaning_of_source asked (readings_in held None) (reading_at (Some file) most_file_bytes)) = first ∙ second ∙ third in
      whole ∙ ap (asking_for asked.file) (of_source (nat_le (length file) most_file_bytes) (sym (ap (λ (m : Meaning). m.status) whole) ∙ status))

  run_left : MeaningIsOfCommands → (meaning words held None).status ≡ 0 → (lefts : List Left) × IsWhatIsLeft program asked.bindings (readings_in held None) (meaning words held None) lefts
  run_left law status =
      let is = run_meant status in
      let made = (law program asked.bindings (readings_in held None)).leaves (sym (ap (λ (m : Meaning). m.status) is) ∙ status) in
      (made.0, record { left = made.1.left; pieces = ap (λ (m : Meaning). pieces_in (moves_of m)) is ∙ made.1.pieces; text = ap (λ (m : Meaning). text_meant m) is ∙ made.1.text; last = ap (λ (m : Meaning). m.last) is ∙ made.1.last })

-- ---- the law

pub layouts_dont_matter_to_runs : ParsedIsSpelled → MeaningIsOfCommands → LayoutsDontMatter → LayoutsDontMatterToRuns
layouts_dont_matter_to_runs parsed commands layouts words held held' asked first second differ status status' =
    let one = run_left words held asked differ.file first differ.words_are differ.runs differ.opened differ.file_is differ.alike.first_is commands status in
    let other = run_left words held' asked differ.file' second differ.words_are differ.runs differ.opened differ.file_is' differ.alike.second_is commands status' in
    let same = tasks_same differ.file differ.file' first second differ.alike in
    let tasks : unfolded_tasks first.commands ≡ unfolded_tasks second.commands = ap unfolded_tasks (sym same.commands) in
    let given : (i : ℕ) → told first asked.bindings (readings_in held None) (i + 0) ≡ told_from second.names asked.bindings (readings_in held None) 1 (unfolded_tasks second.commands) i =
    λ i. ap (told first asked.bindings (readings_in held None)) (omega arith)
    ∙ ap (λ (names : Tables). told_from names asked.bindings (readings_in held None) 1 (unfolded_tasks first.commands) i) (sym same.names)
    ∙ ap (λ (ts : List Task). told_from second.names asked.bindings (readings_in held None) 1 ts i) tasks in
    let agrees = agree parsed second asked.bindings held held' asked.file differ.file' differ.alike.other differ.others differ.file_is' differ.alike.other_is
    (told second asked.bindings (readings_in held' None)) (told first asked.bindings (readings_in held None)) 0 1 (unfolded_tasks second.commands)
    (λ i. ap (told second asked.bindings (readings_in held' None)) (omega arith)) given in
    let also = left_too second (told second asked.bindings (readings_in held' None)) (told first asked.bindings (readings_in held None)) 0 (unfolded_tasks second.commands) (opening second.layouts) other.0 agrees other.1.left in
    record {
      lefts = one.0;
      rights = other.0;
      one_is = one.1;
      other_is = other.1;
      same = layouts differ.file differ.file' first second (told first asked.bindings (readings_in held None)) one.0 other.0 differ.alike differ.neutral one.1.left also;
    }
