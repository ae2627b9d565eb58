-- What a run does with what the read of its file gave, and with what the file is compiled to.
use Rattle.std.proofs.Common.{◌≡◌, ◌≢◌, ◌⊎◌, inl, inr, ℕ, Bool, true, false, List, [], Option, Some, None, Result, Ok, Err, IfOk, refl, sym, ap, ◌∙◌, subst, arith}
use Rattle.std.specs.Prelude.{find, IsSome, if◌then◌else◌}
use Rattle.std.specs.Option.{IfSome}
use Rattle.std.proofs.lemmas.List.{append-nil}
use Rattle.std.specs.Result.{IsOkAnd}
use Rattle.sg_words.specs.declared.memory.Stop.{Stop}
use Rattle.sg_outside.specs.Files.{Reading, Bytes, TooMany, Missing}
use Rattle.sg_lexer.specs.Limits.{most_file_bytes}
use Rattle.sg_flat.specs.declared.state.FlatState.{FlatState}
use Rattle.sg_flat.specs.State.{opening}
use Rattle.sg_exec.specs.Standing.{StandForState}
use Rattle.sg_session.specs.declared.refusal.Refusal.{Refusal}
use Rattle.sg_session.specs.declared.refusal.Refusal.TheVariants as refusal
use Rattle.sg_ast.specs.declared.program.Item.{Item}
use Rattle.sg_lexer.specs.declared.fault.LexFault.TheVariants.{BadByte, BadNumber, LongName, TooManyTokens}
use Rattle.sg_parser.specs.declared.program.ParseFault.TheVariants.{Syntax}
use Rattle.sg_names.specs.declared.fault.NameFault.TheVariants.{Unknown, Twice, TooMany}
use Rattle.sg_layout.specs.declared.layout.LayoutFault.TheVariants as layout
use Rattle.sg_admit.specs.declared.admitted.AdmitFault.TheVariants as admit
use Rattle.sg_layout.specs.declared.shape.Shape.{Shape}
use Rattle.sg_names.specs.Tables.{Tables}
use Rattle.sg_session.specs.Texts.{check_text}
use Rattle.sg_session.specs.declared.tasks.Task.{Task}
use Rattle.sg_session.specs.declared.tasks.Stage.{Stage}
use Rattle.sg_session.specs.Performed.{SessionParts}
use Rattle.sg_session.specs.Compiled.{CheckedProgram, CompiledProgram, Compiles, unfolded_tasks}
use Rattle.sg_session.specs.Compiling.{spelled_program, compiled_program}
use Rattle.sparsegrid.specs.declared.last_line.LastLine.{LastLine}
use Rattle.sparsegrid.specs.declared.output.PutFailed.{PutFailed}
use Rattle.sparsegrid.specs.declared.session.Done.{Done}
use Rattle.sg_session.specs.Bindings.{Binding}
use Rattle.sparsegrid.specs.Words.{Asked, Doing, performs, generates, looks, writes_code, audits, doing, good_words, is_gen}
use Rattle.sg_snapshot.specs.declared.fault.SnapFault.{SnapFault}
use Rattle.sg_snapshot.specs.Restoring.{restored}
use Rattle.sparsegrid.specs.declared.showing.Showing.TheVariants.{Texts}
use Rattle.sparsegrid.specs.Limits.{most_snapshot_bytes}
use Rattle.sparsegrid.specs.Telling.{Telling, telling_of}
use Rattle.sparsegrid.specs.Moves.{writing}
use Rattle.sparsegrid.specs.Verdicts.{most_journal_bytes, journal_file}
use Rattle.sparsegrid.specs.Generated.{generated_text}
use Rattle.sparsegrid.specs.Lines.{read_last, file_bytes_last, journal_bytes_last, no_file_last, refusal_last, field_text, snapshot_bytes_last, snapshot_last, words_last}
use Rattle.sparsegrid.specs.Meaning.{Meaning, Readings, refused_before_tasks, all_done, is_unbound, left_by_snapshot, after_restoring, after_snapshot, begun, meaning_from, meaning_unless, meaning_of_run, meaning_in, after_journal, items_or_none, meaning_of_compiled, meaning_of_source, meaning_of_file, meaning_of_generated, meaning_of_asked, meaning_of_words, meaning_by}
use Rattle.sparsegrid.specs.Outcome.{Output, Outside, HasSession, StandsForLast}
use Rattle.sparsegrid.specs.steps.Along.{Sends, Follows, Went, line_text, ReadsEnd, ended_with, IsEnd, LeavesOnly, LeavesProgram}
use Rattle.sparsegrid.proofs.Going.{EndsInLine, Gone, gone_text, went_gone}
use Rattle.sparsegrid.proofs.Tasks.{refused_ends, tasks_end}

-- ---- a meaning whose status isn't 0 ends in a line

-- what comes after a snapshot ends in a line where its status isn't 0
pub snapshot_ends : (program : CheckedProgram) (name : List ℕ) (more : FlatState → Meaning) (given : Reading) → ((state : FlatState) → EndsInLine (more state)) → EndsInLine (after_snapshot program name more given)
snapshot_ends program name more Missing ends = refused_ends None (read_last name)
snapshot_ends program name more TooMany ends = refused_ends None snapshot_bytes_last
snapshot_ends program name more (Bytes bytes) ends = by_restored (restored program.layouts bytes) where
  by_restored : (answer : Result FlatState SnapFault) → EndsInLine (after_restoring program more answer)
  by_restored (Ok state) = ends state
  by_restored (Err fault) = refused_ends (left_by_snapshot program.layouts fault) (snapshot_last program.names fault)

pub begun_ends : (program : CheckedProgram) (from : Option (List ℕ)) (readings : Readings) (more : ℕ → FlatState → Meaning) → ((reads : ℕ) (state : FlatState) → EndsInLine (more reads state))
    → EndsInLine (begun program from readings more)
begun_ends program None readings more ends = ends 1 (opening program.layouts)
begun_ends program (Some name) readings more ends = snapshot_ends program name (more 2) (readings 2 name most_snapshot_bytes) (ends 2)

pub run_ends : (compiled : CheckedProgram) (telling : Telling) (from : Option (List ℕ)) (bindings : List Binding) (readings : Readings) (tasks : List Task)
    → EndsInLine (meaning_of_run compiled telling from bindings readings tasks)
run_ends compiled telling from bindings readings tasks = by_find (find (is_unbound compiled.names bindings) tasks) where
  by_find : (o : Option Task) → EndsInLine (meaning_unless o compiled telling from bindings readings tasks)
  by_find None =
      begun_ends compiled from readings (λ reads state. meaning_from compiled bindings telling readings reads state tasks)
      (λ reads state. tasks_end compiled bindings telling readings 0 reads state tasks)
  by_find (Some task) = refused_ends None (no_file_last (field_text compiled.names task))

pub journal_ends : (compiled : CheckedProgram) (name : List ℕ) (given : Reading) → EndsInLine (after_journal compiled name given)
journal_ends compiled name Missing = refused_ends None (read_last name)
journal_ends compiled name TooMany = refused_ends None journal_bytes_last
journal_ends compiled name (Bytes bytes) = λ other. absurd (other refl)

pub in_ends : (what : Doing) (compiled : CheckedProgram) (from : Option (List ℕ)) (bindings : List Binding) (readings : Readings) → EndsInLine (meaning_in what compiled from bindings readings)
in_ends (performs shown) compiled from bindings readings = run_ends compiled (telling_of compiled.names compiled.layouts shown) from bindings readings (unfolded_tasks compiled.commands)
in_ends generates compiled from bindings readings = run_ends compiled (telling_of compiled.names compiled.layouts Texts) None [] readings (unfolded_tasks compiled.commands)
in_ends looks compiled from bindings readings = λ other. absurd (other refl)
in_ends writes_code compiled from bindings readings = λ other. absurd (other refl)
in_ends audits compiled from bindings readings = journal_ends compiled (journal_file bindings) (readings 2 (journal_file bindings) most_journal_bytes)

pub compiled_ends : (asked : Asked) (readings : Readings) (bytes : List ℕ) (answer : Result CheckedProgram Refusal) → EndsInLine (meaning_of_compiled asked readings bytes answer)
compiled_ends asked readings bytes (Err why) = refused_ends None (refusal_last (items_or_none (spelled_program bytes)) why)
compiled_ends asked readings bytes (Ok compiled) = in_ends (doing asked.mode) compiled asked.from asked.bindings readings

pub source_ends : (asked : Asked) (readings : Readings) (given : Reading) → EndsInLine (meaning_of_source asked readings given)
source_ends asked readings Missing = refused_ends None (read_last asked.file)
source_ends asked readings TooMany = refused_ends None file_bytes_last
source_ends asked readings (Bytes bytes) = compiled_ends asked readings bytes (compiled_program bytes)

pub asked_ends : (asked : Asked) (readings : Readings) → EndsInLine (meaning_of_asked asked readings)
asked_ends asked readings = by_mode (is_gen asked.mode) where
  by_mode : (b : Bool) → EndsInLine (if b then meaning_of_generated asked readings else meaning_of_file asked readings)
  by_mode true = compiled_ends asked readings (generated_text asked.number) (compiled_program (generated_text asked.number))
  by_mode false = source_ends asked readings (readings 1 asked.file most_file_bytes)

pub words_end : (words : List (List ℕ)) (readings : Readings) → EndsInLine (meaning_by words readings)
words_end words readings = by_words (good_words words) where
  by_words : (o : Option Asked) → EndsInLine (meaning_of_words o readings)
  by_words None = refused_ends None words_last
  by_words (Some asked) = asked_ends asked readings

-- ---- a last line

pub not_two : (result : Result Done (Stop PutFailed)) (status : ℕ) → status ≢ 2 → IfOk result (λ done. done.status ≡ status) → IfOk result (λ done. done.status ≢ 2)
not_two (Ok done) status other is = λ two. other (sym is ∙ two)
not_two (Err why) status other is = tt

no_session : (m : Meaning) (result : Result Done (Stop PutFailed)) → IfOk result (λ done. done.session ≡ None) → IfOk result (λ done. IfSome done.session (StandsForLast m.last))
no_session m (Err why) none = tt
no_session m (Ok done) none = by_session done.session none where
  by_session : (o : Option SessionParts) → o ≡ None → IfSome o (StandsForLast m.last)
  by_session None e = tt
  by_session (Some kept) e = absurd (cc)

-- the last line of a run that leaves no session
pub gone_refused : (last : LastLine) (old new : Output) (result : Result Done (Stop PutFailed)) → Sends result old new (line_text last)
    → IfOk result (λ done. done.status ≡ last.status) → IfOk result (λ done. done.session ≡ None) → Gone (refused_before_tasks last) old new result
gone_refused last old new result sent status none =
    gone_text (refused_before_tasks last) (line_text last) old new result refl (refused_ends None last) sent status (no_session (refused_before_tasks last) result none)

pub went_refused : (last : LastLine) (n : ℕ) (before after : Outside) (result : Result Done (Stop PutFailed)) → Sends result before.output after.output (line_text last)
    → IfOk result (λ done. done.status ≡ last.status) → IfOk result (λ done. done.session ≡ None) → last.status ≢ 2
    → after.asked ≡ before.asked → after.reads ≡ before.reads → after.failed_reads ≡ before.failed_reads → Went (λ readings. refused_before_tasks last) n before after result
went_refused last n before after result sent status none other asked reads faults =
    went_gone (refused_before_tasks last) n before after result (gone_refused last before.output after.output result sent status none) asked reads faults (not_two result last.status other status)

-- ---- the read of the file

-- the file is read
pub of_file : (asked : Asked) → is_gen asked.mode ≡ false → (readings : Readings) → meaning_of_asked asked readings ≡ meaning_of_file asked readings
of_file asked file readings = ap (λ (b : Bool). if b then meaning_of_generated asked readings else meaning_of_file asked readings) file

-- ---- parts that read nothing

-- the same meaning in other words
unfoldable pub went_same : (m other : Readings → Meaning) (n : ℕ) (before after : Outside) (result : Result Done (Stop PutFailed)) → ((readings : Readings) → m readings ≡ other readings)
    → Went other n before after result → Went m n before after result
went_same m other n before after result same went =
    record {
      made = went.made;
      did = went.did;
      part = went.part;
      names = went.names;
      grew = went.grew;
      follows = λ readings agree. subst (λ (whole : Meaning). Follows whole went.did went.part result) (sym (same readings)) (went.follows readings agree);
      ends = went.ends;
    }

-- ---- statuses of refused files

pub file_statuses : (items : List Item) (why : Refusal) → ((refusal_last items why).status ≡ 4) ⊎ (((refusal_last items why).status ≡ 5) ⊎ ((refusal_last items why).status ≡ 8))
file_statuses items (refusal.Lex (BadByte line)) = inl refl
file_statuses items (refusal.Lex (BadNumber line)) = inl refl
file_statuses items (refusal.Lex (LongName line)) = inr (inr refl)
file_statuses items (refusal.Lex TooManyTokens) = inr (inr refl)
file_statuses items (refusal.Parse (Syntax item line)) = inl refl
file_statuses items (refusal.Name (Unknown item)) = inr (inl refl)
file_statuses items (refusal.Name (Twice item)) = inr (inl refl)
file_statuses items (refusal.Name (TooMany which)) = inr (inr refl)
file_statuses items (refusal.Layout number (layout.BadExtent node)) = inr (inl refl)
file_statuses items (refusal.Layout number (layout.BadOrder node)) = inr (inl refl)
file_statuses items (refusal.Layout number (layout.BadAxis node)) = inr (inl refl)
file_statuses items (refusal.Layout number layout.TooLarge) = inr (inr refl)
file_statuses items (refusal.Layout number (layout.BadCap node)) = inr (inl refl)
file_statuses items refusal.Words = inr (inr refl)
file_statuses items (refusal.Types fault) = inr (inl refl)
file_statuses items (refusal.Admit kernel (admit.Rule stmt rule)) = inr (inl refl)
file_statuses items (refusal.Admit kernel admit.BoxTooLarge) = inr (inr refl)
file_statuses items (refusal.Command item) = inr (inl refl)
file_statuses items refusal.Times = inr (inr refl)
file_statuses items refusal.Image = inr (inr refl)

pub file_not_two : (items : List Item) (why : Refusal) → (refusal_last items why).status ≢ 2
file_not_two items why two = by_status (file_statuses items why) where
  by_status : ((refusal_last items why).status ≡ 4) ⊎ (((refusal_last items why).status ≡ 5) ⊎ ((refusal_last items why).status ≡ 8)) → ⊥
  by_status (inl four) = absurd (omega arith)
  by_status (inr (inl five)) = absurd (omega arith)
  by_status (inr (inr eight)) = absurd (omega arith)

-- a refused run with a status that leaves no session has none
pub without_session : (result : Result Done (Stop PutFailed)) (n : ℕ) → n ≢ 3 → n ≢ 9 → n ≢ 0 → n ≢ 7
    → IfOk result (λ done. done.status ≡ n) → IfOk result (λ done. done.session ≡ None) → IfOk result IsEnd
without_session (Err failed) n three nine zero seven same none = tt
without_session (Ok done) n three nine zero seven same none =
    ((λ e. three (sym same ∙ e)), (λ e. nine (sym same ∙ e)), ((λ some. absurd (no_some done.session none some)), no_kept))
  where
    no_some : (o : Option SessionParts) → o ≡ None → IsSome o → ⊥
    no_some None e some = absurd (cc)
    no_some (Some kept) e some = absurd (cc)

    no_kept : HasSession done.status → IsSome done.session
    no_kept (inl e) = absurd (zero (sym same ∙ e))
    no_kept (inr e) = absurd (seven (sym same ∙ e))

-- a run that was refused before its commands leaves no session
pub refused_end : (result : Result Done (Stop PutFailed)) (items : List Item) (why : Refusal) → IfOk result (λ done. done.status ≡ (refusal_last items why).status) → IfOk result (λ done. done.session ≡ None) → IfOk result IsEnd
refused_end (Err failed) items why is none = tt
refused_end (Ok done) items why is none = by_status (file_statuses items why) where
  by_status : ((refusal_last items why).status ≡ 4) ⊎ (((refusal_last items why).status ≡ 5) ⊎ ((refusal_last items why).status ≡ 8)) → IsEnd done
  by_status (inl four) =
      without_session (Ok done) 4 (λ e. absurd (omega arith)) (λ e. absurd (omega arith)) (λ e. absurd (omega arith)) (λ e. absurd (omega arith)) (is ∙ four) none
  by_status (inr (inl five)) =
      without_session (Ok done) 5 (λ e. absurd (omega arith)) (λ e. absurd (omega arith)) (λ e. absurd (omega arith)) (λ e. absurd (omega arith)) (is ∙ five) none
  by_status (inr (inr eight)) =
      without_session (Ok done) 8 (λ e. absurd (omega arith)) (λ e. absurd (omega arith)) (λ e. absurd (omega arith)) (λ e. absurd (omega arith)) (is ∙ eight) none

-- ---- the tasks of a session

-- what is kept of a session stands for the last state
pub kept_last : (m : Meaning) (session : SessionParts) (o : Option SessionParts) → IfSome o (λ kept. kept ≡ session) → StandsForLast m.last session → IfSome o (StandsForLast m.last)
kept_last m session None k stand = tt
kept_last m session (Some other) k stand = subst (λ (s : SessionParts). StandsForLast m.last s) (sym k) stand

-- a run of tasks ends as they do
unfoldable pub went_kept : (m : Readings → Meaning) (n : ℕ) (before after : Outside) (session : SessionParts) (status : ℕ) (done : Done)
    → done.status ≡ status → IfSome done.session (λ kept. kept ≡ session) → Went m n before after (ended_with session (Ok status)) → Went m n before after (Ok done)
went_kept m n before after session status done same kept went =
    record {
      made = went.made;
      did = went.did;
      part = went.part;
      names = went.names;
      grew = went.grew;
      follows = λ readings agree. let f = went.follows readings agree in
          (record { all = f.0.all; status = same ∙ f.0.status; last = kept_last (m readings) session done.session kept f.0.last }, f.1);
      ends = ends went.ends;
    }
  where
    ends : ReadsEnd before after went.made (ended_with session (Ok status)) → ReadsEnd before after went.made (Ok done)
    ends (inl well) = inl (well.0, λ two. well.1 (sym same ∙ two))
    ends (inr failed) = inr (failed.0, same ∙ failed.1)

pub run_unbound : (compiled : CheckedProgram) (telling : Telling) (from : Option (List ℕ)) (bindings : List Binding) (readings : Readings) (tasks : List Task) (o : Option Task)
    → o ≡ find (is_unbound compiled.names bindings) tasks
    → meaning_of_run compiled telling from bindings readings tasks ≡ meaning_unless o compiled telling from bindings readings tasks
run_unbound compiled telling from bindings readings tasks o is = ap (λ (f : Option Task). meaning_unless f compiled telling from bindings readings tasks) (sym is)

-- which task is the first without a file, in the words of the program that is compiled
pub same_first : (program : CheckedProgram) (compiled : CompiledProgram) (bindings : List Binding) (tasks : List Task) (o : Option Task) → Compiles program compiled → tasks ≡ unfolded_tasks compiled.commands
    → o ≡ find (is_unbound compiled.names bindings) tasks → o ≡ find (is_unbound program.names bindings) (unfolded_tasks program.commands)
same_first program compiled bindings tasks o compiles are found =
    found ∙ (ap (λ (t : Tables). find (is_unbound t bindings) tasks) compiles.names
    ∙ ap (λ (ts : List Task). find (is_unbound program.names bindings) ts) (are ∙ ap (λ (ss : List Stage). unfolded_tasks ss) compiles.commands))

-- and its last line
pub line_named : (program : CheckedProgram) (compiled : CompiledProgram) (task : Task) (old new : Output) (result : Result Done (Stop PutFailed)) → Compiles program compiled
    → Sends result old new (line_text (no_file_last (field_text compiled.names task))) → Sends result old new (line_text (no_file_last (field_text program.names task)))
line_named program compiled task old new result compiles sent = subst (λ (t : Tables). Sends result old new (line_text (no_file_last (field_text t task)))) compiles.names sent

-- a session that is left of this program is what its file is compiled to
pub compiled_left : (answer : Result CheckedProgram Refusal) (compiled : CompiledProgram) (result : Result Done (Stop PutFailed)) → IsOkAnd answer (λ program. Compiles program compiled)
    → LeavesProgram compiled result → LeavesOnly (λ session. IsOkAnd answer (λ program. Compiles program session.compiled)) result
compiled_left answer compiled (Err why) compiles left = tt
compiled_left answer compiled (Ok done) compiles left = by_session done.session left
  where
    by_session : (o : Option SessionParts) → IfSome o (λ session. session.compiled ≡ compiled) → IfSome o (λ session. IsOkAnd answer (λ program. Compiles program session.compiled))
    by_session None same = tt
    by_session (Some session) same = subst (λ (c : CompiledProgram). IsOkAnd answer (λ program. Compiles program c)) (sym same) compiles

-- ---- a text, and the stores as they are opened

-- the lines of kernels, in the words of the program that is compiled
pub check_named : (program : CheckedProgram) (compiled : CompiledProgram) → Compiles program compiled → check_text compiled.names compiled.neutral ≡ check_text program.names program.neutral
check_named program compiled compiles =
    ap (λ (t : Tables). check_text t compiled.neutral) compiles.names ∙ ap (λ (bs : List Bool). check_text program.names bs) compiles.neutral

opened_last : (program : CheckedProgram) (compiled : CompiledProgram) (result : Result Done (Stop PutFailed)) → Compiles program compiled → LeavesProgram compiled result
    → LeavesOnly (λ session. StandForState compiled.layouts session.stores (opening compiled.layouts)) result → IfOk result (λ done. IfSome done.session (StandsForLast (Some (opening program.layouts))))
opened_last program compiled (Err why) compiles left stand = tt
opened_last program compiled (Ok done) compiles left stand = by_session done.session left stand where
  by_session : (o : Option SessionParts) → IfSome o (λ session. session.compiled ≡ compiled) → IfSome o (λ session. StandForState compiled.layouts session.stores (opening compiled.layouts))
      → IfSome o (StandsForLast (Some (opening program.layouts)))
  by_session None same stands = tt
  by_session (Some session) same stands =
      subst (λ (c : CompiledProgram). StandForState c.layouts session.stores (opening program.layouts)) (sym same)
      (subst (λ (ls : List Shape). StandForState compiled.layouts session.stores (opening ls)) compiles.layouts stands)

-- a text was written over the stores as they are opened
pub went_opened : (program : CheckedProgram) (compiled : CompiledProgram) (text other : List ℕ) (n : ℕ) (before after : Outside) (result : Result Done (Stop PutFailed)) → Compiles program compiled
    → text ≡ other → Sends result before.output after.output text → LeavesProgram compiled result → LeavesOnly (λ session. StandForState compiled.layouts session.stores (opening compiled.layouts)) result
    → IfOk result (λ done. done.status ≡ 0) → after.asked ≡ before.asked → after.reads ≡ before.reads → after.failed_reads ≡ before.failed_reads
    → Went (λ readings. all_done other (opening program.layouts)) n before after result
went_opened program compiled text other n before after result compiles same sent left stand status asked reads faults =
    went_gone (all_done other (opening program.layouts)) n before after result
    (gone_text (all_done other (opening program.layouts)) other before.output after.output result (append-nil (writing other)) (λ wrong. absurd (wrong refl))
    (subst (λ (t : List ℕ). Sends result before.output after.output t) same sent) status (opened_last program compiled result compiles left stand))
    asked reads faults (not_two result 0 (λ e. absurd (omega arith)) status)
