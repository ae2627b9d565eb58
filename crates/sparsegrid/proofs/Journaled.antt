-- From what a run did that writes a journal to the clause that says it.
use Rattle.std.proofs.Common.{◌≡◌, ℕ, suc, ◌-◌, ◌<◌, ◌⊎◌, inl, inr, Bool, true, false, List, [], ◌∷◌, ◌++◌, length, Option, Some, None, Result, Ok, Err, IfOk, refl, sym, ap, ◌∙◌, subst, append_assoc, arith}
use Rattle.std.specs.Prelude.{find, take, if◌then◌else◌}
use Rattle.std.proofs.lemmas.List.Concat.{flat_map-append}
use Rattle.sg_words.specs.declared.memory.Stop.{Stop}
use Rattle.sg_words.specs.declared.memory.Stop.TheVariants as stop
use Rattle.sg_outside.specs.Counts.{Rose, last_count}
use Rattle.sg_outside.specs.Files.{Held, Reading, Bytes, TooMany, Missing}
use Rattle.sg_lexer.specs.Limits.{most_file_bytes}
use Rattle.sg_grid.specs.Limits.{most_grid_bytes}
use Rattle.sg_layout.specs.declared.shape.Shape.{Shape}
use Rattle.sg_flat.specs.declared.state.FlatState.{FlatState}
use Rattle.sg_flat.specs.State.{opening}
use Rattle.sg_names.specs.Tables.{Tables}
use Rattle.sg_journal.specs.declared.lines.Line.{Line}
use Rattle.sg_journal.specs.Lines.{line_text, lines_text}
use Rattle.sg_journal.specs.Rooms.{rooms_of}
use Rattle.sg_audit.specs.WholeLines.{FrontsAreSound}
use Rattle.sg_snapshot.specs.declared.fault.SnapFault.{SnapFault}
use Rattle.sg_snapshot.specs.Restoring.{restored}
use Rattle.sg_session.specs.declared.refusal.Refusal.{Refusal}
use Rattle.sg_session.specs.declared.refusal.RunRefusal.{RunRefusal}
use Rattle.sg_session.specs.declared.tasks.Task.{Task}
use Rattle.sg_session.specs.Commands.{Left, task_meaning}
use Rattle.sg_session.specs.Bindings.{Binding, file_of_task}
use Rattle.sg_session.specs.Compiled.{CheckedProgram, unfolded_tasks}
use Rattle.sg_session.specs.Compiling.{compiled_program}
use Rattle.sparsegrid.specs.declared.output.PutFailed.{PutFailed}
use Rattle.sparsegrid.specs.declared.session.Done.{Done}
use Rattle.sparsegrid.specs.declared.showing.Showing.TheVariants.{Texts, Image, Advice, Changes}
use Rattle.sparsegrid.specs.Words.{Asked, Doing, performs, generates, looks, writes_code, audits, doing, good_words, is_gen}
use Rattle.sparsegrid.specs.Generated.{generated_text}
use Rattle.sparsegrid.specs.Limits.{most_snapshot_bytes}
use Rattle.sparsegrid.specs.Moves.{Move, text_in, reached_in}
use Rattle.sparsegrid.specs.Parts.{Parts, lines_in, AreOver}
use Rattle.sparsegrid.specs.Telling.{Telling, telling_of}
use Rattle.sparsegrid.specs.Meaning.{Meaning, Readings, said, is_journal, asks_journal, after_restoring, after_snapshot, begun, is_unbound, after_task, task_and_more, meaning_of_tasks, meaning_from, meaning_unless, meaning_of_run, meaning_in, meaning_of_compiled, meaning_of_source, meaning_of_file, meaning_of_generated, meaning_of_asked, meaning_of_words, meaning_by, meaning, readings_in}
use Rattle.sparsegrid.specs.Outcome.{Outside, IsCutShort, IsEnding, Wrote, IsFront}
use Rattle.sparsegrid.specs.Journaling.{with_journal, IsJournalOf, JournalWrote, CutIsSound, WentSound, KeepsJournal}
use Rattle.sparsegrid.specs.steps.Along.{Agree, status_of, session_of, IsEnd}
use Rattle.sparsegrid.specs.steps.Leading.{AreSoundOver, Journals, Kept}
use Rattle.sparsegrid.proofs.Writing.{text_append, text_whole}
use Rattle.sparsegrid.proofs.Readings.{readings_of, agree_own}
use Rattle.sparsegrid.proofs.Parted.{AreQuiet, lines_written, all_written, reached_with, front_of}
use Rattle.sparsegrid.proofs.Clauses as clauses

-- ---- in mode journal a meaning writes nothing before its last line, but for the parts

module _ (program : CheckedProgram) (bindings : List Binding) (names : Tables) (shapes : List Shape) (readings : Readings) where
  abbrev plain : Telling
  plain = telling_of names shapes Changes

  quiet_tasks : (number n : ℕ) (state : FlatState) (tasks : List Task) → AreQuiet (meaning_of_tasks program bindings plain readings number n state tasks).moves
  unfolding meaning_of_tasks
  quiet_tasks number n state [] = tt
  quiet_tasks number n state (task ∷ tasks) = by_file (file_of_task program.names bindings task) (λ after next. quiet_tasks (suc number) after next tasks) where
    more : ℕ → FlatState → Meaning
    more after next = meaning_of_tasks program bindings plain readings (suc number) after next tasks

    by_answer : (file : Option (List ℕ)) (after : ℕ) (answer : Result Left RunRefusal) → ((next : FlatState) → AreQuiet (more after next).moves)
        → AreQuiet (after_task program plain number state file task (more after) answer).moves
    by_answer file after (Ok left) rest = rest left.state
    by_answer file after (Err why) rest = tt

    by_file : (file : Option (List ℕ)) → ((after : ℕ) (next : FlatState) → AreQuiet (more after next).moves) → AreQuiet (task_and_more program plain readings number n state task more file).moves
    by_file None rest = by_answer None n (task_meaning program state task Missing) (rest n)
    by_file (Some name) rest = by_answer (Some name) (suc n) (task_meaning program state task (readings (suc n) name most_grid_bytes)) (rest (suc n))

  quiet_from : (reads : ℕ) (state : FlatState) (tasks : List Task) → AreQuiet (meaning_from program bindings plain readings reads state tasks).moves
  quiet_from reads state tasks = quiet_tasks 0 reads state tasks

quiet_snapshot : (program : CheckedProgram) (name : List ℕ) (more : FlatState → Meaning) (given : Reading) → ((state : FlatState) → AreQuiet (more state).moves) → AreQuiet (after_snapshot program name more given).moves
quiet_snapshot program name more Missing quiet = tt
quiet_snapshot program name more TooMany quiet = tt
quiet_snapshot program name more (Bytes bytes) quiet = by_restored (restored program.layouts bytes) where
  by_restored : (answer : Result FlatState SnapFault) → AreQuiet (after_restoring program more answer).moves
  by_restored (Ok state) = quiet state
  by_restored (Err fault) = tt

quiet_begun : (program : CheckedProgram) (from : Option (List ℕ)) (readings : Readings) (more : ℕ → FlatState → Meaning) → ((reads : ℕ) (state : FlatState) → AreQuiet (more reads state).moves)
    → AreQuiet (begun program from readings more).moves
quiet_begun program None readings more quiet = quiet 1 (opening program.layouts)
quiet_begun program (Some name) readings more quiet = quiet_snapshot program name (more 2) (readings 2 name most_snapshot_bytes) (quiet 2)

quiet_run : (program : CheckedProgram) (from : Option (List ℕ)) (bindings : List Binding) (readings : Readings) (tasks : List Task)
    → AreQuiet (meaning_of_run program (telling_of program.names program.layouts Changes) from bindings readings tasks).moves
quiet_run program from bindings readings tasks = by_find (find (is_unbound program.names bindings) tasks) where
  by_find : (o : Option Task) → AreQuiet (meaning_unless o program (telling_of program.names program.layouts Changes) from bindings readings tasks).moves
  by_find None = quiet_begun program from readings (λ reads state. meaning_from program bindings (telling_of program.names program.layouts Changes) readings reads state tasks)
      (λ reads state. quiet_from program bindings program.names program.layouts readings reads state tasks)
  by_find (Some task) = tt

quiet_in : (what : Doing) (program : CheckedProgram) (from : Option (List ℕ)) (bindings : List Binding) (readings : Readings) → is_journal what ≡ true → AreQuiet (meaning_in what program from bindings readings).moves
quiet_in (performs Texts) program from bindings readings journal = absurd (cc)
quiet_in (performs Image) program from bindings readings journal = absurd (cc)
quiet_in (performs Advice) program from bindings readings journal = absurd (cc)
quiet_in (performs Changes) program from bindings readings journal = quiet_run program from bindings readings (unfolded_tasks program.commands)
quiet_in generates program from bindings readings journal = absurd (cc)
quiet_in looks program from bindings readings journal = absurd (cc)
quiet_in writes_code program from bindings readings journal = absurd (cc)
quiet_in audits program from bindings readings journal = absurd (cc)

quiet_compiled : (asked : Asked) (readings : Readings) (bytes : List ℕ) (answer : Result CheckedProgram Refusal) → is_journal (doing asked.mode) ≡ true → AreQuiet (meaning_of_compiled asked readings bytes answer).moves
quiet_compiled asked readings bytes (Err why) journal = tt
quiet_compiled asked readings bytes (Ok program) journal = quiet_in (doing asked.mode) program asked.from asked.bindings readings journal

quiet_source : (asked : Asked) (readings : Readings) (given : Reading) → is_journal (doing asked.mode) ≡ true → AreQuiet (meaning_of_source asked readings given).moves
quiet_source asked readings Missing journal = tt
quiet_source asked readings TooMany journal = tt
quiet_source asked readings (Bytes bytes) journal = quiet_compiled asked readings bytes (compiled_program bytes) journal

quiet_asked : (asked : Asked) (readings : Readings) → is_journal (doing asked.mode) ≡ true → AreQuiet (meaning_of_asked asked readings).moves
quiet_asked asked readings journal = by_mode (is_gen asked.mode) where
  by_mode : (b : Bool) → AreQuiet (if b then meaning_of_generated asked readings else meaning_of_file asked readings).moves
  by_mode true = quiet_compiled asked readings (generated_text asked.number) (compiled_program (generated_text asked.number)) journal
  by_mode false = quiet_source asked readings (readings 1 asked.file most_file_bytes) journal

pub quiet_words : (words : List (List ℕ)) (readings : Readings) → asks_journal (good_words words) ≡ true → AreQuiet (meaning_by words readings).moves
quiet_words words readings = by_words (good_words words) where
  by_words : (o : Option Asked) → asks_journal o ≡ true → AreQuiet (meaning_of_words o readings).moves
  by_words None journal = absurd (cc)
  by_words (Some asked) journal = quiet_asked asked readings journal

-- ---- what was written of the parts is sound

-- what is left of the moves begins with what was written of a text
record Continues (part : List ℕ) (left : List Move) : Type 0 where
  back : List ℕ
  is : text_in left ≡ part ++ back

continues : (m : Meaning) (done : List Move) (part : List ℕ) (status : ℕ) (front : IsFront m done part status) → IsCutShort status → Continues part front.left
continues m done part status front (inl three) =
    let next = front.failed three in
    record {
      back = next.missing ++ text_in next.rest;
      is = ap (λ (moves : List Move). text_in moves) next.next ∙ ap (λ (text : List ℕ). text ++ text_in next.rest) next.whole ∙ append_assoc part next.missing (text_in next.rest);
    }
continues m done part status front (inr nine) =
    record { back = text_in front.left; is = ap (λ (p : List ℕ). p ++ text_in front.left) (sym (front.other (λ three. absurd (omega (arith, nine, three))))) }

pub cut_sound : FrontsAreSound → (parts : Parts) (m : Meaning) → AreQuiet m.moves → AreSoundOver parts (reached_in m.moves) → (done : List Move) (part : List ℕ) (status : ℕ)
    → IsFront (with_journal parts m) done part status → IsCutShort status → CutIsSound (with_journal parts m) (text_in done ++ part)
cut_sound fronts parts m quiet sound done part status front cut shapes over =
    let own = with_journal parts m in
    let written = text_in done ++ part in
    let lines = lines_written parts m.moves quiet in
    let goes = continues own done part status front cut in
    let all : said own ++ own.line ≡ written ++ goes.back = sym (text_whole own) ∙ ap (λ (moves : List Move). text_in moves) front.whole ∙ text_append done front.left
    ∙ ap (λ (text : List ℕ). text_in done ++ text) goes.is ∙ sym (append_assoc (text_in done) part goes.back) in
    let cut_at = front_of (said own) own.line written goes.back all in
    let own_front = take (length (said own)) written in
    let text : lines_text (lines_in parts) ≡ own_front ++ (cut_at.back ++ lines_text lines.later) = ap (λ (ls : List Line). lines_text ls) lines.whole ∙ flat_map-append line_text lines.lines lines.later
    ∙ ap (λ (t : List ℕ). t ++ lines_text lines.later) (sym lines.is ∙ cut_at.whole) ∙ append_assoc own_front cut_at.back (lines_text lines.later) in
    let are = sound shapes (subst (AreOver shapes) (reached_with parts m.moves) over) in
    fronts (rooms_of shapes) (lines_in parts) are.0 own_front (cut_at.back ++ lines_text lines.later) are.1 text

-- ---- the clause

module _ (fronts : FrontsAreSound) (words : List (List ℕ)) (before after : Outside) (result : Result Done (Stop PutFailed)) (asks : asks_journal (good_words words) ≡ true)
    (kept : Kept true (meaning_by words) 0 before after result) (end : IfOk result IsEnd) where
  abbrev journaled : Readings → Meaning
  journaled readings = with_journal kept.parts (meaning_by words readings)

  wrote_with : (readings : Readings) → Agree readings 0 kept.went.made → IsEnding (status_of result) → Wrote (journaled readings) before after (status_of result)
      → JournalWrote kept.parts (meaning_by words readings) before after (status_of result) (session_of result)
  wrote_with readings agree ending wrote =
      let journal = by_result result ending (kept.journals refl readings agree) in
      record { wrote = wrote; journal = journal; text = all_written [] kept.parts (meaning_by words readings).moves (quiet_words words readings asks) journal.each }
    where
      by_result : (r : Result Done (Stop PutFailed)) → IsEnding (status_of r) → Journals kept.parts (meaning_by words readings) r → IsJournalOf (meaning_by words readings) kept.parts (session_of r)
      by_result (Ok done) e journal = journal
      by_result (Err (stop.Refused failed)) e journal = absurd (e.0 refl)
      by_result (Err stop.Memory) e journal = absurd (e.1 refl)

  sound_with : (readings : Readings) → Agree readings 0 kept.went.made → IsCutShort (status_of result) → WentSound kept.parts (meaning_by words readings) before after (status_of result)
  sound_with readings agree cut =
      let went = clauses.front_with journaled before after result kept.went end readings agree in
      record {
        went = went;
        sound = cut_sound fronts kept.parts (meaning_by words readings) (quiet_words words readings asks) (by_result result end cut (kept.journals refl readings agree)) went.done went.part (status_of result) went.front cut;
      }
    where
      by_result : (r : Result Done (Stop PutFailed)) → IfOk r IsEnd → IsCutShort (status_of r) → Journals kept.parts (meaning_by words readings) r → AreSoundOver kept.parts (reached_in (meaning_by words readings).moves)
      by_result (Ok done) e (inl three) journal = absurd (e.0 three)
      by_result (Ok done) e (inr nine) journal = absurd (e.1 nine)
      by_result (Err why) e c journal = journal

  pub keeps : KeepsJournal words before after (status_of result) (session_of result)
  keeps = record {
    parts = kept.parts;
    whole = λ is held told. let agree = clauses.agree_whole journaled before after result kept.went end is held told in
        wrote_with (readings_in held None) agree (is.1, is.2) (clauses.whole journaled before after result kept.went end is held told);
    stopped = λ two low held told. let agree = clauses.agree_two journaled before after result kept.went end two low held told in
        wrote_with (readings_in held (Some (after.reads - before.reads))) agree ((λ three. absurd (omega (arith, two, three))), (λ nine. absurd (omega (arith, two, nine))))
        (clauses.stopped journaled before after result kept.went end two low held told);
    front = λ cut held told. by_agree cut held (clauses.agree_front journaled before after result kept.went end held told);
    ended = λ ending. let own = readings_of 0 kept.went.made in
        (own, wrote_with own (agree_own 0 kept.went.made) ending (clauses.wrote_own journaled before after result kept.went end ending));
    cut = λ cut. let own = readings_of 0 kept.went.made in (own, sound_with own (agree_own 0 kept.went.made) cut);
  }
    where
      by_agree : IsCutShort (status_of result) → (held : Held) → Agree (readings_in held None) 0 kept.went.made
          ⊎ (Rose before.failed_reads after.failed_reads × (after.reads < last_count → Agree (readings_in held (Some (after.reads - before.reads))) 0 kept.went.made))
          → WentSound kept.parts (meaning words held None) before after (status_of result)
          ⊎ (Rose before.failed_reads after.failed_reads × (after.reads < last_count → WentSound kept.parts (meaning words held (Some (after.reads - before.reads))) before after (status_of result)))
      by_agree cut held (inl agree) = inl (sound_with (readings_in held None) agree cut)
      by_agree cut held (inr failed) = inr (failed.0, λ low. sound_with (readings_in held (Some (after.reads - before.reads))) (failed.1 low) cut)
