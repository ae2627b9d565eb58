-- The read of a journal, and what it gave.
use Rattle.std.proofs.Common.{◌≡◌, ◌≢◌, ℕ, suc, List, [], ◌∷◌, Option, Some, None, Result, Ok, Err, IfOk, refl, sym, ap, ◌∙◌, subst, arith}
use Rattle.sg_words.specs.declared.memory.Stop.{Stop}
use Rattle.sg_words.specs.declared.memory.Stop.TheVariants as stop
use Rattle.sg_outside.specs.Counts.{Rose, one_more}
use Rattle.sg_outside.specs.Files.{Held, Reading, Bytes, TooMany, Missing, reading, asked_too}
use Rattle.sg_layout.specs.declared.shape.Shape.{Shape}
use Rattle.sg_flat.specs.State.{opening}
use Rattle.sg_exec.specs.Standing.{StandForState}
use Rattle.sg_session.specs.Compiled.{CheckedProgram, CompiledProgram, Compiles}
use Rattle.sg_audit.specs.Auditing.{audited}
use Rattle.sparsegrid.specs.declared.output.PutFailed.{PutFailed}
use Rattle.sparsegrid.specs.declared.session.Done.{Done}
use Rattle.sparsegrid.specs.Moves.{ReadsFile}
use Rattle.sparsegrid.specs.Verdicts.{most_journal_bytes, verdict_text}
use Rattle.sparsegrid.specs.Lines.{read_last, journal_bytes_last}
use Rattle.sparsegrid.specs.Meaning.{Meaning, Readings, asking_for, refused_before_tasks, all_done, after_journal, meaning_of_audit}
use Rattle.sparsegrid.specs.Outcome.{Outside, StaysWritten}
use Rattle.sparsegrid.specs.steps.Along.{Sends, Went, LeavesOnly, LeavesProgram, line_text}
use Rattle.sparsegrid.proofs.Writing.{made_read}
use Rattle.sparsegrid.proofs.Going.{stays_same, went_memory, went_failed, compose}
use Rattle.sparsegrid.proofs.Sources.{went_refused, went_opened, gone_refused, journal_ends}

-- what these files hold, if they are told
abbrev told_at : Option Held → List ℕ → ℕ → Reading
told_at None name limit = Missing
told_at (Some held) name limit = reading held name limit

told_is : (o : Option Held) (name : List ℕ) (limit : ℕ) (held : Held) → o ≡ Some held → reading held name limit ≡ told_at o name limit
told_is None name limit held is = absurd (cc)
told_is (Some other) name limit held is = ap (λ (f : Held). reading f name limit) (sym (same other held is)) where
  same : (a b : Held) → Some a ≡ Some b → a ≡ b
  same a b s = cc

module _ (program : CheckedProgram) (name : List ℕ) where
  -- the read gave this, and what it means was done
  pub journal_gave : (other : List ℕ) (given : Reading) (before mid after : Outside) (result : Result Done (Stop PutFailed)) → other ≡ name
      → ((held : Held) → before.held ≡ Some held → reading held other most_journal_bytes ≡ given)
      → mid.asked ≡ asked_too before.asked other → mid.reads ≡ one_more before.reads → mid.failed_reads ≡ before.failed_reads → mid.held ≡ before.held → StaysWritten before.output mid.output
      → Went (λ readings. after_journal program name given) 2 mid after result
      → Went (λ readings. meaning_of_audit program readings name) 1 before after result
  journal_gave other given before mid after result same told names reads faults held stays went =
      compose (λ readings. meaning_of_audit program readings name) (λ readings. after_journal program name given) 1 2
      (record { name = name; limit = most_journal_bytes; given = given } ∷ []) (ReadsFile name ∷ []) before mid after result (omega arith)
      (λ readings agree. ap (λ (r : Reading). asking_for name (after_journal program name r)) agree.0)
      refl (made_read name before mid stays (names ∙ ap (asked_too before.asked) same) reads) held
      (record { no_fault = faults; told = λ h e. (sym (ap (λ (n : List ℕ). reading h n most_journal_bytes) (sym same) ∙ told h e), tt) }) went

  -- the read failed
  pub journal_failed : (other : List ℕ) (before after : Outside) (result : Result Done (Stop PutFailed)) → other ≡ name
      → after.asked ≡ asked_too before.asked other → after.reads ≡ one_more before.reads → Rose before.failed_reads after.failed_reads
      → Sends result before.output after.output (line_text (read_last other)) → IfOk result (λ done. done.status ≡ 2) → IfOk result (λ done. done.session ≡ None)
      → Went (λ readings. meaning_of_audit program readings name) 1 before after result
  journal_failed other before after result same names reads rose sent status none =
      went_failed (λ readings. meaning_of_audit program readings name) (refused_before_tasks (read_last name)) 1 name most_journal_bytes before after result
      (λ readings missing. ap (λ (r : Reading). asking_for name (after_journal program name r)) missing)
      (gone_refused (read_last name) before.output after.output result (subst (λ (n : List ℕ). Sends result before.output after.output (line_text (read_last n))) same sent) status none)
      (names ∙ ap (asked_too before.asked) same) reads rose status

  -- there was no memory for what was read
  pub journal_memory : (other : List ℕ) (before after : Outside) → other ≡ name
      → after.asked ≡ asked_too before.asked other → after.reads ≡ one_more before.reads → after.failed_reads ≡ before.failed_reads → after.held ≡ before.held → StaysWritten before.output after.output
      → Went (λ readings. meaning_of_audit program readings name) 1 before after (Err stop.Memory)
  journal_memory other before after same names reads faults held stays =
      let given = told_at before.held other most_journal_bytes in
      journal_gave other given before after after (Err stop.Memory) same (λ h e. told_is before.held other most_journal_bytes h e) names reads faults held stays
      (went_memory (λ readings. after_journal program name given) 2 after after (λ readings. journal_ends program name given) (stays_same after.output) refl refl refl)

  -- the journal has too many bytes, and its line was written
  pub journal_long : (before after : Outside) (result : Result Done (Stop PutFailed)) → Sends result before.output after.output (line_text journal_bytes_last)
      → IfOk result (λ done. done.status ≡ 8) → IfOk result (λ done. done.session ≡ None)
      → after.asked ≡ before.asked → after.reads ≡ before.reads → after.failed_reads ≡ before.failed_reads → Went (λ readings. after_journal program name TooMany) 2 before after result
  journal_long before after result sent status none asked reads faults =
      went_refused journal_bytes_last 2 before after result sent status none (λ two. absurd (omega arith)) asked reads faults

  -- the verdict was written
  pub verdict_went : (compiled : CompiledProgram) (bytes : List ℕ) (before after : Outside) (result : Result Done (Stop PutFailed)) → Compiles program compiled
      → Sends result before.output after.output (verdict_text (audited compiled.layouts bytes)) → LeavesProgram compiled result
      → LeavesOnly (λ session. StandForState compiled.layouts session.stores (opening compiled.layouts)) result → IfOk result (λ done. done.status ≡ 0)
      → after.asked ≡ before.asked → after.reads ≡ before.reads → after.failed_reads ≡ before.failed_reads → Went (λ readings. after_journal program name (Bytes bytes)) 2 before after result
  verdict_went compiled bytes before after result compiles sent same stand status asked reads faults =
      went_opened program compiled (verdict_text (audited compiled.layouts bytes)) (verdict_text (audited program.layouts bytes)) 2 before after result compiles
      (ap (λ (shapes : List Shape). verdict_text (audited shapes bytes)) compiles.layouts) sent same stand status asked reads faults
