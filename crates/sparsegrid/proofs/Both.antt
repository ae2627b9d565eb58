-- From what a run did to the clauses that hold whether it writes a journal or not.
use Rattle.std.proofs.Common.{◌≡◌, ℕ, ◌≤◌, Bool, true, false, List, Option, Some, None, Result, IfOk, inl, refl, sym, ap, ◌∙◌, subst}
use Rattle.std.specs.Option.{IfSome}
use Rattle.sg_words.specs.declared.memory.Stop.{Stop}
use Rattle.sg_outside.specs.Files.{Held}
use Rattle.sg_session.specs.Performed.{SessionParts}
use Rattle.sg_audit.specs.WholeLines.{FrontsAreSound}
use Rattle.sparsegrid.specs.declared.output.PutFailed.{PutFailed}
use Rattle.sparsegrid.specs.declared.session.Done.{Done}
use Rattle.sparsegrid.specs.Words.{Asked, Doing, performs, generates, looks, writes_code, audits, doing, good_words}
use Rattle.sparsegrid.specs.Meaning.{meaning, meaning_by, is_code, is_journal, asks_code, asks_journal}
use Rattle.sparsegrid.specs.Outcome.{Output, Outside, LeavesSession, StaysWritten, ReadFaults, PutFaults, ReadCount, StandsForLast}
use Rattle.sparsegrid.specs.Journaling.{with_journal, KeepsJournal}
use Rattle.sparsegrid.specs.steps.Along.{KeepsWritten, SendCause, status_of, session_of, IsEnd, PutsCode}
use Rattle.sparsegrid.specs.steps.Leading.{Kept}
use Rattle.sparsegrid.proofs.Open.{written_more}
use Rattle.sparsegrid.proofs.Parted.{names_with}
use Rattle.sparsegrid.proofs.Kept.{went_of}
use Rattle.sparsegrid.proofs.Clauses as clauses
use Rattle.sparsegrid.proofs.Codes as codes
use Rattle.sparsegrid.proofs.Journaled.{keeps}

-- a journal is no access code
no_code : (what : Doing) → is_journal what ≡ true → is_code what ≡ false
no_code (performs what) journal = refl
no_code generates journal = absurd (cc)
no_code looks journal = absurd (cc)
no_code writes_code journal = absurd (cc)
no_code audits journal = absurd (cc)

pub no_code_asked : (o : Option Asked) → asks_journal o ≡ true → asks_code o ≡ false
no_code_asked None journal = refl
no_code_asked (Some asked) journal = no_code (doing asked.mode) journal

module _ (words : List (List ℕ)) (before mid : Outside) (result : Result Done (Stop PutFailed)) (kept : Kept (asks_journal (good_words words)) (meaning_by words) 0 before mid result) (is_end : IfOk result IsEnd)
    (lower : Bool) (asks : IfOk result (λ done. lower ≡ asks_code (good_words words))) (done end : Done) (status : done.status ≡ status_of result) (left : done.session ≡ session_of result)
    (output : Output) (failed : ℕ) (puts : PutsCode lower done end mid.output output mid.failed_puts failed)
    (untouched : asks_journal (good_words words) ≡ true → (end ≡ done) × (written_more mid output failed ≡ mid)) where
  abbrev after : Outside
  after = written_more mid output failed

  -- what holds with and without a journal
  by_flag : (P : Type 0) → (asks_journal (good_words words) ≡ true → P) → (asks_journal (good_words words) ≡ false → P) → P
  by_flag P journal plain = by_test (asks_journal (good_words words)) refl where
    by_test : (b : Bool) → asks_journal (good_words words) ≡ b → P
    by_test true is = journal is
    by_test false is = plain is

  -- a run that writes a journal, in these words
  journal_kept : asks_journal (good_words words) ≡ true → Kept true (meaning_by words) 0 before mid result
  journal_kept is = subst (λ (b : Bool). Kept b (meaning_by words) 0 before mid result) is kept

  end_status : asks_journal (good_words words) ≡ true → status_of result ≡ end.status
  end_status is = sym (ap (λ (d : Done). d.status) (untouched is).0 ∙ status)

  end_session : asks_journal (good_words words) ≡ true → session_of result ≡ end.session
  end_session is = sym (ap (λ (d : Done). d.session) (untouched is).0 ∙ left)

  -- what holds of how the run came this far holds of its end
  at_end : (P : Outside → ℕ → Type 0) → asks_journal (good_words words) ≡ true → P mid (status_of result) → P after end.status
  at_end P is so = subst (λ (o : Outside). P o end.status) (sym (untouched is).1) (subst (P mid) (end_status is) so)

  pub journal : FrontsAreSound → asks_journal (good_words words) ≡ true → KeepsJournal words before after end.status end.session
  journal fronts is =
      subst (λ (o : Option SessionParts). KeepsJournal words before after end.status o) (end_session is)
      (at_end (λ o n. KeepsJournal words before o n (session_of result)) is (keeps fronts words before mid result is (journal_kept is) is_end))

  pub quiet : (asks_code (good_words words) ≡ true → KeepsWritten result before.output mid.output) → asks_code (good_words words) ≡ true → end.status ≡ 9 → StaysWritten before.output output
  quiet keeps_written wanted nine = by_flag (StaysWritten before.output output) (λ is. absurd (both is))
      (λ plain. codes.quiet words before mid result (went_of (asks_journal (good_words words)) (meaning_by words) 0 before mid result plain kept) is_end lower asks done end status left output failed puts keeps_written wanted nine)
    where
      both : asks_journal (good_words words) ≡ true → ⊥
      both is = let no = no_code_asked (good_words words) is in absurd (cc)

  pub reads : ReadCount (good_words words) before after end.status
  reads = by_flag (ReadCount (good_words words) before after end.status)
      (λ is. let k = journal_kept is in at_end (λ o n. ReadCount (good_words words) before o n) is
      (clauses.reads (λ readings. with_journal k.parts (meaning_by words readings)) before mid result k.went is_end words (λ readings. names_with k.parts (meaning_by words readings).moves)))
      (λ plain. codes.reads words before mid result (went_of (asks_journal (good_words words)) (meaning_by words) 0 before mid result plain kept) is_end lower asks done end status left output failed puts)

  pub read_faults : before.failed_reads ≤ mid.failed_reads → ReadFaults before after end.status
  read_faults never = by_flag (ReadFaults before after end.status)
      (λ is. let k = journal_kept is in at_end (λ o n. ReadFaults before o n) is
      (clauses.read_faults (λ readings. with_journal k.parts (meaning_by words readings)) before mid result k.went is_end never))
      (λ plain. codes.read_faults words before mid result (went_of (asks_journal (good_words words)) (meaning_by words) 0 before mid result plain kept) is_end lower asks done end status left output failed puts never)

  pub put_faults : SendCause result before.failed_puts mid.failed_puts → PutFaults before after end.status
  put_faults cause = by_flag (PutFaults before after end.status)
      (λ is. let k = journal_kept is in at_end (λ o n. PutFaults before o n) is
      (clauses.put_faults (λ readings. with_journal k.parts (meaning_by words readings)) before mid result k.went is_end cause))
      (λ plain. codes.put_faults words before mid result (went_of (asks_journal (good_words words)) (meaning_by words) 0 before mid result plain kept) is_end lower asks done end status left output failed puts cause)

  pub left_at_end : (P : SessionParts → Type 0) → IfSome (session_of result) P → IfSome end.session P
  left_at_end P has = by_flag (IfSome end.session P)
      (λ is. subst (λ (o : Option SessionParts). IfSome o P) (end_session is) has)
      (λ plain. codes.left_at_end words before mid result (went_of (asks_journal (good_words words)) (meaning_by words) 0 before mid result plain kept) is_end lower asks done end status left output failed puts P has)

  pub session : LeavesSession words end.status end.session
  session = by_flag (LeavesSession words end.status end.session)
      (λ is. let k = journal_kept is in
      let so = clauses.session (λ readings. with_journal k.parts (meaning_by words readings)) before mid result k.went is_end in
      subst (λ (o : Option SessionParts). LeavesSession words end.status o) (end_session is)
      (subst (λ (n : ℕ). LeavesSession words n (session_of result)) (end_status is) (record { kept = so.1; only = λ some. inl (so.0 some) })))
      (λ plain. codes.session words before mid result (went_of (asks_journal (good_words words)) (meaning_by words) 0 before mid result plain kept) is_end lower asks done end status left output failed puts)

  pub last : IfSome end.session (λ it. (held : Held) → before.held ≡ Some held → StandsForLast (meaning words held None).last it)
  last = by_flag (IfSome end.session (λ it. (held : Held) → before.held ≡ Some held → StandsForLast (meaning words held None).last it))
      (λ is. let k = journal_kept is in
      subst (λ (o : Option SessionParts). IfSome o (λ it. (held : Held) → before.held ≡ Some held → StandsForLast (meaning words held None).last it)) (end_session is)
      (clauses.last (λ readings. with_journal k.parts (meaning_by words readings)) before mid result k.went is_end))
      (λ plain. codes.last words before mid result (went_of (asks_journal (good_words words)) (meaning_by words) 0 before mid result plain kept) is_end lower asks done end status left output failed puts)
