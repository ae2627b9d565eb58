-- Parts of a run that may write a journal.
use Rattle.std.proofs.Common.{◌≡◌, ◌≢◌, ℕ, suc, ◌+◌, Bool, true, false, List, [], ◌∷◌, Option, Some, None, Result, Ok, Err, IfOk, refl, sym, ap, ◌∙◌, subst}
use Rattle.std.specs.Option.{IfSome}
use Rattle.std.proofs.lemmas.List.Elements.{All-nil}
use Rattle.sg_words.specs.declared.memory.Stop.{Stop}
use Rattle.sg_words.specs.declared.memory.Stop.TheVariants as stop
use Rattle.sg_outside.specs.Counts.{Rose, one_more}
use Rattle.sg_outside.specs.Files.{Missing, asked_too}
use Rattle.sg_layout.specs.declared.shape.Shape.{Shape}
use Rattle.sg_flat.specs.declared.state.FlatState.{FlatState}
use Rattle.sg_journal.specs.Lines.{IsInRange, end_line}
use Rattle.sg_audit.specs.declared.verdict.Verdict.TheVariants.{Yes}
use Rattle.sg_audit.specs.Auditing.{audited}
use Rattle.sg_audit.specs.Reading.{rest_after, take_at, free_at, numbered_at, number_at, numeral_at}
use Rattle.sg_session.specs.Performed.{SessionParts}
use Rattle.sparsegrid.specs.declared.output.PutFailed.{PutFailed}
use Rattle.sparsegrid.specs.declared.session.Done.{Done}
use Rattle.sparsegrid.specs.declared.last_line.LastLine.{LastLine}
use Rattle.sparsegrid.specs.Moves.{ReadsFile, Reached, reached_in}
use Rattle.sparsegrid.specs.Parts.{Parts, HoldsStores}
use Rattle.sparsegrid.specs.Meaning.{Meaning, Readings, after_moves, asking_for, refused_with, refused_before_tasks}
use Rattle.sparsegrid.specs.Outcome.{Outside, StaysWritten, Made}
use Rattle.sparsegrid.specs.steps.Along.{Sends, ReadMade, Agree, NoneFailed, Went, ended_with, line_text}
use Rattle.sparsegrid.specs.steps.Leading.{in_journal, AreSoundOver, Journals, Kept, HoldsNothing}
use Rattle.sparsegrid.proofs.Readings.{agree_twice}
use Rattle.sparsegrid.proofs.Going.{EndsInLine, Gone, went_memory, went_failed, compose}
use Rattle.sparsegrid.proofs.Sources.{went_same, went_kept, went_refused}

-- ---- where no journal is written

pub kept_of : (b : Bool) (m : Readings → Meaning) (n : ℕ) (before after : Outside) (result : Result Done (Stop PutFailed)) → b ≡ false → Went m n before after result → Kept b m n before after result
kept_of true m n before after result plain went = absurd (cc)
kept_of false m n before after result plain went = record { parts = []; went = went; journals = λ journal. absurd (cc) }

pub went_of : (b : Bool) (m : Readings → Meaning) (n : ℕ) (before after : Outside) (result : Result Done (Stop PutFailed)) → b ≡ false → Kept b m n before after result → Went m n before after result
went_of true m n before after result plain kept = absurd (cc)
went_of false m n before after result plain kept = kept.went

-- ---- what keeps a journal

-- a journal without parts is sound over any layouts
pub nothing_audited : (shapes : List Shape) → audited shapes end_line ≡ Yes
unfolding rest_after take_at free_at numbered_at number_at numeral_at
nothing_audited shapes = refl

nothing_over : (reached : List Reached) → AreSoundOver [] reached
nothing_over reached shapes over = ([], record { in_range = All-nil IsInRange; sound = refl })

in_ends : (b : Bool) (parts : Parts) (m : Meaning) → EndsInLine m → EndsInLine (in_journal b parts m)
in_ends false parts m ends = ends
in_ends true parts m ends = ends

in_asking : (b : Bool) (parts : Parts) (name : List ℕ) (m : Meaning) → in_journal b parts (asking_for name m) ≡ after_moves (ReadsFile name ∷ []) (in_journal b parts m)
in_asking false parts name m = refl
in_asking true parts name m = refl

in_refused : (b : Bool) (state : Option FlatState) (last : LastLine) → in_journal b [] (refused_with state last) ≡ refused_with state last
in_refused false state last = refl
in_refused true state last = refl

journals_asking : (parts : Parts) (name : List ℕ) (m : Meaning) (result : Result Done (Stop PutFailed)) → Journals parts m result → Journals parts (asking_for name m) result
journals_asking parts name m (Ok done) j = record { each = j.each; audit = j.audit; holds = j.holds }
journals_asking parts name m (Err why) j = j

journals_refused : (state : Option FlatState) (last : LastLine) (result : Result Done (Stop PutFailed)) → HoldsNothing result → Journals [] (refused_with state last) result
journals_refused state last (Ok done) holds = record { each = tt; audit = λ shapes over. nothing_audited shapes; holds = holds }
journals_refused state last (Err why) holds = nothing_over []

pub holds_none : (result : Result Done (Stop PutFailed)) → IfOk result (λ done. done.session ≡ None) → HoldsNothing result
holds_none (Err why) none = tt
holds_none (Ok done) none = by_session done.session none where
  by_session : (o : Option SessionParts) → o ≡ None → IfSome o (λ left. HoldsStores left.compiled.layouts [] left.stores)
  by_session None e = tt
  by_session (Some left) e = absurd (cc)

-- ---- parts of a run

-- the same meaning in other words
pub kept_same : (b : Bool) (m other : Readings → Meaning) (n : ℕ) (before after : Outside) (result : Result Done (Stop PutFailed)) → ((readings : Readings) → m readings ≡ other readings)
    → Kept b other n before after result → Kept b m n before after result
unfolding went_same
kept_same b m other n before after result same kept = record {
  parts = kept.parts;
  went = went_same (λ readings. in_journal b kept.parts (m readings)) (λ readings. in_journal b kept.parts (other readings)) n before after result
      (λ readings. ap (in_journal b kept.parts) (same readings)) kept.went;
  journals = λ journal readings agree. subst (λ (whole : Meaning). Journals kept.parts whole result) (sym (same readings)) (kept.journals journal readings agree);
}

-- memory ran out before anything was done
pub kept_memory : (b : Bool) (m : Readings → Meaning) (n : ℕ) (before after : Outside) → ((readings : Readings) → EndsInLine (m readings))
    → StaysWritten before.output after.output → after.asked ≡ before.asked → after.reads ≡ before.reads → after.failed_reads ≡ before.failed_reads → Kept b m n before after (Err stop.Memory)
kept_memory b m n before after ends stays asked reads faults = record {
  parts = [];
  went = went_memory (λ readings. in_journal b [] (m readings)) n before after (λ readings. in_ends b [] (m readings) (ends readings)) stays asked reads faults;
  journals = λ journal readings agree. nothing_over (reached_in (m readings).moves);
}

-- a refusal
pub kept_line : (b : Bool) (state : Option FlatState) (last : LastLine) (n : ℕ) (before after : Outside) (result : Result Done (Stop PutFailed)) → HoldsNothing result
    → Went (λ readings. refused_with state last) n before after result → Kept b (λ readings. refused_with state last) n before after result
kept_line b state last n before after result holds went = record {
  parts = [];
  went = went_same (λ readings. in_journal b [] (refused_with state last)) (λ readings. refused_with state last) n before after result (λ readings. in_refused b state last) went;
  journals = λ journal readings agree. journals_refused state last result holds;
}

pub kept_refused : (b : Bool) (last : LastLine) (n : ℕ) (before after : Outside) (result : Result Done (Stop PutFailed)) → Sends result before.output after.output (line_text last)
    → IfOk result (λ done. done.status ≡ last.status) → IfOk result (λ done. done.session ≡ None) → last.status ≢ 2
    → after.asked ≡ before.asked → after.reads ≡ before.reads → after.failed_reads ≡ before.failed_reads → Kept b (λ readings. refused_before_tasks last) n before after result
kept_refused b last n before after result sent status none other asked reads faults =
    kept_line b None last n before after result (holds_none result none) (went_refused last n before after result sent status none other asked reads faults)

-- the first read failed, and its line was written
pub kept_failed : (b : Bool) (m : Readings → Meaning) (state : Option FlatState) (last : LastLine) (n : ℕ) (name : List ℕ) (limit : ℕ) (before after : Outside) (result : Result Done (Stop PutFailed))
    → ((readings : Readings) → readings (suc n) name limit ≡ Missing → m readings ≡ asking_for name (refused_with state last)) → Gone (refused_with state last) before.output after.output result → HoldsNothing result
    → after.asked ≡ asked_too before.asked name → after.reads ≡ one_more before.reads → Rose before.failed_reads after.failed_reads → IfOk result (λ done. done.status ≡ 2)
    → Kept b m n before after result
unfolding went_failed
kept_failed b m state last n name limit before after result is gone holds asked reads rose status = record {
  parts = [];
  went = went_failed (λ readings. in_journal b [] (m readings)) (refused_with state last) n name limit before after result
      (λ readings missing. ap (in_journal b []) (is readings missing) ∙ in_asking b [] name (refused_with state last) ∙ ap (after_moves (ReadsFile name ∷ [])) (in_refused b state last))
      gone asked reads rose status;
  journals = λ journal readings agree. subst (λ (whole : Meaning). Journals [] whole result) (sym (is readings agree.0)) (journals_asking [] name (refused_with state last) result (journals_refused state last result holds));
}

-- a read, and what comes behind it
pub kept_asking : (b : Bool) (m rest : Readings → Meaning) (n k : ℕ) (read : ReadMade) (before mid after : Outside) (result : Result Done (Stop PutFailed)) → k ≡ 1 + n
    → ((readings : Readings) → Agree readings n (read ∷ []) → m readings ≡ asking_for read.name (rest readings))
    → Made (ReadsFile read.name ∷ []) [] before mid → mid.held ≡ before.held → NoneFailed before mid (read ∷ []) → Kept b rest k mid after result → Kept b m n before after result
unfolding compose
kept_asking b m rest n k read before mid after result at is grew held none kept = record {
  parts = kept.parts;
  went = compose (λ readings. in_journal b kept.parts (m readings)) (λ readings. in_journal b kept.parts (rest readings)) n k (read ∷ []) (ReadsFile read.name ∷ []) before mid after result at
      (λ readings agree. ap (in_journal b kept.parts) (is readings agree) ∙ in_asking b kept.parts read.name (rest readings)) refl grew held none kept.went;
  journals = λ journal readings agree. let two = agree_twice readings n k (read ∷ []) kept.went.made at agree in
      subst (λ (whole : Meaning). Journals kept.parts whole result) (sym (is readings two.0)) (journals_asking kept.parts read.name (rest readings) result (kept.journals journal readings two.1));
}

-- the session that tasks left is kept, or let go
pub kept_session : (b : Bool) (m : Readings → Meaning) (n : ℕ) (before after : Outside) (session : SessionParts) (status : ℕ) (done : Done)
    → done.status ≡ status → IfSome done.session (λ kept. kept ≡ session) → Kept b m n before after (ended_with session (Ok status)) → Kept b m n before after (Ok done)
unfolding went_kept
kept_session b m n before after session status done same left kept =
    record {
      parts = kept.parts;
      went = went_kept (λ readings. in_journal b kept.parts (m readings)) n before after session status done same left kept.went;
      journals = λ journal readings agree. let j = kept.journals journal readings agree in record { each = j.each; audit = j.audit; holds = by_session done.session left j.holds };
    }
  where
    by_session : (o : Option SessionParts) → IfSome o (λ kept. kept ≡ session) → HoldsStores session.compiled.layouts kept.parts session.stores
        → IfSome o (λ left. HoldsStores left.compiled.layouts kept.parts left.stores)
    by_session None is holds = tt
    by_session (Some other) is holds = subst (λ (s : SessionParts). HoldsStores s.compiled.layouts kept.parts s.stores) (sym is) holds
