-- From what a run did before the text of access code, and what putting that text did, to the clauses that say it.
use Rattle.std.proofs.Common.{◌≡◌, ℕ, ◌-◌, ◌<◌, ◌≤◌, ◌==◌, ◌⊎◌, inl, inr, Bool, true, false, ◌&&◌, List, [], Option, Some, None, Result, Ok, Err, IfOk, refl, sym, ap, ◌∙◌, subst, arith}
use Rattle.std.specs.Prelude.{IsSome, ◌↔◌, if◌then◌else◌}
use Rattle.std.specs.Option.{IfSome}
use Rattle.sg_words.specs.declared.memory.Stop.{Stop}
use Rattle.sg_words.specs.declared.memory.Stop.TheVariants as stop
use Rattle.sg_outside.specs.Counts.{Rose, last_count}
use Rattle.sg_outside.specs.Files.{Held}
use Rattle.sg_session.specs.Performed.{SessionParts}
use Rattle.sparsegrid.specs.declared.output.PutFailed.{PutFailed}
use Rattle.sparsegrid.specs.declared.session.Done.{Done}
use Rattle.sparsegrid.specs.Words.{Asked, good_words, is_gen}
use Rattle.sparsegrid.specs.Meaning.{Meaning, Readings, meaning, meaning_by, readings_in, asks_code, with_open}
use Rattle.sparsegrid.specs.Outcome.{Output, Outside, HasWholeText, IsCutShort, IsEnding, HasSession, LeavesSession, code_in, open_text, StaysWritten, Wrote, WroteMeaning, WroteStopped, WentAFront, WroteFront, EndsAs, AsksAs, ReadFaults, PutFaults, CountOf, ReadCount, StandsForLast}
use Rattle.sparsegrid.specs.steps.Along.{PutsText, PutsPart, KeepsWritten, SendCause, status_of, session_of, Went, IsEnd, IsDue, code_left, PutsCode}
use Rattle.sparsegrid.proofs.Writing.{puts_none, stays_twice}
use Rattle.sparsegrid.proofs.Lowered.{words_silent}
use Rattle.sparsegrid.proofs.Clauses as clauses
use Rattle.sparsegrid.proofs.Open.{written_more, wrote_more, front_none, front_lost, front_out, front_whole, silent_stays}

module _ (words : List (List ℕ)) (before mid : Outside) (result : Result Done (Stop PutFailed)) (went : Went (meaning_by words) 0 before mid result) (is_end : IfOk result IsEnd)
    (lower : Bool) (asks : IfOk result (λ done. lower ≡ asks_code (good_words words))) (done end : Done) (status : done.status ≡ status_of result) (kept : done.session ≡ session_of result)
    (output : Output) (failed : ℕ) (puts : PutsCode lower done end mid.output output mid.failed_puts failed) where
  abbrev after : Outside
  after = written_more mid output failed

  -- ---- by how the run came this far

  -- a run that came to its end asked for code where the words do
  same_end : IsEnding done.status → lower ≡ asks_code (good_words words)
  same_end ending = by_result result asks status where
    by_result : (r : Result Done (Stop PutFailed)) → IfOk r (λ it. lower ≡ asks_code (good_words words)) → done.status ≡ status_of r → lower ≡ asks_code (good_words words)
    by_result (Ok it) same s = same
    by_result (Err (stop.Refused why)) same s = absurd (ending.0 s)
    by_result (Err stop.Memory) same s = absurd (ending.1 s)

  -- one that was cut short left no session
  no_session : IsCutShort done.status → done.session ≡ None
  no_session cut = by_result result is_end status kept where
    by_result : (r : Result Done (Stop PutFailed)) → IfOk r IsEnd → done.status ≡ status_of r → done.session ≡ session_of r → done.session ≡ None
    by_result (Ok it) e s k = by_case cut where
      by_case : IsCutShort done.status → done.session ≡ None
      by_case (inl three) = absurd (e.0 (sym s ∙ three))
      by_case (inr nine) = absurd (e.1 (sym s ∙ nine))
    by_result (Err why) e s k = k

  none_due : done.session ≡ None → code_left lower done ≡ []
  none_due none = by_test (lower && (done.status == 0)) where
    by_test : (b : Bool) → (if b then code_in done.session else []) ≡ []
    by_test true = ap code_in none
    by_test false = refl

  due_whole : IsDue lower done → HasWholeText (status_of result)
  due_whole due =
      let zero : status_of result ≡ 0 = sym status ∙ due.all_done in
      ((λ two. absurd (omega (arith, zero, two))), (λ three. absurd (omega (arith, zero, three))), (λ nine. absurd (omega (arith, zero, nine))))

  due_ending : IsDue lower done → IsEnding done.status
  due_ending due = ((λ three. absurd (omega (arith, due.all_done, three))), (λ nine. absurd (omega (arith, due.all_done, nine))))

  due_asks : IsDue lower done → asks_code (good_words words) ≡ true
  due_asks due = sym (same_end (due_ending due)) ∙ due.asked

  due_wrote : IsDue lower done → (held : Held) → before.held ≡ Some held → Wrote (meaning words held None) before mid 0
  due_wrote due held told = subst (λ (n : ℕ). Wrote (meaning words held None) before mid n) (sym status ∙ due.all_done) (clauses.whole (meaning_by words) before mid result went is_end (due_whole due) held told)

  silent : (readings : Readings) → asks_code (good_words words) ≡ true → (meaning_by words readings).status ≡ 0 → (meaning_by words readings).line ≡ []
  silent readings wanted zero = (words_silent words readings wanted zero).no_line

  due_code : IsDue lower done → code_left lower done ≡ code_in done.session
  due_code due = subst (λ (b : Bool). (if b && (done.status == 0) then code_in done.session else []) ≡ code_in done.session) (sym due.asked)
      (subst (λ (n : ℕ). (if n == 0 then code_in done.session else []) ≡ code_in done.session) (sym due.all_done) refl)

  -- where no session is left nothing more was put
  none_put : done.session ≡ None → PutsText mid.output output (code_left lower done) → StaysWritten mid.output output
  none_put none put = puts_none mid.output output (subst (λ (text : List ℕ). PutsText mid.output output text) (none_due none) put)

  -- ---- the clauses

  -- by how the run ended: as it was left, or cut short in the put of the code
  abbrev Puts : Type 0
  Puts = PutsCode lower done end mid.output output mid.failed_puts failed

  pub whole : HasWholeText end.status → WroteMeaning words (open_text words end.session) None before after end.status
  whole is held told = by_puts puts where
    by_puts : Puts → Wrote (with_open words (open_text words end.session) (meaning words held None)) before after end.status
    by_puts (inl so) = subst (λ (d : Done). Wrote (with_open words (open_text words d.session) (meaning words held None)) before after d.status) (sym so.0)
        (let ok : HasWholeText done.status = subst (λ (d : Done). HasWholeText d.status) so.0 is in
        wrote_more lower words done (meaning words held None) (silent (readings_in held None)) before mid output failed (same_end (ok.1, ok.2)) so.1
        (subst (λ (n : ℕ). Wrote (meaning words held None) before mid n) (sym status) (clauses.whole (meaning_by words) before mid result went is_end (subst HasWholeText status ok) held told)))
    by_puts (inr (inl lost)) = absurd (is.1 (ap (λ (d : Done). d.status) lost.1))
    by_puts (inr (inr out)) = absurd (is.2 (ap (λ (d : Done). d.status) out.1))

  pub stopped : end.status ≡ 2 → WroteStopped words (open_text words end.session) before after end.status
  stopped two low held told = by_puts puts where
    m : Meaning
    m = meaning words held (Some (mid.reads - before.reads))

    by_puts : Puts → Wrote (with_open words (open_text words end.session) m) before after end.status
    by_puts (inl so) = subst (λ (d : Done). Wrote (with_open words (open_text words d.session) m) before after d.status) (sym so.0)
        (let is_two : done.status ≡ 2 = sym (ap (λ (d : Done). d.status) so.0) ∙ two in
        wrote_more lower words done m (silent (readings_in held (Some (mid.reads - before.reads)))) before mid output failed
        (same_end ((λ three. absurd (omega (arith, is_two, three))), (λ nine. absurd (omega (arith, is_two, nine))))) so.1
        (subst (λ (n : ℕ). Wrote m before mid n) (sym status) (clauses.stopped (meaning_by words) before mid result went is_end (sym status ∙ is_two) low held told)))
    by_puts (inr (inl lost)) = let is_three : end.status ≡ 3 = ap (λ (d : Done). d.status) lost.1 in absurd (omega (arith, is_three, two))
    by_puts (inr (inr out)) = let is_nine : end.status ≡ 9 = ap (λ (d : Done). d.status) out.1 in absurd (omega (arith, is_nine, two))

  -- a front of what a run means with this text
  abbrev Fronts : Held → List ℕ → ℕ → Type 0
  Fronts held opened answer = WentAFront (with_open words opened (meaning words held None)) before after answer
      ⊎ (Rose before.failed_reads mid.failed_reads × (mid.reads < last_count → WentAFront (with_open words opened (meaning words held (Some (mid.reads - before.reads)))) before after answer))

  pub front : IsCutShort end.status → WroteFront words (open_text words end.session) before after end.status
  front cut held told = by_puts puts where
    by_front : (answer : ℕ) → StaysWritten mid.output output → WentAFront (meaning words held None) before mid answer
        ⊎ (Rose before.failed_reads mid.failed_reads × (mid.reads < last_count → WentAFront (meaning words held (Some (mid.reads - before.reads))) before mid answer)) → Fronts held (open_text words None) answer
    by_front answer still (inl well) = inl (front_none words before mid output failed (meaning words held None) answer still well)
    by_front answer still (inr bad) = inr (bad.0, λ low. front_none words before mid output failed (meaning words held (Some (mid.reads - before.reads))) answer still (bad.1 low))

    by_puts : Puts → Fronts held (open_text words end.session) end.status
    by_puts (inl so) = subst (λ (d : Done). Fronts held (open_text words d.session) d.status) (sym so.0)
        (let none = no_session (subst (λ (d : Done). IsCutShort d.status) so.0 cut) in
        subst (λ (o : Option SessionParts). Fronts held (open_text words o) done.status) (sym none)
        (by_front done.status (none_put none so.1)
        (subst (λ (n : ℕ). WentAFront (meaning words held None) before mid n
        ⊎ (Rose before.failed_reads mid.failed_reads × (mid.reads < last_count → WentAFront (meaning words held (Some (mid.reads - before.reads))) before mid n))) (sym status)
        (clauses.front (meaning_by words) before mid result went is_end held told))))
    by_puts (inr (inl lost)) = subst (λ (d : Done). Fronts held (open_text words d.session) d.status) (sym lost.1)
        (inl (front_lost lower words done (meaning words held None) (silent (readings_in held None)) before mid output failed (due_asks lost.0)
        (subst (λ (text : List ℕ). PutsPart mid.output output text) (due_code lost.0) lost.2) (due_wrote lost.0 held told)))
    by_puts (inr (inr out)) = subst (λ (d : Done). Fronts held (open_text words d.session) d.status) (sym out.1)
        (inl (front_out words before mid output failed (meaning words held None) (silent (readings_in held None) (due_asks out.0) (sym (due_wrote out.0 held told).status)) out.2 (due_wrote out.0 held told)))

  -- what a run that is done but for its code means where its reads give some readings
  due_ended : IsDue lower done → (readings : Readings) × Wrote (meaning_by words readings) before mid 0
  due_ended due =
      let found = clauses.ended (meaning_by words) before mid result went is_end (subst IsEnding status (due_ending due)) in
      (found.0, subst (λ (n : ℕ). Wrote (meaning_by words found.0) before mid n) (sym status ∙ due.all_done) found.1)

  -- in mode lower nothing was written where memory ran out
  pub quiet : (asks_code (good_words words) ≡ true → KeepsWritten result before.output mid.output) → asks_code (good_words words) ≡ true → end.status ≡ 9 → StaysWritten before.output output
  quiet keeps wanted nine = by_puts puts where
    by_result : (r : Result Done (Stop PutFailed)) → IfOk r IsEnd → KeepsWritten r before.output mid.output → status_of r ≡ 9 → StaysWritten before.output mid.output
    by_result (Ok it) e k is = absurd (e.1 is)
    by_result (Err (stop.Refused why)) e k is = absurd (omega (arith, is))
    by_result (Err stop.Memory) e k is = k

    by_puts : Puts → StaysWritten before.output output
    by_puts (inl so) =
        let is : done.status ≡ 9 = sym (ap (λ (d : Done). d.status) so.0) ∙ nine in
        stays_twice before.output mid.output output (by_result result is_end (keeps wanted) (sym status ∙ is)) (none_put (no_session (inr is)) so.1)
    by_puts (inr (inl lost)) = let is_three : end.status ≡ 3 = ap (λ (d : Done). d.status) lost.1 in absurd (omega (arith, is_three, nine))
    by_puts (inr (inr out)) =
        let found = due_ended out.0 in
        stays_twice before.output mid.output output (silent_stays (meaning_by words found.0) before.output mid.output (words_silent words found.0 wanted (sym found.1.status)) found.1.made.output) out.2

  pub ended : IsEnding end.status → EndsAs words (open_text words end.session) before after end.status
  ended ending = by_puts puts where
    by_puts : Puts → EndsAs words (open_text words end.session) before after end.status
    by_puts (inl so) = subst (λ (d : Done). EndsAs words (open_text words d.session) before after d.status) (sym so.0)
        (let ok : IsEnding done.status = subst (λ (d : Done). IsEnding d.status) so.0 ending in
        let found = clauses.ended (meaning_by words) before mid result went is_end (subst IsEnding status ok) in
        (found.0, wrote_more lower words done (meaning_by words found.0) (silent found.0) before mid output failed (same_end ok) so.1 (subst (λ (n : ℕ). Wrote (meaning_by words found.0) before mid n) (sym status) found.1)))
    by_puts (inr (inl lost)) = absurd (ending.0 (ap (λ (d : Done). d.status) lost.1))
    by_puts (inr (inr out)) = absurd (ending.1 (ap (λ (d : Done). d.status) out.1))

  pub asked : AsksAs words (open_text words end.session) before after end.status
  asked = by_puts puts where
    by_result : (r : Result Done (Stop PutFailed)) → IfOk r IsEnd → end.status ≡ status_of r → end.session ≡ session_of r
        → StaysWritten mid.output output ⊎ IsEnding (status_of r) → (readings : Readings) × WentAFront (meaning_by words readings) before mid (status_of r)
        → AsksAs words (open_text words end.session) before after end.status
    by_result (Ok it) e s k so found = let whole_one = ended (subst IsEnding (sym s) (e.0, e.1)) in (whole_one.0, front_whole _ before after end.status (subst IsEnding (sym s) (e.0, e.1)) whole_one.1)
    by_result (Err why) e s k (inl stays) found = (
      found.0,
      subst (λ (o : Option SessionParts). WentAFront (with_open words (open_text words o) (meaning_by words found.0)) before after end.status) (sym k)
          (subst (λ (n : ℕ). WentAFront (with_open words (open_text words None) (meaning_by words found.0)) before after n) (sym s) (front_none words before mid output failed (meaning_by words found.0) _ stays found.1)),
    )
    by_result (Err (stop.Refused why)) e s k (inr ending) found = absurd (ending.0 refl)
    by_result (Err stop.Memory) e s k (inr ending) found = absurd (ending.1 refl)

    still : (end ≡ done) → PutsText mid.output output (code_left lower done) → (r : Result Done (Stop PutFailed)) → IfOk r IsEnd → done.session ≡ session_of r → StaysWritten mid.output output ⊎ IsEnding (status_of r)
    still same put (Ok it) e k = inr (e.0, e.1)
    still same put (Err why) e k = inl (none_put k put)

    by_puts : Puts → AsksAs words (open_text words end.session) before after end.status
    by_puts (inl so) =
        by_result result is_end (ap (λ (d : Done). d.status) so.0 ∙ status) (ap (λ (d : Done). d.session) so.0 ∙ kept) (still so.0 so.1 result is_end kept) (clauses.asked (meaning_by words) before mid result went is_end)
    by_puts (inr (inl lost)) = subst (λ (d : Done). AsksAs words (open_text words d.session) before after d.status) (sym lost.1)
        (let found = due_ended lost.0 in (
          found.0,
          front_lost lower words done (meaning_by words found.0) (silent found.0) before mid output failed (due_asks lost.0)
              (subst (λ (text : List ℕ). PutsPart mid.output output text) (due_code lost.0) lost.2) found.1,
        ))
    by_puts (inr (inr out)) = subst (λ (d : Done). AsksAs words (open_text words d.session) before after d.status) (sym out.1)
        (let found = due_ended out.0 in
        (found.0, front_out words before mid output failed (meaning_by words found.0) (silent found.0 (due_asks out.0) (sym found.1.status)) out.2 found.1))

  pub reads : ReadCount (good_words words) before after end.status
  reads = by_puts puts where
    by_words : (o : Option Asked) (n k : ℕ) → (IsEnding k → IsEnding n) → ReadCount o before mid n → ReadCount o before after k
    by_words None n k onward count = count
    by_words (Some it) n k onward count = by_mode (is_gen it.mode) count where
      by_mode : (b : Bool) → CountOf b before mid n → CountOf b before after k
      by_mode true same = same
      by_mode false rose = λ ending. rose (onward ending)

    first : ReadCount (good_words words) before mid (status_of result)
    first = clauses.reads (meaning_by words) before mid result went is_end words (λ readings. refl)

    by_puts : Puts → ReadCount (good_words words) before after end.status
    by_puts (inl so) = by_words (good_words words) (status_of result) end.status (subst (λ (n : ℕ). IsEnding end.status → IsEnding n) (ap (λ (d : Done). d.status) so.0 ∙ status) (λ e. e)) first
    by_puts (inr (inl lost)) = by_words (good_words words) (status_of result) end.status (λ ending. absurd (ending.0 (ap (λ (d : Done). d.status) lost.1))) first
    by_puts (inr (inr out)) = by_words (good_words words) (status_of result) end.status (λ ending. absurd (ending.1 (ap (λ (d : Done). d.status) out.1))) first

  pub read_faults : before.failed_reads ≤ mid.failed_reads → ReadFaults before after end.status
  read_faults never = by_puts puts where
    first : ReadFaults before mid (status_of result)
    first = clauses.read_faults (meaning_by words) before mid result went is_end never

    by_puts : Puts → ReadFaults before after end.status
    by_puts (inl so) =
        let same : end.status ≡ status_of result = ap (λ (d : Done). d.status) so.0 ∙ status in
        record { rose = λ two. first.rose (sym same ∙ two); stay = λ is. first.stay (subst HasWholeText same is); never_fall = never }
    by_puts (inr (inl lost)) = let is_three : end.status ≡ 3 = ap (λ (d : Done). d.status) lost.1 in record { rose = λ two. absurd (omega (arith, is_three, two)); stay = λ is. absurd (is.1 is_three); never_fall = never }
    by_puts (inr (inr out)) = let is_nine : end.status ≡ 9 = ap (λ (d : Done). d.status) out.1 in record { rose = λ two. absurd (omega (arith, is_nine, two)); stay = λ is. absurd (is.2 is_nine); never_fall = never }

  pub put_faults : SendCause result before.failed_puts mid.failed_puts → PutFaults before after end.status
  put_faults cause = by_puts puts where
    first : PutFaults before mid (status_of result)
    first = clauses.put_faults (meaning_by words) before mid result went is_end cause

    still : IsDue lower done → mid.failed_puts ≡ before.failed_puts
    still due = first.stay (λ three. absurd (omega (arith, status, due.all_done, three)))

    by_puts : Puts → PutFaults before after end.status
    by_puts (inl so) =
        let same : end.status ≡ status_of result = ap (λ (d : Done). d.status) so.0 ∙ status in
        subst (λ (n : ℕ). PutFaults before (written_more mid output n) end.status) (sym so.2)
        (record { rose = λ three. first.rose (sym same ∙ three); stay = λ other. first.stay (λ three. other (same ∙ three)); never_fall = first.never_fall })
    by_puts (inr (inl lost)) =
        let is_three : end.status ≡ 3 = ap (λ (d : Done). d.status) lost.1 in
        let level : mid.failed_puts ≡ before.failed_puts = still lost.0 in
        record { rose = λ three. subst (λ (n : ℕ). Rose n failed) level lost.3; stay = λ other. absurd (other is_three); never_fall = subst (λ (n : ℕ). n ≤ failed) level lost.4 }
    by_puts (inr (inr out)) =
        let is_nine : end.status ≡ 9 = ap (λ (d : Done). d.status) out.1 in
        let level : failed ≡ before.failed_puts = out.3 ∙ still out.0 in
        record { rose = λ three. absurd (omega (arith, is_nine, three)); stay = λ other. level; never_fall = omega (arith, level) }

  -- what holds of the session that was left so far holds of the one at the end
  pub left_at_end : (P : SessionParts → Type 0) → IfSome (session_of result) P → IfSome end.session P
  left_at_end P has = by_puts puts where
    first : IfSome done.session P
    first = subst (λ (o : Option SessionParts). IfSome o P) (sym kept) has

    by_puts : Puts → IfSome end.session P
    by_puts (inl so) = subst (λ (d : Done). IfSome d.session P) (sym so.0) first
    by_puts (inr (inl lost)) = subst (λ (d : Done). IfSome d.session P) (sym lost.1) first
    by_puts (inr (inr out)) = subst (λ (d : Done). IfSome d.session P) (sym out.1) tt

  pub session : LeavesSession words end.status end.session
  session = by_puts puts where
    first : IsSome done.session ↔ HasSession done.status
    first = subst (λ (o : Option SessionParts). IsSome o ↔ HasSession done.status) (sym kept) (subst (λ (n : ℕ). IsSome (session_of result) ↔ HasSession n) (sym status) (clauses.session (meaning_by words) before mid result went is_end))

    by_puts : Puts → LeavesSession words end.status end.session
    by_puts (inl so) = subst (λ (d : Done). LeavesSession words d.status d.session) (sym so.0) (record { kept = first.1; only = λ some. inl (first.0 some) })
    by_puts (inr (inl lost)) = subst (λ (d : Done). LeavesSession words d.status d.session) (sym lost.1) (record { kept = no_three; only = λ some. inr (refl, due_asks lost.0) }) where
      no_three : HasSession 3 → IsSome done.session
      no_three (inl h) = absurd (omega (arith, h))
      no_three (inr h) = absurd (omega (arith, h))
    by_puts (inr (inr out)) = subst (λ (d : Done). LeavesSession words d.status d.session) (sym out.1) (record { kept = no_nine; only = λ some. absurd (cc) }) where
      no_nine : HasSession 9 → IsSome {T = SessionParts} None
      no_nine (inl h) = absurd (omega (arith, h))
      no_nine (inr h) = absurd (omega (arith, h))

  pub last : IfSome end.session (λ left. (held : Held) → before.held ≡ Some held → StandsForLast (meaning words held None).last left)
  last = left_at_end (λ left. (held : Held) → before.held ≡ Some held → StandsForLast (meaning words held None).last left) (clauses.last (meaning_by words) before mid result went is_end)
