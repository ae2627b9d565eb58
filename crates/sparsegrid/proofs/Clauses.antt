-- From what a run did, except for the text of access code, to the clauses that say it.
use Rattle.std.proofs.Common.{◌≡◌, ◌≢◌, ℕ, suc, ◌+◌, ◌-◌, ◌<◌, ◌≤◌, ◌⊎◌, inl, inr, Bool, true, false, List, [], ◌∷◌, ◌++◌, length, Option, Some, None, Result, Ok, Err, IfOk, refl, sym, ap, ◌∙◌, subst, arith}
use Rattle.std.specs.Prelude.{IsSome, ◌↔◌}
use Rattle.std.specs.Option.{IfSome}
use Rattle.std.proofs.lemmas.List.{append-nil, length-append, length-map}
use Rattle.sg_words.specs.declared.memory.Stop.{Stop}
use Rattle.sg_words.specs.declared.memory.Stop.TheVariants as stop
use Rattle.sg_outside.specs.Counts.{Rose, last_count}
use Rattle.sg_outside.specs.Files.{Held}
use Rattle.sg_session.specs.Performed.{SessionParts}
use Rattle.sparsegrid.specs.declared.output.PutFailed.{PutFailed}
use Rattle.sparsegrid.specs.declared.session.Done.{Done}
use Rattle.sparsegrid.specs.Words.{Asked, good_words, is_gen}
use Rattle.sparsegrid.specs.Moves.{Move, names_in}
use Rattle.sparsegrid.specs.Meaning.{Meaning, Readings, asked_of, meaning_by, meaning_of_words, readings_in}
use Rattle.sparsegrid.specs.Outcome.{Outside, HasWholeText, IsEnding, HasSession, Made, Wrote, WentAFront, ReadFaults, PutFaults, CountOf, ReadCount, StandsForLast, counted_more}
use Rattle.sparsegrid.specs.steps.Along.{SendCause, status_of, session_of, ReadMade, names_of, Agree, Follows, NoneFailed, LastFailed, ReadsEnd, Went, IsEnd}
use Rattle.sparsegrid.proofs.Sources.{of_file}
use Rattle.sparsegrid.proofs.Unread.{generated_asks, no_names, names_meant}
use Rattle.sparsegrid.proofs.Readings.{count_low, count_rose, agree_told, agree_stopped, readings_of, agree_own}

module _ (m : Readings → Meaning) (before after : Outside) (result : Result Done (Stop PutFailed)) (went : Went m 0 before after result) (end : IfOk result IsEnd) where
  -- ---- by how a run ended

  wrote_as : (whole : Meaning) (r : Result Done (Stop PutFailed)) → Follows whole went.did went.part r → IsEnding (status_of r) → Wrote whole before after (status_of r)
  wrote_as whole (Ok done) f ending =
      record { made = subst (λ (moves : List Move). Made moves [] before after) f.0.all (subst (λ (part : List ℕ). Made went.did part before after) f.1 went.grew); status = f.0.status }
  wrote_as whole (Err (stop.Refused failed)) f ending = absurd (ending.0 refl)
  wrote_as whole (Err stop.Memory) f ending = absurd (ending.1 refl)

  -- the moves that were made are a front, whatever the status
  front_as : (whole : Meaning) (r : Result Done (Stop PutFailed)) → IfOk r IsEnd → Follows whole went.did went.part r → WentAFront whole before after (status_of r)
  front_as whole (Ok done) e f =
      record {
        done = went.did;
        part = went.part;
        front = record {
          left = [];
          whole = sym (append-nil went.did ∙ f.0.all);
          failed = λ three. absurd (e.0 three);
          other = λ other. f.1;
          less = λ nine. absurd (e.1 nine);
        };
        made = went.grew;
      }
  front_as whole (Err why) e f = record { done = went.did; part = went.part; front = f; made = went.grew }

  no_two : (r : Result Done (Stop PutFailed)) → IfOk r (λ done. done.status ≢ 2) → status_of r ≢ 2
  no_two (Ok done) other = other
  no_two (Err (stop.Refused failed)) other = λ two. absurd (omega arith)
  no_two (Err stop.Memory) other = λ two. absurd (omega arith)

  two_whole : (r : Result Done (Stop PutFailed)) → IfOk r (λ done. done.status ≡ 2) → HasWholeText (status_of r) → ⊥
  two_whole (Ok done) two is = is.0 two
  two_whole (Err (stop.Refused failed)) two is = is.1 refl
  two_whole (Err stop.Memory) two is = is.2 refl

  ending_whole : (status : ℕ) → HasWholeText status → IsEnding status
  ending_whole status is = (is.1, is.2)

  -- ---- the readings

  agree_none : (held : Held) → before.held ≡ Some held → NoneFailed before after went.made → Agree (readings_in held None) 0 went.made
  agree_none held told none = agree_told held 0 went.made (none.told held told)

  agree_stop : (held : Held) → before.held ≡ Some held → LastFailed before after went.made → after.reads < last_count → Agree (readings_in held (Some (after.reads - before.reads))) 0 went.made
  agree_stop held told failed low =
      let reads : after.reads ≡ counted_more before.reads (names_of went.made) = went.grew.reads ∙ ap (counted_more before.reads) went.names in
      let count : counted_more before.reads (names_of went.made) ≡ before.reads + length (names_of went.made) = count_low before.reads (names_of went.made) (rw (sym reads) low) in
      let long : length (names_of went.made) ≡ length went.made = length-map went.made (λ (read : ReadMade). read.name) in
      let made : length went.made ≡ length (failed.earlier ++ failed.last ∷ []) = ap length failed.is in
      let at : after.reads - before.reads ≡ suc (length failed.earlier + 0) = omega (arith, reads, length-append failed.earlier (failed.last ∷ [])) in
      rw failed.is (agree_stopped held (after.reads - before.reads) 0 failed.earlier failed.last at (failed.told held told) failed.missing)

  -- with which readings that the files tell the reads agree
  pub agree_whole : HasWholeText (status_of result) → (held : Held) → before.held ≡ Some held → Agree (readings_in held None) 0 went.made
  agree_whole is held told = by_ends went.ends where
    by_ends : ReadsEnd before after went.made result → Agree (readings_in held None) 0 went.made
    by_ends (inl well) = agree_none held told well.0
    by_ends (inr failed) = absurd (two_whole result failed.1 is)

  pub agree_two : status_of result ≡ 2 → after.reads < last_count → (held : Held) → before.held ≡ Some held → Agree (readings_in held (Some (after.reads - before.reads))) 0 went.made
  agree_two two low held told = by_ends went.ends where
    by_ends : ReadsEnd before after went.made result → Agree (readings_in held (Some (after.reads - before.reads))) 0 went.made
    by_ends (inl well) = absurd (no_two result well.1 two)
    by_ends (inr failed) = agree_stop held told failed.0 low

  pub agree_front : (held : Held) → before.held ≡ Some held → Agree (readings_in held None) 0 went.made
      ⊎ (Rose before.failed_reads after.failed_reads × (after.reads < last_count → Agree (readings_in held (Some (after.reads - before.reads))) 0 went.made))
  agree_front held told = by_ends went.ends where
    by_ends : ReadsEnd before after went.made result → Agree (readings_in held None) 0 went.made
        ⊎ (Rose before.failed_reads after.failed_reads × (after.reads < last_count → Agree (readings_in held (Some (after.reads - before.reads))) 0 went.made))
    by_ends (inl well) = inl (agree_none held told well.0)
    by_ends (inr failed) = inr (failed.0.fault, λ low. agree_stop held told failed.0 low)

  -- ---- the clauses

  pub whole : HasWholeText (status_of result) → (held : Held) → before.held ≡ Some held → Wrote (m (readings_in held None)) before after (status_of result)
  whole is held told = wrote_as (m (readings_in held None)) result (went.follows (readings_in held None) (agree_whole is held told)) (ending_whole (status_of result) is)

  pub stopped : status_of result ≡ 2 → after.reads < last_count → (held : Held) → before.held ≡ Some held → Wrote (m (readings_in held (Some (after.reads - before.reads)))) before after (status_of result)
  stopped two low held told =
      wrote_as (m (readings_in held (Some (after.reads - before.reads)))) result (went.follows (readings_in held (Some (after.reads - before.reads))) (agree_two two low held told))
      ((λ three. absurd (omega (arith, two, three))), (λ nine. absurd (omega (arith, two, nine))))

  -- the moves that were made are a front of what it means with readings that agree
  pub front_with : (readings : Readings) → Agree readings 0 went.made → WentAFront (m readings) before after (status_of result)
  front_with readings agree = front_as (m readings) result end (went.follows readings agree)

  pub front : (held : Held) → before.held ≡ Some held → WentAFront (m (readings_in held None)) before after (status_of result)
      ⊎ (Rose before.failed_reads after.failed_reads × (after.reads < last_count → WentAFront (m (readings_in held (Some (after.reads - before.reads)))) before after (status_of result)))
  front held told = by_agree (agree_front held told) where
    by_agree : Agree (readings_in held None) 0 went.made
        ⊎ (Rose before.failed_reads after.failed_reads × (after.reads < last_count → Agree (readings_in held (Some (after.reads - before.reads))) 0 went.made))
        → WentAFront (m (readings_in held None)) before after (status_of result)
        ⊎ (Rose before.failed_reads after.failed_reads × (after.reads < last_count → WentAFront (m (readings_in held (Some (after.reads - before.reads)))) before after (status_of result)))
    by_agree (inl agree) = inl (front_with (readings_in held None) agree)
    by_agree (inr failed) = inr (failed.0, λ low. front_with (readings_in held (Some (after.reads - before.reads))) (failed.1 low))

  own : Follows (m (readings_of 0 went.made)) went.did went.part result
  own = went.follows (readings_of 0 went.made) (agree_own 0 went.made)

  pub wrote_own : IsEnding (status_of result) → Wrote (m (readings_of 0 went.made)) before after (status_of result)
  wrote_own ending = wrote_as (m (readings_of 0 went.made)) result own ending

  pub ended : IsEnding (status_of result) → (readings : Readings) × Wrote (m readings) before after (status_of result)
  ended ending = (readings_of 0 went.made, wrote_own ending)

  pub asked : (readings : Readings) × WentAFront (m readings) before after (status_of result)
  asked = (readings_of 0 went.made, front_as (m (readings_of 0 went.made)) result end own)

  -- no move that was made is a read
  unread : (whole : Meaning) (r : Result Done (Stop PutFailed)) → asked_of whole ≡ [] → Follows whole went.did went.part r → after.reads ≡ before.reads
  unread whole r none f = went.grew.reads ∙ ap (counted_more before.reads) (no_names whole went.did went.part r none f)

  pub reads : (words : List (List ℕ)) → ((readings : Readings) → asked_of (m readings) ≡ asked_of (meaning_by words readings)) → ReadCount (good_words words) before after (status_of result)
  reads words same = by_words (good_words words) (same (readings_of 0 went.made)) result own where
    by_words : (o : Option Asked) → asked_of (m (readings_of 0 went.made)) ≡ asked_of (meaning_of_words o (readings_of 0 went.made)) → (r : Result Done (Stop PutFailed))
        → Follows (m (readings_of 0 went.made)) went.did went.part r → ReadCount o before after (status_of r)
    by_words None is r f = unread (m (readings_of 0 went.made)) r is f
    by_words (Some wanted) is r f = by_mode (is_gen wanted.mode) refl where
      by_file : (a : Result Done (Stop PutFailed)) → is_gen wanted.mode ≡ false → Follows (m (readings_of 0 went.made)) went.did went.part a
          → IsEnding (status_of a) → Rose before.reads after.reads
      by_file (Ok done) file g ending =
          rose (sym (ap (λ (whole : Meaning). asked_of whole) (of_file wanted file (readings_of 0 went.made))) ∙ sym is ∙ sym (names_meant (m (readings_of 0 went.made)))
          ∙ ap (λ (moves : List Move). names_in moves) (sym g.0.all))
        where
          rose : {rest : List (List ℕ)} → wanted.file ∷ rest ≡ names_in went.did → Rose before.reads after.reads
          rose {rest} is_first = subst (λ (c : ℕ). Rose before.reads c) (sym (went.grew.reads ∙ ap (counted_more before.reads) (sym is_first))) (count_rose before.reads wanted.file rest)
      by_file (Err (stop.Refused failed)) file g ending = absurd (ending.0 refl)
      by_file (Err stop.Memory) file g ending = absurd (ending.1 refl)

      by_mode : (b : Bool) → is_gen wanted.mode ≡ b → CountOf b before after (status_of r)
      by_mode true gen = unread (m (readings_of 0 went.made)) r (is ∙ generated_asks wanted gen (readings_of 0 went.made)) f
      by_mode false file = by_file r file f

  pub read_faults : before.failed_reads ≤ after.failed_reads → ReadFaults before after (status_of result)
  read_faults never = by_ends went.ends where
    by_ends : ReadsEnd before after went.made result → ReadFaults before after (status_of result)
    by_ends (inl well) = record { rose = λ two. absurd (no_two result well.1 two); stay = λ is. well.0.no_fault; never_fall = never }
    by_ends (inr failed) = record { rose = λ two. failed.0.fault; stay = λ is. absurd (two_whole result failed.1 is); never_fall = never }

  pub put_faults : SendCause result before.failed_puts after.failed_puts → PutFaults before after (status_of result)
  put_faults cause = by_result result end cause where
    by_result : (r : Result Done (Stop PutFailed)) → IfOk r IsEnd → SendCause r before.failed_puts after.failed_puts → PutFaults before after (status_of r)
    by_result (Ok done) e same = record { rose = λ three. absurd (e.0 three); stay = λ other. same; never_fall = omega (arith, same) }
    by_result (Err (stop.Refused failed)) e rose = record { rose = λ three. rose.0; stay = λ other. absurd (other refl); never_fall = rose.1 }
    by_result (Err stop.Memory) e same = record { rose = λ three. absurd (omega arith); stay = λ other. same; never_fall = omega (arith, same) }

  pub session : IsSome (session_of result) ↔ HasSession (status_of result)
  session = by_result result end where
    by_result : (r : Result Done (Stop PutFailed)) → IfOk r IsEnd → IsSome (session_of r) ↔ HasSession (status_of r)
    by_result (Ok done) e = e.2
    by_result (Err (stop.Refused failed)) e = ((λ some. absurd (cc)), no_end) where
      no_end : HasSession 3 → IsSome {T = SessionParts} None
      no_end (inl h) = absurd (omega arith)
      no_end (inr h) = absurd (omega arith)
    by_result (Err stop.Memory) e = ((λ some. absurd (cc)), no_end) where
      no_end : HasSession 9 → IsSome {T = SessionParts} None
      no_end (inl h) = absurd (omega arith)
      no_end (inr h) = absurd (omega arith)

  pub last : IfSome (session_of result) (λ kept. (held : Held) → before.held ≡ Some held → StandsForLast (m (readings_in held None)).last kept)
  last = by_result result end went.ends (λ held told none. went.follows (readings_in held None) (agree_none held told none)) where
    by_session : (o : Option SessionParts) (status : ℕ) → (IsSome o ↔ HasSession status) → status ≡ 2 → (P : SessionParts → Type 0) → IfSome o P
    by_session None status e two P = tt
    by_session (Some kept) status e two P = absurd (no (e.0 refl)) where
      no : HasSession status → ⊥
      no (inl zero) = absurd (omega arith)
      no (inr seven) = absurd (omega arith)

    well_last : (o : Option SessionParts) → ((held : Held) → before.held ≡ Some held → IfSome o (StandsForLast (m (readings_in held None)).last)) → IfSome o (λ kept. (held : Held) → before.held ≡ Some held → StandsForLast (m (readings_in held None)).last kept)
    well_last None h = tt
    well_last (Some kept) h = λ held told. h held told

    by_result : (r : Result Done (Stop PutFailed)) → IfOk r IsEnd → ReadsEnd before after went.made r
        → ((held : Held) → before.held ≡ Some held → NoneFailed before after went.made → Follows (m (readings_in held None)) went.did went.part r)
        → IfSome (session_of r) (λ kept. (held : Held) → before.held ≡ Some held → StandsForLast (m (readings_in held None)).last kept)
    by_result (Ok done) e (inl well) f = well_last done.session (λ held told. (f held told well.0).0.last)
    by_result (Ok done) e (inr failed) f = by_session done.session done.status e.2 failed.1 (λ kept. (held : Held) → before.held ≡ Some held → StandsForLast (m (readings_in held None)).last kept)
    by_result (Err why) e ends f = tt
