-- Parts of a run one after the other, as their meanings have it.
use Rattle.std.proofs.Common.{◌≡◌, ◌≢◌, ℕ, suc, ◌+◌, inl, inr, List, [], ◌∷◌, ◌++◌, length, Option, Result, Ok, Err, IfOk, refl, sym, ap, ◌∙◌, subst, append_assoc, arith}
use Rattle.std.specs.Option.{IfSome}
use Rattle.std.proofs.lemmas.List.{append-nil}
use Rattle.sg_words.specs.declared.memory.Stop.{Stop}
use Rattle.sg_words.specs.declared.memory.Stop.TheVariants as stop
use Rattle.sg_outside.specs.Counts.{Rose, one_more}
use Rattle.sg_outside.specs.Files.{Missing, asked_too}
use Rattle.sg_outside.specs.Sink.{followed_by}
use Rattle.sparsegrid.specs.declared.output.PutFailed.{PutFailed}
use Rattle.sparsegrid.specs.declared.session.Done.{Done}
use Rattle.sparsegrid.specs.Moves.{Move, ReadsFile, WritesText, writing, names_in, pieces_in, text_in, reached_in}
use Rattle.sparsegrid.specs.Meaning.{Meaning, Readings, moves_of, after_moves, asking_for}
use Rattle.sparsegrid.specs.Outcome.{Output, Outside, StaysWritten, Grew, Made, IsFront, StandsForLast, told_more, counted_more}
use Rattle.sparsegrid.specs.steps.Along.{PutsPart, Sends, Follows, ReadMade, names_of, Agree, NoneFailed, ReadsEnd, Went}
use Rattle.sparsegrid.proofs.Writing.{names_append, none_reached, text_whole, unread, writing_some, grew_none, grew_text, grew_part, made_twice, made_unread}
use Rattle.sparsegrid.proofs.Readings.{names_twice, told_twice, agree_twice}

-- a meaning whose status isn't 0 has a last line
abbrev pub EndsInLine : Meaning → Type 0
EndsInLine m = m.status ≢ 0 → m.line ≢ []

pub longer : (xs ys : List ℕ) → ys ≢ [] → xs ++ ys ≢ []
longer [] ys h none = h none
longer (x ∷ xs) ys h none = absurd (cc)

-- ---- fronts of a meaning

-- nothing of it was done
pub at_start : (m : Meaning) → EndsInLine m → IsFront m [] [] 9
at_start m ends = record {
  left = moves_of m;
  whole = refl;
  failed = λ three. absurd (omega arith);
  other = λ other. refl;
  less = λ nine some none. longer (text_in m.moves) m.line some (sym (text_whole m) ∙ none);
}

-- the put of its first text failed
pub at_text : (m : Meaning) (text : List ℕ) (rest : List Move) (old new : Output) (put : PutsPart old new text) → moves_of m ≡ writing text ++ rest → IsFront m [] put.part 3
at_text m text rest old new put is =
    record {
      left = WritesText text ∷ rest;
      whole = is ∙ ap (λ (moves : List Move). moves ++ rest) (writing_some text some);
      failed = λ three. record { text = text; missing = put.missing; rest = rest; next = refl; whole = put.whole; less = put.less };
      other = λ other. absurd (other refl);
      less = λ nine. absurd (omega arith);
    }
  where
    some : text ≢ []
    some none = longer put.part put.missing put.less (sym put.whole ∙ none)

-- a front of what comes after some moves
after_front : (moves : List Move) (m : Meaning) (did : List Move) (part : List ℕ) (answer : ℕ) → IsFront m did part answer → IsFront (after_moves moves m) (moves ++ did) part answer
after_front moves m did part answer front =
    record {
      left = front.left;
      whole = append_assoc moves m.moves (writing m.line) ∙ ap (λ (more : List Move). moves ++ more) front.whole ∙ sym (append_assoc moves did front.left);
      failed = front.failed;
      other = front.other;
      less = front.less;
    }

pub follows_after : (moves : List Move) (m : Meaning) (did : List Move) (part : List ℕ) (result : Result Done (Stop PutFailed)) → Follows m did part result → Follows (after_moves moves m) (moves ++ did) part result
follows_after moves m did part (Ok done) follows = (
  record {
    all = ap (λ (more : List Move). moves ++ more) follows.0.all ∙ sym (append_assoc moves m.moves (writing m.line));
    status = follows.0.status;
    last = follows.0.last;
  },
  follows.1,
)
follows_after moves m did part (Err why) front = after_front moves m did part _ front

-- ---- parts without a read

-- a part of a run without a read went along with a meaning
pub record Gone (m : Meaning) (old new : Output) (result : Result Done (Stop PutFailed)) : Type 0 where
  pub did : List Move
  pub part : List ℕ
  pub unread : names_in did ≡ []
  pub still : reached_in did ≡ []
  pub grew : Grew did part old new
  pub follows : Follows m did part result

-- the one text of a meaning was put
pub gone_text : (m : Meaning) (text : List ℕ) (old new : Output) (result : Result Done (Stop PutFailed)) → moves_of m ≡ writing text → EndsInLine m → Sends result old new text
    → IfOk result (λ done. done.status ≡ m.status) → IfOk result (λ done. IfSome done.session (StandsForLast m.last)) → Gone m old new result
gone_text m text old new (Ok done) is ends sent status last =
    record { did = writing text; part = []; unread = unread text; still = none_reached text; grew = grew_text text old new sent; follows = (record { all = sym is; status = status; last = last }, refl) }
gone_text m text old new (Err (stop.Refused failed)) is ends sent status last =
    record { did = []; part = sent.part; unread = refl; still = refl; grew = grew_part text old new sent; follows = at_text m text [] old new sent (is ∙ sym (append-nil (writing text))) }
gone_text m text old new (Err stop.Memory) is ends sent status last =
    record { did = []; part = []; unread = refl; still = refl; grew = grew_none old new sent; follows = at_start m ends }

-- before it the output stayed as it was
pub gone_before : (m : Meaning) (old mid new : Output) (result : Result Done (Stop PutFailed)) → StaysWritten old mid → Gone m mid new result → Gone m old new result
gone_before m old mid new result stays gone =
    record {
      did = gone.did;
      part = gone.part;
      unread = gone.unread;
      still = gone.still;
      grew = record {
        written = gone.grew.written ∙ ap (λ (told : Option (List ℕ)). followed_by told (text_in gone.did ++ gone.part)) stays.written;
        pieces = gone.grew.pieces ∙ ap (λ (told : Option (List (List ℕ))). told_more told (pieces_in gone.did)) stays.pieces;
      };
      follows = gone.follows;
    }

unfoldable pub went_still : (m : Readings → Meaning) (n : ℕ) (before after : Outside) (result : Result Done (Stop PutFailed)) (did : List Move) (part : List ℕ)
    → names_in did ≡ [] → Grew did part before.output after.output → ((readings : Readings) → Follows (m readings) did part result)
    → after.asked ≡ before.asked → after.reads ≡ before.reads → after.failed_reads ≡ before.failed_reads → IfOk result (λ done. done.status ≢ 2) → Went m n before after result
went_still m n before after result did part none grew follows asked reads faults status =
    record {
      made = [];
      did = did;
      part = part;
      names = none;
      grew = made_unread did part before after none grew asked reads;
      follows = λ readings agree. follows readings;
      ends = inl (record { no_fault = faults; told = λ held told. tt }, status);
    }

-- memory ran out before anything was done
pub went_memory : (m : Readings → Meaning) (n : ℕ) (before after : Outside) → ((readings : Readings) → EndsInLine (m readings))
    → StaysWritten before.output after.output → after.asked ≡ before.asked → after.reads ≡ before.reads → after.failed_reads ≡ before.failed_reads → Went m n before after (Err stop.Memory)
went_memory m n before after ends stays asked reads faults =
    went_still m n before after (Err stop.Memory) [] [] refl (grew_none before.output after.output stays) (λ readings. at_start (m readings) (ends readings)) asked reads faults tt

-- the output is the same one
pub stays_same : (output : Output) → StaysWritten output output
stays_same output = record { written = refl; pieces = refl }

-- a part that means one thing whatever is read
pub went_gone : (m : Meaning) (n : ℕ) (before after : Outside) (result : Result Done (Stop PutFailed)) → Gone m before.output after.output result
    → after.asked ≡ before.asked → after.reads ≡ before.reads → after.failed_reads ≡ before.failed_reads → IfOk result (λ done. done.status ≢ 2) → Went (λ readings. m) n before after result
went_gone m n before after result gone asked reads faults status =
    went_still (λ readings. m) n before after result gone.did gone.part gone.unread gone.grew (λ readings. gone.follows) asked reads faults status

-- ---- a part after another

unfoldable pub compose : (m rest : Readings → Meaning) (n k : ℕ) (made : List ReadMade) (did : List Move) (before mid after : Outside) (result : Result Done (Stop PutFailed))
    → k ≡ length made + n → ((readings : Readings) → Agree readings n made → m readings ≡ after_moves did (rest readings))
    → names_in did ≡ names_of made → Made did [] before mid → mid.held ≡ before.held → NoneFailed before mid made → Went rest k mid after result → Went m n before after result
compose m rest n k made did before mid after result at is names grew held none went =
    record {
      made = made ++ went.made;
      did = did ++ went.did;
      part = went.part;
      names = names_append did went.did ∙ ap (λ (xs : List (List ℕ)). xs ++ names_in went.did) names ∙ ap (λ (xs : List (List ℕ)). names_of made ++ xs) went.names ∙ sym (names_twice made went.made);
      grew = made_twice did went.did went.part before mid after grew went.grew;
      follows = λ readings agree. follows readings (agree_twice readings n k made went.made at agree);
      ends = ends went.ends;
    }
  where
    follows : (readings : Readings) → Agree readings n made × Agree readings k went.made → Follows (m readings) (did ++ went.did) went.part result
    follows readings agree =
        subst (λ (whole : Meaning). Follows whole (did ++ went.did) went.part result) (sym (is readings agree.0))
        (follows_after did (rest readings) went.did went.part result (went.follows readings agree.1))

    ends : ReadsEnd mid after went.made result → ReadsEnd before after (made ++ went.made) result
    ends (inl well) =
        inl (record { no_fault = well.0.no_fault ∙ none.no_fault; told = λ files told. told_twice files made went.made (none.told files told) (well.0.told files (held ∙ told)) }, well.1)
    ends (inr failed) =
        inr (
          record {
            fault = subst (λ (c : ℕ). Rose c after.failed_reads) none.no_fault failed.0.fault;
            earlier = made ++ failed.0.earlier;
            last = failed.0.last;
            is = ap (λ (more : List ReadMade). made ++ more) failed.0.is ∙ sym (append_assoc made failed.0.earlier (failed.0.last ∷ []));
            missing = failed.0.missing;
            told = λ files told. told_twice files made failed.0.earlier (none.told files told) (failed.0.told files (held ∙ told));
          },
          failed.1,
        )

-- the first read failed, and its line was written
unfoldable pub went_failed : (m : Readings → Meaning) (line : Meaning) (n : ℕ) (name : List ℕ) (limit : ℕ) (before after : Outside) (result : Result Done (Stop PutFailed))
    → ((readings : Readings) → readings (suc n) name limit ≡ Missing → m readings ≡ asking_for name line) → Gone line before.output after.output result
    → after.asked ≡ asked_too before.asked name → after.reads ≡ one_more before.reads → Rose before.failed_reads after.failed_reads → IfOk result (λ done. done.status ≡ 2)
    → Went m n before after result
went_failed m line n name limit before after result is gone asked reads rose status =
    record {
      made = read ∷ [];
      did = ReadsFile name ∷ gone.did;
      part = gone.part;
      names = ap (λ (names : List (List ℕ)). name ∷ names) gone.unread;
      grew = record {
        output = record { written = gone.grew.written; pieces = gone.grew.pieces };
        asked = asked ∙ ap (λ (names : List (List ℕ)). told_more before.asked (name ∷ names)) (sym gone.unread);
        reads = reads ∙ ap (λ (names : List (List ℕ)). counted_more before.reads (name ∷ names)) (sym gone.unread);
      };
      follows = λ readings agree. subst (λ (whole : Meaning). Follows whole (ReadsFile name ∷ gone.did) gone.part result) (sym (is readings agree.0))
          (follows_after (ReadsFile name ∷ []) line gone.did gone.part result gone.follows);
      ends = inr (record { fault = rose; earlier = []; last = read; is = refl; missing = refl; told = λ files told. tt }, status);
    }
  where
    read : ReadMade
    read = record { name = name; limit = limit; given = Missing }
