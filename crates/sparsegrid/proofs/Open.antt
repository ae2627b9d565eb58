-- What a meaning leaves open: the text of access code, and what a run did of the meaning with that text.
use Rattle.std.proofs.Common.{◌≡◌, ◌≢◌, ℕ, ◌-◌, ◌==◌, Bool, true, false, ◌&&◌, List, [], ◌∷◌, ◌++◌, Option, None, refl, sym, ap, ◌∙◌, subst, arith}
use Rattle.std.specs.Prelude.{if◌then◌else◌}
use Rattle.std.proofs.lemmas.Bool.Decides.{nat_tests}
use Rattle.std.proofs.lemmas.List.{append-nil}
use Rattle.sg_outside.specs.Sink.{followed_by}
use Rattle.sg_session.specs.Performed.{SessionParts}
use Rattle.sparsegrid.specs.declared.session.Done.{Done}
use Rattle.sparsegrid.specs.Words.{good_words}
use Rattle.sparsegrid.specs.Moves.{Move, WritesText, writing, names_in, pieces_in, text_in}
use Rattle.sparsegrid.specs.Meaning.{Meaning, moves_of, asks_code, saying, with_open}
use Rattle.sparsegrid.specs.Outcome.{Output, Outside, IsEnding, code_in, open_text, StaysWritten, Grew, Made, Wrote, WentAFront, told_more}
use Rattle.sparsegrid.specs.steps.Along.{PutsText, PutsPart, code_left}
use Rattle.sparsegrid.proofs.Writing.{followed_by-nil, told_none, unread, writing_some, grew_text, grew_part, made_twice, made_unread}
use Rattle.sparsegrid.proofs.Going.{longer}
use Rattle.sparsegrid.proofs.Lowered.{WritesNothing}

-- ---- what a meaning leaves open

-- its status and its line stay as they are
pub status_is : (words : List (List ℕ)) (opened : List ℕ) (m : Meaning) → (with_open words opened m).status ≡ m.status
status_is words opened m = by_test (asks_code (good_words words) && (m.status == 0))
  where
    by_test : (b : Bool) → (if b then saying opened m else m).status ≡ m.status
    by_test true = refl
    by_test false = refl

pub line_is : (words : List (List ℕ)) (opened : List ℕ) (m : Meaning) → (with_open words opened m).line ≡ m.line
line_is words opened m = by_test (asks_code (good_words words) && (m.status == 0))
  where
    by_test : (b : Bool) → (if b then saying opened m else m).line ≡ m.line
    by_test true = refl
    by_test false = refl

-- without a session there is nothing open
pub none_open : (words : List (List ℕ)) → open_text words None ≡ []
none_open words = by_test (asks_code (good_words words))
  where
    by_test : (b : Bool) → (if b then code_in None else []) ≡ []
    by_test true = refl
    by_test false = refl

pub none_left : (words : List (List ℕ)) (m : Meaning) → moves_of (with_open words (open_text words None) m) ≡ moves_of m
none_left words m = ap (λ (opened : List ℕ). moves_of (with_open words opened m)) (none_open words) ∙ by_test (asks_code (good_words words) && (m.status == 0))
  where
    by_test : (b : Bool) → moves_of (if b then saying [] m else m) ≡ moves_of m
    by_test true = ap (λ (moves : List Move). moves ++ writing m.line) (append-nil m.moves)
    by_test false = refl

-- where all is done and code is asked for, the text that is open comes last
pub open_is : (words : List (List ℕ)) (opened : List ℕ) (m : Meaning) → asks_code (good_words words) ≡ true → m.status ≡ 0 → m.line ≡ [] → moves_of (with_open words opened m) ≡ moves_of m ++ writing opened
open_is words opened m asks zero none =
    subst (λ (b : Bool). moves_of (if b && (m.status == 0) then saying opened m else m) ≡ moves_of m ++ writing opened) (sym asks)
    (subst (λ (n : ℕ). moves_of (if n == 0 then saying opened m else m) ≡ moves_of m ++ writing opened) (sym zero) last)
  where
    bare : moves_of m ≡ m.moves
    bare = ap (λ (line : List ℕ). m.moves ++ writing line) none ∙ append-nil m.moves

    last : moves_of (saying opened m) ≡ moves_of m ++ writing opened
    last = ap (λ (line : List ℕ). (m.moves ++ writing opened) ++ writing line) none ∙ append-nil (m.moves ++ writing opened) ∙ ap (λ (moves : List Move). moves ++ writing opened) (sym bare)

pub code_is : (words : List (List ℕ)) (session : Option SessionParts) → asks_code (good_words words) ≡ true → open_text words session ≡ code_in session
code_is words session asks = subst (λ (b : Bool). (if b then code_in session else []) ≡ code_in session) (sym asks) refl

-- the outside where more was written
abbrev pub written_more : Outside → Output → ℕ → Outside
written_more mid output failed = record { held = mid.held; asked = mid.asked; reads = mid.reads; failed_reads = mid.failed_reads; output = output; failed_puts = failed }

-- the moves that were made, and then a text and a part of another
pub made_more : (moves more : List Move) (part : List ℕ) (before mid : Outside) (output : Output) (failed : ℕ) → names_in more ≡ [] → Made moves [] before mid → Grew more part mid.output output
    → Made (moves ++ more) part before (written_more mid output failed)
made_more moves more part before mid output failed none made grew =
    made_twice moves more part before mid (written_more mid output failed) made (made_unread more part mid (written_more mid output failed) none grew refl refl)

-- a front of a meaning, without a session
pub front_none : (words : List (List ℕ)) (before mid : Outside) (output : Output) (failed : ℕ) (m : Meaning) (answer : ℕ) → StaysWritten mid.output output → WentAFront m before mid answer
    → WentAFront (with_open words (open_text words None) m) before (written_more mid output failed) answer
front_none words before mid output failed m answer stays went =
    record {
      done = went.done;
      part = went.part;
      front = record {
        left = went.front.left;
        whole = none_left words m ∙ went.front.whole;
        failed = went.front.failed;
        other = went.front.other;
        less = λ nine some. went.front.less nine (λ none. some (line_is words (open_text words None) m ∙ none));
      };
      made = record {
        output = record {
          written = stays.written ∙ went.made.output.written;
          pieces = stays.pieces ∙ went.made.output.pieces;
        };
        asked = went.made.asked;
        reads = went.made.reads;
      };
    }

-- what a run did of a meaning it did of that with its text of code, where that was written too
module _ (lower : Bool) (words : List (List ℕ)) (done : Done) (m : Meaning) (silent : asks_code (good_words words) ≡ true → m.status ≡ 0 → m.line ≡ []) where
  abbrev opened : List ℕ
  opened = open_text words done.session

  is_zero : (m.status == 0) ≡ true → m.status ≡ 0
  is_zero h = grind (arith, nat_tests)

  left_is : lower ≡ asks_code (good_words words) → done.status ≡ m.status → moves_of (with_open words opened m) ≡ moves_of m ++ writing (code_left lower done)
  left_is same status = by_asks (asks_code (good_words words)) refl where
    by_asks : (b : Bool) → asks_code (good_words words) ≡ b → moves_of (with_open words opened m) ≡ moves_of m ++ writing (code_left lower done)
    by_asks false asks =
        ap (λ (b : Bool). moves_of (if b && (m.status == 0) then saying opened m else m)) asks ∙ sym (append-nil (moves_of m))
        ∙ ap (λ (text : List ℕ). moves_of m ++ writing text) (sym (ap (λ (b : Bool). if b && (done.status == 0) then code_in done.session else []) (same ∙ asks)))
    by_asks true asks = by_status (m.status == 0) refl where
      left_of : code_left lower done ≡ (if m.status == 0 then code_in done.session else [])
      left_of = ap (λ (b : Bool). if b && (done.status == 0) then code_in done.session else []) (same ∙ asks) ∙ ap (λ (n : ℕ). if n == 0 then code_in done.session else []) status

      by_status : (z : Bool) → (m.status == 0) ≡ z → moves_of (with_open words opened m) ≡ moves_of m ++ writing (code_left lower done)
      by_status false other =
          ap (λ (b : Bool). moves_of (if b && (m.status == 0) then saying opened m else m)) asks ∙ ap (λ (z : Bool). moves_of (if z then saying opened m else m)) other ∙ sym (append-nil (moves_of m))
          ∙ ap (λ (text : List ℕ). moves_of m ++ writing text) (sym (left_of ∙ ap (λ (z : Bool). if z then code_in done.session else []) other))
      by_status true zero =
          open_is words opened m asks (is_zero zero) (silent asks (is_zero zero))
          ∙ ap (λ (text : List ℕ). moves_of m ++ writing text) (code_is words done.session asks ∙ sym (left_of ∙ ap (λ (z : Bool). if z then code_in done.session else []) zero))

  pub wrote_more : (before mid : Outside) (output : Output) (failed : ℕ) → lower ≡ asks_code (good_words words) → PutsText mid.output output (code_left lower done)
      → Wrote m before mid done.status → Wrote (with_open words opened m) before (written_more mid output failed) done.status
  wrote_more before mid output failed same put wrote =
      record {
        made = subst (λ (moves : List Move). Made moves [] before (written_more mid output failed)) (sym (left_is same wrote.status))
            (made_more (moves_of m) (writing (code_left lower done)) [] before mid output failed (unread (code_left lower done)) wrote.made (grew_text (code_left lower done) mid.output output put));
        status = wrote.status ∙ sym (status_is words opened m);
      }

  -- the put of the code failed
  pub front_lost : (before mid : Outside) (output : Output) (failed : ℕ) → asks_code (good_words words) ≡ true → PutsPart mid.output output (code_in done.session)
      → Wrote m before mid 0 → WentAFront (with_open words opened m) before (written_more mid output failed) 3
  front_lost before mid output failed asks put wrote =
      record {
        done = moves_of m ++ [];
        part = put.part;
        front = record {
          left = WritesText code ∷ [];
          whole = open_is words opened m asks (sym wrote.status) (silent asks (sym wrote.status))
              ∙ ap (λ (text : List ℕ). moves_of m ++ writing text) (code_is words done.session asks)
              ∙ ap (λ (moves : List Move). moves_of m ++ moves) (writing_some code some)
              ∙ ap (λ (moves : List Move). moves ++ WritesText code ∷ []) (sym (append-nil (moves_of m)));
          failed = λ three. record { text = code; missing = put.missing; rest = []; next = refl; whole = put.whole; less = put.less };
          other = λ other. absurd (other refl);
          less = λ nine. absurd (omega arith);
        };
        made = made_more (moves_of m) [] put.part before mid output failed refl wrote.made (grew_part code mid.output output put);
      }
    where
      code : List ℕ
      code = code_in done.session

      some : code ≢ []
      some none = longer put.part put.missing put.less (sym put.whole ∙ none)

-- all is done, but for the code, for which there was no memory
pub front_out : (words : List (List ℕ)) (before mid : Outside) (output : Output) (failed : ℕ) (m : Meaning) → m.line ≡ [] → StaysWritten mid.output output → Wrote m before mid 0
    → WentAFront (with_open words (open_text words None) m) before (written_more mid output failed) 9
front_out words before mid output failed m no_line stays wrote =
    front_none words before mid output failed m 9 stays
    (record {
      done = moves_of m;
      part = [];
      front = record {
        left = [];
        whole = sym (append-nil (moves_of m));
        failed = λ three. absurd (omega arith);
        other = λ other. refl;
        less = λ nine some. absurd (some no_line);
      };
      made = wrote.made;
    })

-- all moves are a front
pub front_whole : (m : Meaning) (before after : Outside) (answer : ℕ) → IsEnding answer → Wrote m before after answer → WentAFront m before after answer
front_whole m before after answer ending wrote =
    record {
      done = moves_of m;
      part = [];
      front = record {
        left = [];
        whole = sym (append-nil (moves_of m));
        failed = λ three. absurd (ending.0 three);
        other = λ other. refl;
        less = λ nine. absurd (ending.1 nine);
      };
      made = wrote.made;
    }

-- a meaning without a text leaves the output as it was
pub silent_stays : (m : Meaning) (old new : Output) → WritesNothing m → Grew (moves_of m) [] old new → StaysWritten old new
silent_stays m old new silent grew =
    record {
      written = grew.written ∙ ap (λ (text : List ℕ). followed_by old.written (text ++ [])) (ap (λ (moves : List Move). text_in moves) bare ∙ silent.no_text) ∙ followed_by-nil old.written;
      pieces = grew.pieces ∙ ap (told_more old.pieces) (ap (λ (moves : List Move). pieces_in moves) bare ∙ silent.no_pieces) ∙ sym (told_none old.pieces);
    }
  where
    bare : moves_of m ≡ m.moves
    bare = ap (λ (line : List ℕ). m.moves ++ writing line) silent.no_line ∙ append-nil m.moves
