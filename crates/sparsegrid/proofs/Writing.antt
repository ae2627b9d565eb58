-- Lemmas on moves, and on what is told of those that were made.
use Rattle.std.proofs.Common.{◌≡◌, ◌≢◌, ℕ, ◌<◌, List, [], ◌∷◌, ◌++◌, take, drop, length, Option, Some, None, refl, sym, ap, ◌∙◌, append_assoc, arith}
use Rattle.std.proofs.lemmas.List.{append-nil, take-append-drop, length-drop}
use Rattle.sg_outside.specs.Counts.{one_more}
use Rattle.sg_outside.specs.Sink.{followed_by, piece_too}
use Rattle.sg_outside.specs.Files.{asked_too}
use Rattle.sparsegrid.specs.Moves.{Move, ReadsFile, WritesText, Reaches, Reached, pieces_of, writing, reaching, names_in, pieces_in, text_in, reached_in}
use Rattle.sparsegrid.specs.Meaning.{Meaning, moves_of, text_meant}
use Rattle.sparsegrid.specs.Outcome.{Output, Outside, StaysWritten, Grew, Made, told_more, counted_more}
use Rattle.sparsegrid.specs.steps.Along.{PutsText, PutsPart}

-- ---- what is told, with more after it

pub followed_by-nil : (told : Option (List ℕ)) → followed_by told [] ≡ told
followed_by-nil None = refl
followed_by-nil (Some bytes) = ap Some (append-nil bytes)

pub followed_by-twice : (told : Option (List ℕ)) (a b : List ℕ) → followed_by (followed_by told a) b ≡ followed_by told (a ++ b)
followed_by-twice None a b = refl
followed_by-twice (Some bytes) a b = ap Some (append_assoc bytes a b)

pub told_none : (told : Option (List (List ℕ))) → told ≡ told_more told []
told_none None = refl
told_none (Some before) = ap Some (sym (append-nil before))

more_twice : (told : Option (List (List ℕ))) (xs ys : List (List ℕ)) → told_more (told_more told xs) ys ≡ told_more told (xs ++ ys)
more_twice None xs ys = refl
more_twice (Some before) xs ys = ap Some (append_assoc before xs ys)

counted_twice : (count : ℕ) (xs ys : List (List ℕ)) → counted_more (counted_more count xs) ys ≡ counted_more count (xs ++ ys)
counted_twice count [] ys = refl
counted_twice count (x ∷ xs) ys = counted_twice (one_more count) xs ys

-- ---- moves one after the other

pub names_append : (xs ys : List Move) → names_in (xs ++ ys) ≡ names_in xs ++ names_in ys
names_append [] ys = refl
names_append (ReadsFile name ∷ xs) ys = ap (λ (names : List (List ℕ)). name ∷ names) (names_append xs ys)
names_append (WritesText text ∷ xs) ys = names_append xs ys
names_append (Reaches at ∷ xs) ys = names_append xs ys

pub pieces_append : (xs ys : List Move) → pieces_in (xs ++ ys) ≡ pieces_in xs ++ pieces_in ys
pieces_append [] ys = refl
pieces_append (ReadsFile name ∷ xs) ys = pieces_append xs ys
pieces_append (WritesText text ∷ xs) ys = ap (λ (pieces : List (List ℕ)). text ∷ pieces) (pieces_append xs ys)
pieces_append (Reaches at ∷ xs) ys = pieces_append xs ys

pub text_append : (xs ys : List Move) → text_in (xs ++ ys) ≡ text_in xs ++ text_in ys
text_append [] ys = refl
text_append (ReadsFile name ∷ xs) ys = text_append xs ys
text_append (WritesText text ∷ xs) ys = ap (λ (more : List ℕ). text ++ more) (text_append xs ys) ∙ sym (append_assoc text (text_in xs) (text_in ys))
text_append (Reaches at ∷ xs) ys = text_append xs ys

pub reached_append : (xs ys : List Move) → reached_in (xs ++ ys) ≡ reached_in xs ++ reached_in ys
reached_append [] ys = refl
reached_append (ReadsFile name ∷ xs) ys = reached_append xs ys
reached_append (WritesText text ∷ xs) ys = reached_append xs ys
reached_append (Reaches at ∷ xs) ys = ap (λ (more : List Reached). at ∷ more) (reached_append xs ys)

-- ---- one text

pub text_written : (text : List ℕ) → text_in (writing text) ≡ text
text_written [] = refl
text_written (byte ∷ bytes) = append-nil (byte ∷ bytes)

pub text_whole : (m : Meaning) → text_in (moves_of m) ≡ text_meant m
text_whole m = text_append m.moves (writing m.line) ∙ ap (λ (text : List ℕ). text_in m.moves ++ text) (text_written m.line)

pub pieces_written : (text : List ℕ) → pieces_in (writing text) ≡ pieces_of text
pieces_written [] = refl
pieces_written (byte ∷ bytes) = refl

pub unread : (text : List ℕ) → names_in (writing text) ≡ []
unread [] = refl
unread (byte ∷ bytes) = refl

-- no state is reached by a text
pub none_reached : (text : List ℕ) → reached_in (writing text) ≡ []
none_reached [] = refl
none_reached (byte ∷ bytes) = refl

pub unread_reaching : (text : List ℕ) (at : Reached) → names_in (reaching text at) ≡ []
unread_reaching [] at = refl
unread_reaching (byte ∷ bytes) at = refl

pub reached : (text : List ℕ) (at : Reached) → reached_in (reaching text at) ≡ at ∷ []
reached [] at = refl
reached (byte ∷ bytes) at = refl

pub text_reaching : (text : List ℕ) (at : Reached) → text_in (reaching text at) ≡ text
text_reaching [] at = refl
text_reaching (byte ∷ bytes) at = append-nil (byte ∷ bytes)

pub pieces_reaching : (text : List ℕ) (at : Reached) → pieces_in (reaching text at) ≡ pieces_of text
pieces_reaching [] at = refl
pieces_reaching (byte ∷ bytes) at = refl

pub writing_some : (text : List ℕ) → text ≢ [] → writing text ≡ WritesText text ∷ []
writing_some [] some = absurd (some refl)
writing_some (byte ∷ bytes) some = refl

-- ---- a put of a text

pub sent_none : (old : Output) (text : List ℕ) → text ≡ [] → PutsText old old text
sent_none old text none =
    record {
      written = sym (followed_by-nil old.written) ∙ ap (followed_by old.written) (sym none);
      pieces = told_none old.pieces ∙ ap (λ (t : List ℕ). told_more old.pieces (pieces_of t)) (sym none);
    }

pub sent_all : (old new : Output) (text : List ℕ) → 0 < length text → new.written ≡ followed_by old.written text → new.pieces ≡ piece_too old.pieces text → PutsText old new text
sent_all old new [] some written pieces = absurd (omega (arith, some))
sent_all old new (byte ∷ bytes) some written pieces = record { written = written; pieces = pieces }

-- a front of a text, which is not the whole
pub part_taken : (old new : Output) (text : List ℕ) (n : ℕ) → n < length text → new.written ≡ followed_by old.written (take n text) → new.pieces ≡ old.pieces → PutsPart old new text
part_taken old new text n short written pieces =
    record {
      part = take n text;
      missing = drop n text;
      written = written;
      pieces = pieces;
      whole = sym (take-append-drop n text);
      less = λ none. absurd (omega (arith, length-drop n text, ap length none));
    }

-- a put of an empty text writes nothing
pub puts_none : (old new : Output) → PutsText old new [] → StaysWritten old new
puts_none old new put = record { written = put.written ∙ followed_by-nil old.written; pieces = put.pieces ∙ sym (told_none old.pieces) }

pub stays_twice : (old mid new : Output) → StaysWritten old mid → StaysWritten mid new → StaysWritten old new
stays_twice old mid new first second = record { written = second.written ∙ first.written; pieces = second.pieces ∙ first.pieces }

-- ---- by which moves the output grew

pub grew_none : (old new : Output) → StaysWritten old new → Grew [] [] old new
grew_none old new stays = record { written = stays.written ∙ sym (followed_by-nil old.written); pieces = stays.pieces ∙ told_none old.pieces }

pub grew_text : (text : List ℕ) (old new : Output) → PutsText old new text → Grew (writing text) [] old new
grew_text text old new put =
    record {
      written = put.written ∙ ap (followed_by old.written) (sym (append-nil (text_in (writing text)) ∙ text_written text));
      pieces = put.pieces ∙ ap (told_more old.pieces) (sym (pieces_written text));
    }

pub grew_reaching : (text : List ℕ) (at : Reached) (old new : Output) → PutsText old new text → Grew (reaching text at) [] old new
grew_reaching text at old new put =
    record {
      written = put.written ∙ ap (followed_by old.written) (sym (append-nil (text_in (reaching text at)) ∙ text_reaching text at));
      pieces = put.pieces ∙ ap (told_more old.pieces) (sym (pieces_reaching text at));
    }

pub grew_part : (text : List ℕ) (old new : Output) (put : PutsPart old new text) → Grew [] put.part old new
grew_part text old new put = record { written = put.written; pieces = put.pieces ∙ told_none old.pieces }

pub grew_twice : (xs ys : List Move) (part : List ℕ) (old mid new : Output) → Grew xs [] old mid → Grew ys part mid new → Grew (xs ++ ys) part old new
grew_twice xs ys part old mid new first second =
    record {
      written = second.written ∙ ap (λ (told : Option (List ℕ)). followed_by told (text_in ys ++ part)) first.written
          ∙ followed_by-twice old.written (text_in xs ++ []) (text_in ys ++ part) ∙ ap (followed_by old.written) glued;
      pieces = second.pieces ∙ ap (λ (told : Option (List (List ℕ))). told_more told (pieces_in ys)) first.pieces
          ∙ more_twice old.pieces (pieces_in xs) (pieces_in ys) ∙ ap (told_more old.pieces) (sym (pieces_append xs ys));
    }
  where
    glued : (text_in xs ++ []) ++ (text_in ys ++ part) ≡ text_in (xs ++ ys) ++ part
    glued = ap (λ (text : List ℕ). text ++ (text_in ys ++ part)) (append-nil (text_in xs)) ∙ sym (append_assoc (text_in xs) (text_in ys) part)
        ∙ ap (λ (text : List ℕ). text ++ part) (sym (text_append xs ys))

-- ---- which moves were made

pub made_twice : (xs ys : List Move) (part : List ℕ) (before mid after : Outside) → Made xs [] before mid → Made ys part mid after → Made (xs ++ ys) part before after
made_twice xs ys part before mid after first second =
    record {
      output = grew_twice xs ys part before.output mid.output after.output first.output second.output;
      asked = second.asked ∙ ap (λ (told : Option (List (List ℕ))). told_more told (names_in ys)) first.asked
          ∙ more_twice before.asked (names_in xs) (names_in ys) ∙ ap (told_more before.asked) (sym (names_append xs ys));
      reads = second.reads ∙ ap (λ (count : ℕ). counted_more count (names_in ys)) first.reads
          ∙ counted_twice before.reads (names_in xs) (names_in ys) ∙ ap (counted_more before.reads) (sym (names_append xs ys));
    }

-- moves without a read
pub made_unread : (moves : List Move) (part : List ℕ) (before after : Outside) → names_in moves ≡ [] → Grew moves part before.output after.output
    → after.asked ≡ before.asked → after.reads ≡ before.reads → Made moves part before after
made_unread moves part before after none grew asked reads =
    record {
      output = grew;
      asked = asked ∙ told_none before.asked ∙ ap (told_more before.asked) (sym none);
      reads = reads ∙ ap (counted_more before.reads) (sym none);
    }

-- nothing was done
pub made_none : (before after : Outside) → StaysWritten before.output after.output → after.asked ≡ before.asked → after.reads ≡ before.reads → Made [] [] before after
made_none before after stays asked reads = made_unread [] [] before after refl (grew_none before.output after.output stays) asked reads

-- a file was read, and nothing was written
pub made_read : (name : List ℕ) (before after : Outside) → StaysWritten before.output after.output → after.asked ≡ asked_too before.asked name → after.reads ≡ one_more before.reads
    → Made (ReadsFile name ∷ []) [] before after
made_read name before after stays asked reads =
    record {
      output = record { written = stays.written ∙ sym (followed_by-nil before.output.written); pieces = stays.pieces ∙ told_none before.output.pieces };
      asked = asked;
      reads = reads;
    }
