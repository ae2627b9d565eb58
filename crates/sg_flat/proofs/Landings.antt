-- What writes make of a field: none, one, and one list after another.
use Rattle.std.proofs.Common.{◌≡◌, ℕ, zero, suc, ◌+◌, ◌<◌, ◌≤◌, inl, inr, Bool, true, not, ◌&&◌, ◌||◌, cond, eqb, List, [], ◌∷◌, ◌++◌, take, length, get_or, sym, ap, ◌∙◌, arith}
use Rattle.std.specs.Prelude.{filter, IsTrue}
use Rattle.std.specs.List.{list_all}
use Rattle.std.proofs.lemmas.Bool.{cases_eq, cond-true, cond-false, eq-eqb, ne_eqb, and_parts}
use Rattle.std.proofs.lemmas.List.{take_more, take_all, append-nil}
use Rattle.std.proofs.lemmas.List.Elements.{filter-append}
use Rattle.std.proofs.lemmas.Grind.{fold-append}
use Rattle.std.proofs.lemmas.List.Concat.{flat_map-append}
use Rattle.std.proofs.lemmas.List.Folds.{list_all-append}
use Rattle.sg_coord.specs.Bounds.{Bounds, volume}
use Rattle.sg_coord.specs.Coord.{row_of, is_inside}
use Rattle.sg_words.specs.declared.operators.Ty.{Ty}
use Rattle.sg_flat.specs.Kernel.{field_after}
use Rattle.sg_flat.specs.declared.effects.Write.{Write}
use Rattle.sg_flat.specs.declared.effects.Turn.{Turn}
use Rattle.sg_flat.specs.Words.{word_at, words_of}
use Rattle.sg_flat.specs.Effects.{land, landed, is_to, writes_of}
use Rattle.sg_flat.specs.steps.Landing.{AreWordsBelow, put_word, stay_inside}
use Rattle.sg_flat.proofs.FieldWords.{word_at-words_of, words_of-agree, are_words_of}

-- what a row's word is after writes
abbrev row_after : Bounds → ℕ → ℕ → Ty → List (ℕ × ℕ) → List Write → ℕ → ℕ
row_after bounds layout place ty words writes row = landed ty (word_at words row) (filter (is_to bounds layout place row) writes)

pub field_after-nil : (bounds : Bounds) (layout place : ℕ) (ty : Ty) (words : List (ℕ × ℕ)) → AreWordsBelow (volume bounds) words → words ≡ field_after bounds layout place ty words []
field_after-nil bounds layout place ty words are_words = are_words

pub field_after-append : (bounds : Bounds) (layout place : ℕ) (ty : Ty) (words : List (ℕ × ℕ)) (earlier later : List Write) → field_after bounds layout place ty (field_after bounds layout place ty words earlier) later ≡ field_after bounds layout place ty words (earlier ++ later)
field_after-append bounds layout place ty words earlier later =
    words_of-agree (volume bounds) (row_after bounds layout place ty (field_after bounds layout place ty words earlier) later) (row_after bounds layout place ty words (earlier ++ later))
    (λ row below.
    ap (λ old. landed ty old (filter (is_to bounds layout place row) later)) (word_at-words_of (volume bounds) (row_after bounds layout place ty words earlier) row below)
    ∙ sym (fold-append (λ word (write : Write). land ty word write.way write.value) (word_at words row) (filter (is_to bounds layout place row) earlier) (filter (is_to bounds layout place row) later))
    ∙ ap (λ (ws : List Write). landed ty (word_at words row) ws) (sym (filter-append (is_to bounds layout place row) earlier later)))

pub field_after-are_words : (bounds : Bounds) (layout place : ℕ) (ty : Ty) (words : List (ℕ × ℕ)) (writes : List Write) → AreWordsBelow (volume bounds) (field_after bounds layout place ty words writes)
field_after-are_words bounds layout place ty words writes = are_words_of (volume bounds) (row_after bounds layout place ty words writes)

-- one write to a row, seen from any row
one_write : (ty : Ty) (words : List (ℕ × ℕ)) (write : Write) (to row : ℕ) → cond (eqb to row) (land ty (word_at words to) write.way write.value) (word_at words row) ≡ landed ty (word_at words row) (cond (eqb to row) (write ∷ []) [])
one_write ty words write to row = elim (cases_eq to row) [
  | inl same ↦ (
      let here = eq-eqb to row same in
      cond-true (eqb to row) (land ty (word_at words to) write.way write.value) (word_at words row) here
      ∙ ap (λ at. land ty (word_at words at) write.way write.value) same
      ∙ sym (ap (λ (found : Bool). landed ty (word_at words row) (cond found (write ∷ []) [])) here)
      )
  | inr apart ↦ (
      let elsewhere = ne_eqb to row apart in
      cond-false (eqb to row) (land ty (word_at words to) write.way write.value) (word_at words row) elsewhere
      ∙ sym (ap (λ (found : Bool). landed ty (word_at words row) (cond found (write ∷ []) [])) elsewhere)
      )
]

-- a write to this field, which puts its word into its row
pub field_after-one : (bounds : Bounds) (layout place : ℕ) (ty : Ty) (words new : List (ℕ × ℕ)) (write : Write) (row word : ℕ) → write.layout ≡ layout → write.place ≡ place → row ≡ row_of bounds write.at → word ≡ land ty (word_at words row) write.way write.value → new ≡ words_of (volume bounds) (put_word words row word) → new ≡ field_after bounds layout place ty words (write ∷ [])
field_after-one bounds layout place ty words new write to word same_layout same_place is_row is_word puts =
    puts
    ∙ words_of-agree (volume bounds) (put_word words to word) (row_after bounds layout place ty words (write ∷ []))
    (λ row _.
    ap (λ (new_word : ℕ). cond (eqb to row) new_word (word_at words row)) is_word
    ∙ one_write ty words write to row
    ∙ ap (λ (found : Bool). landed ty (word_at words row) (cond found (write ∷ []) [])) (is_to_this row))
  where
    is_to_this : (row : ℕ) → eqb to row ≡ is_to bounds layout place row write
    is_to_this row =
        ap (λ at. eqb at row) is_row
        ∙ ap (λ (found : Bool). found && eqb (row_of bounds write.at) row) (sym (eq-eqb write.place place same_place))
        ∙ ap (λ (found : Bool). found && (eqb write.place place && eqb (row_of bounds write.at) row)) (sym (eq-eqb write.layout layout same_layout))

-- a field after some first writes, after one more and after all
pub field_after-more : (bounds : Bounds) (layout place : ℕ) (ty : Ty) (words field new : List (ℕ × ℕ)) (writes : List Write) (i : ℕ) (d : Write) → i < length writes → field ≡ field_after bounds layout place ty words (take i writes) → new ≡ field_after bounds layout place ty field (get_or writes i d ∷ []) → new ≡ field_after bounds layout place ty words (take (i + 1) writes)
field_after-more bounds layout place ty words field new writes i d below so_far step =
    step
    ∙ ap (λ (ws : List (ℕ × ℕ)). field_after bounds layout place ty ws (get_or writes i d ∷ [])) so_far
    ∙ field_after-append bounds layout place ty words (take i writes) (get_or writes i d ∷ [])
    ∙ ap (field_after bounds layout place ty words) (sym (take_more writes i d below))

pub field_after-all : (bounds : Bounds) (layout place : ℕ) (ty : Ty) (words field : List (ℕ × ℕ)) (items writes : List Write) (i : ℕ) → items ≡ writes → length items ≤ i → field ≡ field_after bounds layout place ty words (take i items) → field ≡ field_after bounds layout place ty words writes
field_after-all bounds layout place ty words field items writes i same past so_far =
    so_far ∙ ap (field_after bounds layout place ty words) (take_all i items past ∙ same)

-- the same over iterations
pub writes_of-more : (turns : List Turn) (i : ℕ) (d : Turn) → i < length turns → writes_of (take (i + 1) turns) ≡ writes_of (take i turns) ++ (get_or turns i d).writes
writes_of-more turns i d below =
    ap writes_of (take_more turns i d below)
    ∙ flat_map-append (λ (turn : Turn). turn.writes) (take i turns) (get_or turns i d ∷ [])
    ∙ ap (λ (ws : List Write). writes_of (take i turns) ++ ws) (append-nil (get_or turns i d).writes)

pub field_after-more_turns : (bounds : Bounds) (layout place : ℕ) (ty : Ty) (words field new : List (ℕ × ℕ)) (turns : List Turn) (i : ℕ) (turn : Turn) → i < length turns → turn ≡ get_or turns i turn → field ≡ field_after bounds layout place ty words (writes_of (take i turns)) → new ≡ field_after bounds layout place ty field turn.writes → new ≡ field_after bounds layout place ty words (writes_of (take (i + 1) turns))
field_after-more_turns bounds layout place ty words field new turns i turn below is so_far step =
    step
    ∙ ap (λ (ws : List (ℕ × ℕ)). field_after bounds layout place ty ws turn.writes) so_far
    ∙ field_after-append bounds layout place ty words (writes_of (take i turns)) turn.writes
    ∙ ap (λ (t : Turn). field_after bounds layout place ty words (writes_of (take i turns) ++ t.writes)) is
    ∙ ap (field_after bounds layout place ty words) (sym (writes_of-more turns i turn below))

pub field_after-all_turns : (bounds : Bounds) (layout place : ℕ) (ty : Ty) (words field : List (ℕ × ℕ)) (items turns : List Turn) (i : ℕ) → items ≡ turns → length items ≤ i → field ≡ field_after bounds layout place ty words (writes_of (take i items)) → field ≡ field_after bounds layout place ty words (writes_of turns)
field_after-all_turns bounds layout place ty words field items turns i same past so_far =
    so_far ∙ ap (λ (ts : List Turn). field_after bounds layout place ty words (writes_of ts)) (take_all i items past ∙ same)

-- a test that all writes pass is passed by the writes of each iteration
list_all-turn : (test : Write → Bool) (turns : List Turn) (i : ℕ) (d : Turn) → i < length turns → list_all test (writes_of turns) ≡ true → list_all test (get_or turns i d).writes ≡ true
list_all-turn test [] i d below all = absurd (omega arith)
list_all-turn test (turn ∷ turns) zero d below all = (and_parts _ _ (sym (list_all-append test turn.writes (writes_of turns)) ∙ all)).0
list_all-turn test (turn ∷ turns) (suc i) d below all =
    list_all-turn test turns i d (omega arith) (and_parts _ _ (sym (list_all-append test turn.writes (writes_of turns)) ∙ all)).1

pub stay_inside-turn : (bounds : Bounds) (layout : ℕ) (items turns : List Turn) (i : ℕ) (turn : Turn) → items ≡ turns → i < length items → turn ≡ get_or items i turn → IsTrue (stay_inside bounds layout (writes_of turns)) → IsTrue (stay_inside bounds layout turn.writes)
stay_inside-turn bounds layout items turns i turn same below is inside =
    ap (λ (t : Turn). stay_inside bounds layout t.writes) is
    ∙ list_all-turn (λ write. not (eqb write.layout layout) || is_inside bounds write.at) items i turn below (ap (λ (ts : List Turn). stay_inside bounds layout (writes_of ts)) same ∙ inside)
