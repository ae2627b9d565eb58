-- The words of a field, as entries and as a function of the rows.
use Rattle.std.proofs.Common.{◌≡◌, ℕ, zero, suc, ◌+◌, ◌<◌, ◌≤◌, inl, inr, true, not, cond, eqb, List, [], ◌∷◌, map, refl, sym, ap, ◌∙◌, arith, zero-add}
use Rattle.std.specs.Prelude.{filter}
use Rattle.std.specs.List.{range_with_len}
use Rattle.std.proofs.lemmas.Bool.{both_ways, cases_eq, cond-true, cond-false, cond_both, eqb-true, eq-eqb, ne_eqb, not-true, not-false, and_parts}
use Rattle.sg_flat.specs.Words.{has_no_zero, word_at, words_of}
use Rattle.sg_flat.specs.steps.Landing.{AreWordsBelow}

-- the words that a function gives the rows from a number on
abbrev pub words_from : ℕ → ℕ → (ℕ → ℕ) → List (ℕ × ℕ)
words_from start size f = filter (λ entry. not (eqb entry.1 0)) (map (λ row. (row, f row)) (range_with_len start size))

-- a list of words with one more word before it, unless that word is 0
abbrev pub with_word : ℕ → ℕ → List (ℕ × ℕ) → List (ℕ × ℕ)
with_word row word words = cond (not (eqb word 0)) ((row, word) ∷ words) words

word_at-other : (row word : ℕ) (words : List (ℕ × ℕ)) (other : ℕ) → (row ≡ other → ⊥) → word_at (with_word row word words) other ≡ word_at words other
word_at-other row word words other apart =
    cond_both (not (eqb word 0)) ((row, word) ∷ words) words (λ (ws : List (ℕ × ℕ)). word_at ws other ≡ word_at words other)
    (λ _. cond-false (eqb row other) word (word_at words other) (ne_eqb row other apart))
    (λ _. refl)

word_at-same : (row word : ℕ) (words : List (ℕ × ℕ)) (other : ℕ) → row ≡ other → word_at words other ≡ 0 → word_at (with_word row word words) other ≡ word
word_at-same row word words other same none =
    cond_both (not (eqb word 0)) ((row, word) ∷ words) words (λ (ws : List (ℕ × ℕ)). word_at ws other ≡ word)
    (λ _. cond-true (eqb row other) word (word_at words other) (eq-eqb row other same))
    (λ is_zero. none ∙ sym (eqb-true word 0 (not-false (eqb word 0) is_zero)))

-- no row before the start has a word
word_at-before : (start size : ℕ) (f : ℕ → ℕ) (row : ℕ) → row < start → word_at (words_from start size f) row ≡ 0
word_at-before start zero f row before = refl
word_at-before start (suc size) f row before =
    word_at-other start (f start) (words_from (start + 1) size f) row (λ same. omega arith) ∙ word_at-before (start + 1) size f row (omega arith)

-- no row from the end on has a word
word_at-after : (start size end : ℕ) (f : ℕ → ℕ) (row : ℕ) → start + size ≡ end → end ≤ row → word_at (words_from start size f) row ≡ 0
word_at-after start zero end f row ends after = refl
word_at-after start (suc size) end f row ends after =
    word_at-other start (f start) (words_from (start + 1) size f) row (λ same. omega arith) ∙ word_at-after (start + 1) size end f row (omega arith) after

-- each row between has the word of the function
word_at-between : (start size end : ℕ) (f : ℕ → ℕ) (row : ℕ) → start + size ≡ end → start ≤ row → row < end → word_at (words_from start size f) row ≡ f row
word_at-between start zero end f row ends from below = absurd (omega arith)
word_at-between start (suc size) end f row ends from below = elim (cases_eq start row) [
  | inl same ↦ word_at-same start (f start) (words_from (start + 1) size f) row same (word_at-before (start + 1) size f row (omega arith)) ∙ ap f same
  | inr apart ↦ word_at-other start (f start) (words_from (start + 1) size f) row apart ∙ word_at-between (start + 1) size end f row (omega arith) (omega arith) below
]

-- two functions that agree between give the same words
words_from-agree : (start size end : ℕ) (f g : ℕ → ℕ) → start + size ≡ end → ((row : ℕ) → start ≤ row → row < end → f row ≡ g row) → words_from start size f ≡ words_from start size g
words_from-agree start zero end f g ends agree = refl
words_from-agree start (suc size) end f g ends agree =
    ap (λ word. with_word start word (words_from (start + 1) size f)) (agree start (omega arith) (omega arith))
    ∙ ap (λ words. with_word start (g start) words) (words_from-agree (start + 1) size end f g (omega arith) (λ row from below. agree row (omega arith) below))

-- a function gives its words to the rows below, and 0 to the others
pub word_at-words_of : (size : ℕ) (f : ℕ → ℕ) (row : ℕ) → row < size → word_at (words_of size f) row ≡ f row
word_at-words_of size f row below = word_at-between 0 size size f row (zero-add size) (omega arith) below

pub word_at-past : (size : ℕ) (f : ℕ → ℕ) (row : ℕ) → size ≤ row → word_at (words_of size f) row ≡ 0
word_at-past size f row past = word_at-after 0 size size f row (zero-add size) past

pub words_of-agree : (size : ℕ) (f g : ℕ → ℕ) → ((row : ℕ) → row < size → f row ≡ g row) → words_of size f ≡ words_of size g
words_of-agree size f g agree = words_from-agree 0 size size f g (zero-add size) (λ row from below. agree row below)

pub are_words_of : (size : ℕ) (f : ℕ → ℕ) → AreWordsBelow size (words_of size f)
are_words_of size f = words_of-agree size f (word_at (words_of size f)) (λ row below. sym (word_at-words_of size f row below))

-- the rows of the entries rise, from a number on and below another
abbrev pub RowsRise : ℕ → ℕ → List (ℕ × ℕ) → Type 0
RowsRise start end [] = Unit {0}
RowsRise start end (entry ∷ entries) = (start ≤ entry.0) × (entry.0 < end) × RowsRise (entry.0 + 1) end entries

pub head_not_zero : (entry : ℕ × ℕ) (entries : List (ℕ × ℕ)) → has_no_zero (entry ∷ entries) ≡ true → entry.1 ≡ 0 → ⊥
head_not_zero entry entries none is_zero = both_ways (eqb entry.1 0) (not-true (eqb entry.1 0) (and_parts _ _ none).0) (eq-eqb entry.1 0 is_zero)

pub tail_not_zero : (entry : ℕ × ℕ) (entries : List (ℕ × ℕ)) → has_no_zero (entry ∷ entries) ≡ true → has_no_zero entries ≡ true
tail_not_zero entry entries none = (and_parts _ _ none).1

-- no row before the first has a word
word_at-below_rows : (start end : ℕ) (words : List (ℕ × ℕ)) (row : ℕ) → RowsRise start end words → row < start → word_at words row ≡ 0
word_at-below_rows start end [] row rise below = refl
word_at-below_rows start end (entry ∷ entries) row rise below =
    let first = rise.0 in
    cond-false (eqb entry.0 row) entry.1 (word_at entries row) (ne_eqb entry.0 row (λ same. omega arith))
    ∙ word_at-below_rows (entry.0 + 1) end entries row rise.2 (omega arith)

weaker_rise : (start lower end : ℕ) (words : List (ℕ × ℕ)) → lower ≤ start → RowsRise start end words → RowsRise lower end words
weaker_rise start lower end [] le rise = tt
weaker_rise start lower end (entry ∷ entries) le rise = let first = rise.0 in (omega arith, rise.1, rise.2)

-- entries with rising rows and no word 0 are the words that they themselves give the rows
words_from-rows : (start size end : ℕ) (words : List (ℕ × ℕ)) → start + size ≡ end → RowsRise start end words → has_no_zero words ≡ true → words ≡ words_from start size (word_at words)
words_from-rows start zero end [] ends rise none = refl
words_from-rows start zero end (entry ∷ entries) ends rise none = absurd (let first = rise.0 in let last = rise.1 in omega arith)
words_from-rows start (suc size) end [] ends rise none = words_from-rows (start + 1) size end [] (omega arith) tt refl
words_from-rows start (suc size) end (entry ∷ entries) ends rise none =
    let first = rise.0 in
    elim (cases_eq entry.0 start) [
      | inl same ↦ (
          let word : word_at (entry ∷ entries) start ≡ entry.1 = cond-true (eqb entry.0 start) entry.1 (word_at entries start) (eq-eqb entry.0 start same) in
          let not_zero : not (eqb entry.1 0) ≡ true = (and_parts _ _ none).0 in
          let rest : entries ≡ words_from (start + 1) size (word_at entries) =
          words_from-rows (start + 1) size end entries (omega arith) (weaker_rise (entry.0 + 1) (start + 1) end entries (omega arith) rise.2) (tail_not_zero entry entries none) in
          let agree : words_from (start + 1) size (word_at entries) ≡ words_from (start + 1) size (word_at (entry ∷ entries)) =
          words_from-agree (start + 1) size end (word_at entries) (word_at (entry ∷ entries)) (omega arith)
          (λ row from below. sym (cond-false (eqb entry.0 row) entry.1 (word_at entries row) (ne_eqb entry.0 row (λ (e : entry.0 ≡ row). omega arith)))) in
          let tail : entries ≡ words_from (start + 1) size (word_at (entry ∷ entries)) = rest ∙ agree in
          ap (λ row. (row, entry.1) ∷ entries) same
          ∙ sym (cond-true (not (eqb entry.1 0)) ((start, entry.1) ∷ entries) entries not_zero)
          ∙ ap (λ (ws : List (ℕ × ℕ)). with_word start entry.1 ws) tail
          ∙ ap (λ word. with_word start word (words_from (start + 1) size (word_at (entry ∷ entries)))) (sym word)
          )
      | inr apart ↦ (
          let later : start < entry.0 = omega arith in
          let rise_on : RowsRise (start + 1) end (entry ∷ entries) = (omega arith, rise.1, rise.2) in
          let word : word_at (entry ∷ entries) start ≡ 0 = word_at-below_rows (start + 1) end (entry ∷ entries) start rise_on (omega arith) in
          words_from-rows (start + 1) size end (entry ∷ entries) (omega arith) rise_on none
          ∙ ap (λ word. with_word start word (words_from (start + 1) size (word_at (entry ∷ entries)))) (sym word)
          )
    ]

pub are_words_from_rows : (size : ℕ) (words : List (ℕ × ℕ)) → RowsRise 0 size words → has_no_zero words ≡ true → AreWordsBelow size words
are_words_from_rows size words rise none = words_from-rows 0 size size words (zero-add size) rise none
