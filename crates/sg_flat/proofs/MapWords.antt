-- The words of a field against the entries of an ordered map.
use Rattle.std.proofs.Common.{◌≡◌, ℕ, ◌+◌, ◌^◌, ◌<◌, ◌≤◌, inl, inr, Bool, true, false, not, cond, eqb, ltb, List, [], ◌∷◌, Option, Some, refl, sym, ap, ◌∙◌, arith, zero-le}
use Rattle.std.specs.Prelude.{unwrap_or}
use Rattle.std.specs.List.{AllByRecursion, list_all}
use Rattle.std.specs.List.Sorted.{IsStrictlySortedBy}
use Rattle.std.specs.Ordering.{nat_cmp, is_eq, match_ordering}
use Rattle.std.specs.Cmp.{nat_cmp_is}
use Rattle.std.specs.declared.cmp.Ordering.{Ordering}
use Rattle.std.specs.declared.cmp.Ordering.TheVariants.{Less, Equal, Greater}
use Rattle.std.specs.Map.{lookup, keys_of, remove_entry}
use Rattle.std.specs.BTreeMap.{is_at, insert_entry}
use Rattle.std.proofs.lemmas.Bool.{cases_eq, cases_lt, cases_order, cond-true, cond-false, cond_both, eq-eqb, ne_eqb, lt-ltb, not_from_false, and_parts, and_from}
use Rattle.std.proofs.lemmas.Map.Keys.{sorted_head, sorted_tail}
use Rattle.sg_flat.specs.Words.{has_no_zero, are_words, word_at, words_of}
use Rattle.sg_flat.specs.steps.Landing.{AreWordsBelow, put_word}
use Rattle.sg_flat.proofs.FieldWords.{RowsRise, are_words_from_rows, words_of-agree, word_at-past, head_not_zero, tail_not_zero}

-- a comparison of two numbers answers `Equal` exactly when they are equal
pub is_eq-nat_cmp : (a b : ℕ) → is_eq (nat_cmp a b) ≡ eqb a b
is_eq-nat_cmp a b = elim (cases_order a b) [
  | inl same ↦ ap is_eq (sym (nat_cmp_is a b Equal same)) ∙ sym (eq-eqb a b same)
  | inr (inl below) ↦ ap is_eq (sym (nat_cmp_is a b Less below)) ∙ sym (ne_eqb a b (λ same. omega arith))
  | inr (inr above) ↦ ap is_eq (sym (nat_cmp_is a b Greater above)) ∙ sym (ne_eqb a b (λ same. omega arith))
]

eqb_comm : (a b : ℕ) → eqb a b ≡ eqb b a
eqb_comm a b = elim (cases_eq a b) [
  | inl same ↦ eq-eqb a b same ∙ sym (eq-eqb b a (sym same))
  | inr apart ↦ ne_eqb a b apart ∙ sym (ne_eqb b a (λ same. apart (sym same)))
]

-- the word of a row is what the map has there, or 0
pub word_at-lookup : (words : List (ℕ × ℕ)) (row : ℕ) → word_at words row ≡ unwrap_or (lookup (is_at (nat_cmp row)) words) 0
word_at-lookup [] row = refl
word_at-lookup (entry ∷ entries) row =
    let same : eqb entry.0 row ≡ is_eq (nat_cmp row entry.0) = eqb_comm entry.0 row ∙ sym (is_eq-nat_cmp row entry.0) in
    ap (λ (found : Bool). cond found entry.1 (word_at entries row)) same
    ∙ elim (is_eq (nat_cmp row entry.0)) as (λ (found : Bool). cond found entry.1 (word_at entries row) ≡ unwrap_or (cond found (Some entry.1) (lookup (is_at (nat_cmp row)) entries)) 0) [
      | true ↦ refl
      | false ↦ word_at-lookup entries row
    ]

below_from_Less : (a b : ℕ) → nat_cmp a b ≡ Less → a < b
below_from_Less a b less = elim (cases_order a b) [
  | inl same ↦ absurd (let equal = nat_cmp_is a b Equal same in cc)
  | inr (inl below) ↦ below
  | inr (inr above) ↦ absurd (let greater = nat_cmp_is a b Greater above in cc)
]

keys_above : (row : ℕ) (entries : List (ℕ × ℕ)) → AllByRecursion (λ key. nat_cmp row key ≡ Less) (keys_of entries) → AllByRecursion (λ key. row + 1 ≤ key) (keys_of entries)
keys_above row [] above = above
keys_above row (entry ∷ entries) above = (let below = below_from_Less row entry.0 above.0 in omega arith, keys_above row entries above.1)

-- entries in the order of a map, with no word 0, and a word in no row from the end on
rows_rise : (start end : ℕ) (words : List (ℕ × ℕ)) → IsStrictlySortedBy nat_cmp (keys_of words) → AllByRecursion (λ key. start ≤ key) (keys_of words) → has_no_zero words ≡ true → ((row : ℕ) → end ≤ row → word_at words row ≡ 0) → RowsRise start end words
rows_rise start end [] sorted from none past = tt
rows_rise start end (entry ∷ entries) sorted from none past =
    let below : entry.0 < end = elim (cases_lt entry.0 end) [
      | inl below ↦ below
      | inr above ↦ absurd (head_not_zero entry entries none (sym (cond-true (eqb entry.0 entry.0) entry.1 (word_at entries entry.0) (eq-eqb entry.0 entry.0 refl)) ∙ past entry.0 above))
    ] in (
      from.0,
      below,
      rows_rise (entry.0 + 1) end entries
          (sorted_tail nat_cmp entry.0 (keys_of entries) sorted)
          (keys_above entry.0 entries (sorted_head nat_cmp entry.0 (keys_of entries) sorted))
          (tail_not_zero entry entries none)
          (λ row above. sym (cond-false (eqb entry.0 row) entry.1 (word_at entries row) (ne_eqb entry.0 row (λ same. omega arith))) ∙ past row above),
    )

all_keys : (entries : List (ℕ × ℕ)) → AllByRecursion (λ key. 0 ≤ key) (keys_of entries)
all_keys [] = tt
all_keys (entry ∷ entries) = (zero-le, all_keys entries)

-- entries in the order of a map, with no word 0, whose words are the old ones except for one row
pub put_word_is : (size : ℕ) (old new : List (ℕ × ℕ)) (row word : ℕ) → row < size → AreWordsBelow size old → IsStrictlySortedBy nat_cmp (keys_of new) → has_no_zero new ≡ true → ((other : ℕ) → word_at new other ≡ put_word old row word other) → new ≡ words_of size (put_word old row word)
put_word_is size old new row word below are_words sorted none puts =
    let past : (other : ℕ) → size ≤ other → word_at new other ≡ 0 =
    λ other above. puts other
    ∙ cond-false (eqb row other) word (word_at old other) (ne_eqb row other (λ same. omega arith))
    ∙ ap (λ (ws : List (ℕ × ℕ)). word_at ws other) are_words
    ∙ word_at-past size (word_at old) other above in
    are_words_from_rows size new (rows_rise 0 size new sorted (all_keys new) none past) none
    ∙ words_of-agree size (word_at new) (put_word old row word) (λ other _. puts other)

-- a map that holds a word in one more row, or no more there, and what it held in the others
pub puts_from_updates : (old new : List (ℕ × ℕ)) (row word : ℕ) (held : Option ℕ) → unwrap_or held 0 ≡ word → ((other : ℕ) → lookup (is_at (nat_cmp other)) new ≡ cond (is_at (nat_cmp row) other) held (lookup (is_at (nat_cmp other)) old)) → (other : ℕ) → word_at new other ≡ put_word old row word other
puts_from_updates old new row word held is_word updates other =
    word_at-lookup new other
    ∙ ap (λ (found : Option ℕ). unwrap_or found 0) (updates other)
    ∙ ap (λ (here : Bool). unwrap_or (cond here held (lookup (is_at (nat_cmp other)) old)) 0) (is_eq-nat_cmp row other)
    ∙ elim (eqb row other) as (λ (here : Bool). unwrap_or (cond here held (lookup (is_at (nat_cmp other)) old)) 0 ≡ cond here word (word_at old other)) [
      | true ↦ is_word
      | false ↦ sym (word_at-lookup old other)
    ]

-- what an edit leaves passes a test of the words that the entries passed
list_all-remove_entry : (test at : ℕ → Bool) (words : List (ℕ × ℕ)) → list_all (λ entry. test entry.1) words ≡ true → list_all (λ entry. test entry.1) (remove_entry at words) ≡ true
list_all-remove_entry test at [] pass = refl
list_all-remove_entry test at (entry ∷ entries) pass =
    cond_both (at entry.0) entries (entry ∷ remove_entry at entries) (λ (ws : List (ℕ × ℕ)). list_all (λ e. test e.1) ws ≡ true)
    (λ _. (and_parts _ _ pass).1)
    (λ _. and_from _ _ (and_parts _ _ pass).0 (list_all-remove_entry test at entries (and_parts _ _ pass).1))

list_all-insert_entry : (test : ℕ → Bool) (row word : ℕ) (words : List (ℕ × ℕ)) → test word ≡ true → list_all (λ entry. test entry.1) words ≡ true → list_all (λ entry. test entry.1) (insert_entry nat_cmp words row word) ≡ true
list_all-insert_entry test row word [] passes pass = and_from _ _ passes refl
list_all-insert_entry test row word (entry ∷ entries) passes pass =
    elim (nat_cmp row entry.0) as (λ (order : Ordering). list_all (λ e. test e.1) (match_ordering order ((row, word) ∷ entry ∷ entries) ((entry.0, word) ∷ entries) (entry ∷ insert_entry nat_cmp entries row word)) ≡ true) [
      | Less ↦ and_from _ _ passes pass
      | Equal ↦ and_from _ _ passes (and_parts _ _ pass).1
      | Greater ↦ and_from _ _ (and_parts _ _ pass).0 (list_all-insert_entry test row word entries passes (and_parts _ _ pass).1)
    ]

-- no word is 0, and each is in range
pub edited_is_fine-remove : (at : ℕ → Bool) (words : List (ℕ × ℕ)) → (has_no_zero words ≡ true) × (are_words words ≡ true) → (has_no_zero (remove_entry at words) ≡ true) × (are_words (remove_entry at words) ≡ true)
edited_is_fine-remove at words fine =
    (list_all-remove_entry (λ word. not (eqb word 0)) at words fine.0, list_all-remove_entry (λ word. ltb word (2 ^ 32)) at words fine.1)

pub edited_is_fine-insert : (row word : ℕ) (words : List (ℕ × ℕ)) → (word ≡ 0 → ⊥) → word < 2 ^ 32 → (has_no_zero words ≡ true) × (are_words words ≡ true) → (has_no_zero (insert_entry nat_cmp words row word) ≡ true) × (are_words (insert_entry nat_cmp words row word) ≡ true)
edited_is_fine-insert row word words not_zero small fine = (
  list_all-insert_entry (λ w. not (eqb w 0)) row word words (not_from_false _ (ne_eqb word 0 not_zero)) fine.0,
  list_all-insert_entry (λ w. ltb w (2 ^ 32)) row word words (lt-ltb word (2 ^ 32) small) fine.1,
)
