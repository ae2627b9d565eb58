-- Words of a cell from a field on.
use Rattle.std.proofs.Common.{◌≡◌, ℕ, ◌+◌, ◌<◌, ◌≤◌, Bool, true, false, not, ◌||◌, ◌==◌, List, [], length, drop, sym, ap, ◌∙◌}
use Rattle.std.specs.Prelude.{slice_index, slice_index_or}
use Rattle.std.proofs.lemmas.List.{drop_more, drop_all}
use Rattle.sg_convert.specs.steps.Moving.{has_word_in}

word_more : (rows : List (List ℕ)) (place cell word : ℕ) → place < length rows → word ≡ slice_index (slice_index_or rows place []) cell
    → has_word_in (drop place rows) cell ≡ (not (word == 0) || has_word_in (drop (place + 1) rows) cell)
word_more rows place cell word below is =
    ap (λ (list : List (List ℕ)). has_word_in list cell) (drop_more rows place [] below)
    ∙ ap (λ (n : ℕ). not (n == 0) || has_word_in (drop (place + 1) rows) cell) (sym is)

-- a word that is 0 is passed, another one is found, and behind the last field there is none
pub word_passed : (rows : List (List ℕ)) (place cell word : ℕ) (whole : Bool) → place < length rows → word ≡ slice_index (slice_index_or rows place []) cell → not (word == 0) ≡ false
    → has_word_in (drop place rows) cell ≡ whole → has_word_in (drop (place + 1) rows) cell ≡ whole
word_passed rows place cell word whole below is none all =
    ap (λ (b : Bool). b || has_word_in (drop (place + 1) rows) cell) (sym none) ∙ sym (word_more rows place cell word below is) ∙ all

pub word_found : (rows : List (List ℕ)) (place cell word : ℕ) (whole : Bool) → place < length rows → word ≡ slice_index (slice_index_or rows place []) cell → not (word == 0) ≡ true
    → has_word_in (drop place rows) cell ≡ whole → true ≡ whole
word_found rows place cell word whole below is some all =
    ap (λ (b : Bool). b || has_word_in (drop (place + 1) rows) cell) (sym some) ∙ sym (word_more rows place cell word below is) ∙ all

pub no_word : (rows : List (List ℕ)) (place cell : ℕ) (whole : Bool) → length rows ≤ place → has_word_in (drop place rows) cell ≡ whole → false ≡ whole
no_word rows place cell whole past all = ap (λ (list : List (List ℕ)). has_word_in list cell) (sym (drop_all place rows past)) ∙ all
