-- Rows that end before their last cells, which are 0.
use Rattle.std.proofs.Common.{◌≡◌, ℕ, zero, suc, ◌+◌, ◌-◌, ◌<◌, ◌≤◌, List, [], ◌∷◌, ◌++◌, length, take, replicate, refl, sym, ap, ◌∙◌, arith, inl, inr}
use Rattle.std.specs.Prelude.{slice_index, slice_set}
use Rattle.std.proofs.lemmas.Bool.{cases_eq, cases_lt}
use Rattle.std.proofs.lemmas.List.{append-nil, length-append, length-replicate, length-set, length-take-le, get_or-set_same, get_or-set_other, get_or_append_left, get_or-append_right, get_or_past, set-append_left, take-append-le}
use Rattle.std.proofs.lemmas.Grind.{same_number_lists}
use Rattle.sg_store.specs.steps.Fresh.{IsZeroRow}
use Rattle.sg_store.specs.steps.Padded.{padded}

pub zeros_at : (n i : ℕ) → slice_index (replicate n 0) i ≡ 0
zeros_at zero i = refl
zeros_at (suc n) zero = refl
zeros_at (suc n) (suc i) = zeros_at n i

front_at : (n : ℕ) (row : List ℕ) (cell : ℕ) → cell < n → slice_index (take n row) cell ≡ slice_index row cell
front_at zero row cell below = absurd (omega (arith, below))
front_at (suc n) [] cell below = refl
front_at (suc n) (word ∷ row) zero below = refl
front_at (suc n) (word ∷ row) (suc cell) below = front_at n row cell (omega (arith, below))

-- there is a word for each cell
pub padded_long : (words : List ℕ) (cells : ℕ) → length words ≤ cells → length (padded words cells) ≡ cells
padded_long words cells few =
    let both : length (padded words cells) ≡ length words + length {A = ℕ} (replicate (cells - length words) 0) = length-append words (replicate (cells - length words) 0) in
    let rest : length {A = ℕ} (replicate (cells - length words) 0) ≡ cells - length words = length-replicate (cells - length words) 0 in
    omega (arith, few, both, rest)

-- past the words it is 0, as a word past the end of a list is
pub padded_at : (words : List ℕ) (cells cell : ℕ) → slice_index (padded words cells) cell ≡ slice_index words cell
padded_at words cells cell = elim (cases_lt cell (length words)) [
  | inl below ↦ get_or_append_left words (replicate (cells - length words) 0) 0 cell below
  | inr past ↦
      let low : length words ≤ cell = omega (arith, past) in
      get_or-append_right words (replicate (cells - length words) 0) (length words) cell 0 refl low
      ∙ zeros_at (cells - length words) (cell - length words) ∙ sym (get_or_past words cell 0 low)
]

-- a row with these words
same_padded : (row words : List ℕ) (cells : ℕ) → length words ≤ cells → length row ≡ cells → ((cell : ℕ) → cell < cells → slice_index row cell ≡ slice_index words cell) → row ≡ padded words cells
same_padded row words cells few long same =
    same_number_lists row (padded words cells) (long ∙ sym (padded_long words cells few))
    (λ cell below. same cell (omega (arith, below, long)) ∙ sym (padded_at words cells cell))

-- words for all cells
pub padded_whole : (words : List ℕ) (cells : ℕ) → cells ≡ length words → padded words cells ≡ words
padded_whole words cells same =
    let none : cells - length words ≡ 0 = omega (arith, same) in
    ap (λ n. words ++ replicate n 0) none ∙ append-nil words

pub padded_none : (words : List ℕ) (cells : ℕ) → words ≡ [] → padded words cells ≡ replicate cells 0
padded_none words cells none =
    let all : cells - 0 ≡ cells = omega arith in
    ap (λ (ws : List ℕ). padded ws cells) none ∙ ap (λ n. replicate n 0) all

pub none_zero : (words row : List ℕ) (cells : ℕ) → words ≡ [] → length row ≡ cells → IsZeroRow (length row) (padded words cells)
none_zero words row cells none long = record {
  long = ap length (padded_none words cells none) ∙ length-replicate cells 0 ∙ sym long;
  zero = λ cell. ap (λ (r : List ℕ). slice_index r cell) (padded_none words cells none) ∙ zeros_at cells cell;
}

-- ── Words that grow by zeros ──

grown_few : (words : List ℕ) (n cells : ℕ) → length words ≤ cells → n ≤ cells → length (padded words n) ≤ cells
grown_few words n cells few le =
    let both : length (padded words n) ≡ length words + length {A = ℕ} (replicate (n - length words) 0) = length-append words (replicate (n - length words) 0) in
    let rest : length {A = ℕ} (replicate (n - length words) 0) ≡ n - length words = length-replicate (n - length words) 0 in
    omega (arith, few, le, both, rest)

grown_within : (words : List ℕ) (n cell : ℕ) → cell < n → cell < length (padded words n)
grown_within words n cell below =
    let both : length (padded words n) ≡ length words + length {A = ℕ} (replicate (n - length words) 0) = length-append words (replicate (n - length words) 0) in
    let rest : length {A = ℕ} (replicate (n - length words) 0) ≡ n - length words = length-replicate (n - length words) 0 in
    omega (arith, below, both, rest)

grown_same : (words : List ℕ) (n cells : ℕ) → length words ≤ cells → n ≤ cells → padded (padded words n) cells ≡ padded words cells
grown_same words n cells few le =
    same_padded (padded (padded words n) cells) words cells few (padded_long (padded words n) cells (grown_few words n cells few le))
    (λ cell below. padded_at (padded words n) cells cell ∙ padded_at words n cell)

-- ── A word that is given ──

set_within : (words : List ℕ) (cells cell word : ℕ) → cell < length words → padded (slice_set words cell word) cells ≡ slice_set (padded words cells) cell word
set_within words cells cell word below =
    sym (set-append_left words (replicate (cells - length words) 0) cell word below
    ∙ ap (λ n. slice_set words cell word ++ replicate (cells - n) 0) (sym (length-set words cell word)))

set_zero : (words : List ℕ) (cells cell : ℕ) → length words ≤ cells → length words ≤ cell → padded words cells ≡ slice_set (padded words cells) cell 0
set_zero words cells cell few past =
    sym (same_padded (slice_set (padded words cells) cell 0) words cells few (length-set (padded words cells) cell 0 ∙ padded_long words cells few)
    (λ k below. elim (cases_eq k cell) [
      | inl same ↦
          let there : k < length (padded words cells) = omega (arith, below, padded_long words cells few) in
          ap (λ c. slice_index (slice_set (padded words cells) c 0) k) (sym same) ∙ get_or-set_same (padded words cells) k 0 0 there
          ∙ sym (get_or_past words k 0 (omega (arith, same, past)))
      | inr apart ↦ get_or-set_other (padded words cells) cell k 0 0 apart ∙ padded_at words cells k
    ]))

-- ── As the code goes, where `row` is what contracts see ──

pub cells_are : (words row : List ℕ) (cells : ℕ) → padded words cells ≡ row → length words ≤ cells → cells ≡ length row
cells_are words row cells view few = sym (padded_long words cells few) ∙ ap length view

pub word_is : (words row : List ℕ) (cells cell : ℕ) → padded words cells ≡ row → slice_index words cell ≡ slice_index row cell
word_is words row cells cell view = sym (padded_at words cells cell) ∙ ap (λ (r : List ℕ). slice_index r cell) view

pub word_past : (words row : List ℕ) (cells cell : ℕ) → padded words cells ≡ row → length words ≤ cell → 0 ≡ slice_index row cell
word_past words row cells cell view past = sym (get_or_past words cell 0 past) ∙ word_is words row cells cell view

pub given_zero : (words row : List ℕ) (cells cell word : ℕ) → padded words cells ≡ row → length words ≤ cells → length words ≤ cell → word ≡ 0 → row ≡ slice_set row cell word
given_zero words row cells cell word view few past none =
    sym view ∙ set_zero words cells cell few past ∙ ap (λ (r : List ℕ). slice_set r cell 0) view ∙ ap (slice_set row cell) (sym none)

-- words that have grown past a cell, and then the cell's word
pub given : (words row more now : List ℕ) (cells cell word : ℕ) → padded words cells ≡ row → length words ≤ cells → cell < cells → more ≡ padded words (cell + 1) → now ≡ slice_set more cell word → padded now cells ≡ slice_set row cell word
given words row more now cells cell word view few there made is =
    let next : cell + 1 ≤ cells = omega (arith, there) in
    ap (λ (ws : List ℕ). padded ws cells) (is ∙ ap (λ (ws : List ℕ). slice_set ws cell word) made)
    ∙ set_within (padded words (cell + 1)) cells cell word (grown_within words (cell + 1) cell (omega arith))
    ∙ ap (λ (r : List ℕ). slice_set r cell word) (grown_same words (cell + 1) cells few next ∙ view)

pub stands : (words row more : List ℕ) (cells n : ℕ) → padded words cells ≡ row → length words ≤ cells → n ≤ cells → more ≡ padded words n → padded more cells ≡ row
stands words row more cells n view few le made = ap (λ (ws : List ℕ). padded ws cells) made ∙ grown_same words n cells few le ∙ view

-- what has grown still has its room
pub room_left : (words more : List ℕ) (cells n : ℕ) → length words ≤ cells → n ≤ cells → more ≡ padded words n → length more ≤ cells
room_left words more cells n few le made = omega (arith, ap length made, grown_few words n cells few le)

-- the first words
pub lent : (words row front : List ℕ) (cells n : ℕ) → padded words cells ≡ row → n ≤ length words → front ≡ take n words → front ≡ take n row
lent words row front cells n view le is =
    is ∙ sym (take-append-le n words (replicate (cells - length words) 0) le) ∙ ap (take n) view

pub made : (words row front : List ℕ) (cells n : ℕ) → padded words cells ≡ row → length words ≤ n → n ≤ cells → front ≡ padded words n → front ≡ take n row
made words row front cells n view few le is =
    let long : length (padded words cells) ≡ cells = padded_long words cells (omega (arith, few, le)) in
    is ∙ sym (same_padded (take n (padded words cells)) words n few (length-take-le n (padded words cells) (omega (arith, le, long)))
    (λ k below. front_at n (padded words cells) k below ∙ padded_at words cells k)) ∙ ap (take n) view
