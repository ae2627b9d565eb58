-- Words that are kept by pages: what a write changes, and that there is room for it.
use Rattle.std.proofs.Common.{◌≡◌, ◌≢◌, ℕ, zero, suc, ◌+◌, ◌-◌, ◌*◌, ◌/◌, ◌%◌, ◌<◌, ◌≤◌, List, [], ◌∷◌, ◌++◌, length, replicate, refl, sym, ap, ◌∙◌, subst, arith, inl, inr}
use Rattle.std.specs.Prelude.{slice_index, slice_set}
use Rattle.std.proofs.lemmas.Bool.{cases_eq, cases_lt}
use Rattle.std.proofs.lemmas.List.{length-append, length-replicate, length-set, get_or-set_same, get_or-set_other, get_or_append_left, get_or-append_right, get_or_past}
use Rattle.std.proofs.lemmas.List.FromFn.{length-map-range_with_len, get_or-map-range_with_len}
use Rattle.std.proofs.lemmas.Grind.{same_number_lists}
use Rattle.sg_hash.specs.steps.Paging.{paged, paged_word, stood, filled_up, ArePages, IsKept}

-- ── How many pages stand ──

pub stood_few : (pages : List ℕ) → stood pages ≤ length pages
stood_few [] = omega arith
stood_few (zero ∷ pages) = omega (arith, stood_few pages)
stood_few (suc page ∷ pages) = omega (arith, stood_few pages)

none_stand : (n : ℕ) → stood (replicate n 0) ≡ 0
none_stand zero = refl
none_stand (suc n) = none_stand n

stood_more : (pages : List ℕ) (n : ℕ) → stood (pages ++ replicate n 0) ≡ stood pages
stood_more [] n = none_stand n
stood_more (zero ∷ pages) n = stood_more pages n
stood_more (suc page ∷ pages) n = ap suc (stood_more pages n)

stood_set : (pages : List ℕ) (index page : ℕ) → index < length pages → slice_index pages index ≡ 0 → stood (slice_set pages index (suc page)) ≡ suc (stood pages)
stood_set [] index page below none = absurd (omega (arith, below))
stood_set (zero ∷ pages) zero page below none = refl
stood_set (suc other ∷ pages) zero page below none = absurd (omega (arith, none))
stood_set (zero ∷ pages) (suc index) page below none = stood_set pages index page (omega (arith, below)) none
stood_set (suc other ∷ pages) (suc index) page below none = ap suc (stood_set pages index page (omega (arith, below)) none)

-- ── Lists that are filled up with zeros ──

zeros_at : (n i : ℕ) → slice_index (replicate n 0) i ≡ 0
zeros_at zero i = refl
zeros_at (suc n) zero = refl
zeros_at (suc n) (suc i) = zeros_at n i

pub filled_at : (items : List ℕ) (many i : ℕ) → slice_index (filled_up items many 0) i ≡ slice_index items i
filled_at items many i = elim (cases_lt i (length items)) [
  | inl below ↦ get_or_append_left items (replicate (many - length items) 0) 0 i below
  | inr past ↦
      let low : length items ≤ i = omega (arith, past) in
      get_or-append_right items (replicate (many - length items) 0) (length items) i 0 refl low
      ∙ zeros_at (many - length items) (i - length items) ∙ sym (get_or_past items i 0 low)
]

filled_long : (items : List ℕ) (many : ℕ) → length (filled_up items many 0) ≡ length items + (many - length items)
filled_long items many =
    let both : length (filled_up items many 0) ≡ length items + length {A = ℕ} (replicate (many - length items) 0) = length-append items (replicate (many - length items) 0) in
    let rest : length {A = ℕ} (replicate (many - length items) 0) ≡ many - length items = length-replicate (many - length items) 0 in
    omega (arith, both, rest)

-- ── Words by places ──

pub paged_long : (words pages : List ℕ) (places : ℕ) → length (paged words pages places) ≡ places
paged_long words pages places = length-map-range_with_len (paged_word words pages) 0 places

pub paged_at : (words pages : List ℕ) (places place : ℕ) → place < places → slice_index (paged words pages places) place ≡ paged_word words pages place
paged_at words pages places place below = get_or-map-range_with_len (paged_word words pages) 0 places place place 0 below (omega arith)

pub paged_past : (words pages : List ℕ) (places place : ℕ) → places ≤ place → slice_index (paged words pages places) place ≡ 0
paged_past words pages places place past = get_or_past (paged words pages places) place 0 (omega (arith, past, paged_long words pages places))

-- rows of the same words
pub same_paged : (row words pages : List ℕ) (places : ℕ) → length row ≡ places → ((place : ℕ) → place < places → slice_index row place ≡ paged_word words pages place) → row ≡ paged words pages places
same_paged row words pages places long same =
    same_number_lists row (paged words pages places) (long ∙ sym (paged_long words pages places))
    (λ place below. same place (omega (arith, below, long)) ∙ sym (paged_at words pages places place (omega (arith, below, long))))

-- a place's word is within the words
pub word_within : (words pages : List ℕ) (places place : ℕ) → ArePages words pages places → 64 * slice_index pages (place / 64) + place % 64 < length words
word_within words pages places place are =
    let page : ℕ = slice_index pages (place / 64) in
    let within : page ≤ stood pages = are.within (place / 64) in
    let long : length words ≡ 64 * (stood pages + 1) = are.long in
    omega (arith, within, long)

-- where the page doesn't stand the word is 0
pub word_none : (words pages : List ℕ) (places place : ℕ) → ArePages words pages places → slice_index pages (place / 64) ≡ 0 → paged_word words pages place ≡ 0
word_none words pages places place are none =
    let low : place % 64 < 64 = omega arith in
    let at : 64 * slice_index pages (place / 64) + place % 64 ≡ place % 64 = omega (arith, none) in
    ap (slice_index words) at ∙ are.zeros (place % 64) low

-- ── A row of zeros ──

pub no_pages : (words : List ℕ) (places : ℕ) → words ≡ replicate 64 0 → ArePages words [] places
no_pages words places is = record {
  many = omega arith;
  long = ap length is ∙ length-replicate {A = ℕ} 64 0;
  within = λ page. omega arith;
  once = λ x y some same. absurd (some refl);
  zeros = λ at low. ap (λ (ws : List ℕ). slice_index ws at) is ∙ zeros_at 64 at;
}

pub no_words : (words : List ℕ) (places : ℕ) → words ≡ replicate 64 0 → paged words [] places ≡ replicate places 0
no_words words places is =
    sym (same_paged (replicate places 0) words [] places (length-replicate places 0)
    (λ place below. zeros_at places place ∙ sym (word_none words [] places place (no_pages words places is) refl)))

-- ── A word in a page that stands ──

same_place : (p q : ℕ) → p / 64 ≡ q / 64 → p % 64 ≡ q % 64 → p ≡ q
same_place p q pages rests = omega (arith, pages, rests)

same_spot : (d e r s : ℕ) → r < 64 → s < 64 → 64 * d + r ≡ 64 * e + s → (d ≡ e) × (r ≡ s)
same_spot d e r s low also same = (omega (arith, low, also, same), omega (arith, low, also, same))

pub written_pages : (words pages now : List ℕ) (places place word : ℕ) → ArePages words pages places → slice_index pages (place / 64) ≢ 0 → now ≡ slice_set words (64 * slice_index pages (place / 64) + place % 64) word → ArePages now pages places
written_pages words pages now places place word are some is = record {
  many = are.many;
  long = ap length is ∙ length-set words (64 * slice_index pages (place / 64) + place % 64) word ∙ are.long;
  within = are.within;
  once = are.once;
  zeros = λ at low.
      let apart : at ≢ 64 * slice_index pages (place / 64) + place % 64 = λ e. absurd (omega (arith, e, low, some)) in
      ap (λ (ws : List ℕ). slice_index ws at) is
      ∙ get_or-set_other words (64 * slice_index pages (place / 64) + place % 64) at word 0 apart ∙ are.zeros at low;
}

pub written : (words pages now row : List ℕ) (places place word : ℕ) → ArePages words pages places → slice_index pages (place / 64) ≢ 0 → paged words pages places ≡ row → now ≡ slice_set words (64 * slice_index pages (place / 64) + place % 64) word → place < length row → paged now pages places ≡ slice_set row place word
written words pages now row places place word are some view is there =
    let long : length row ≡ places = ap length (sym view) ∙ paged_long words pages places in
    sym (same_paged (slice_set row place word) now pages places (length-set row place word ∙ long) each)
  where
    spot : ℕ
    spot = 64 * slice_index pages (place / 64) + place % 64

    old : (q : ℕ) → q < places → slice_index row q ≡ paged_word words pages q
    old q below = ap (λ (r : List ℕ). slice_index r q) (sym view) ∙ paged_at words pages places q below

    each : (q : ℕ) → q < places → slice_index (slice_set row place word) q ≡ paged_word now pages q
    each q below = elim (cases_eq q place) [
      | inl same ↦
          ap (λ p. slice_index (slice_set row p word) q) (sym same) ∙ get_or-set_same row q word 0 (subst (λ p. p < length row) (sym same) there)
          ∙ sym (ap (paged_word now pages) same ∙ ap (λ (ws : List ℕ). slice_index ws spot) is
          ∙ get_or-set_same words spot word 0 (word_within words pages places place are))
      | inr apart ↦
          let other : 64 * slice_index pages (q / 64) + q % 64 ≢ spot = λ e.
          let low : q % 64 < 64 = omega arith in
          let low_too : place % 64 < 64 = omega arith in
          let both = same_spot (slice_index pages (q / 64)) (slice_index pages (place / 64)) (q % 64) (place % 64) low low_too e in
          absurd (apart (same_place q place (sym (are.once (place / 64) (q / 64) some (sym both.0))) both.1)) in
          get_or-set_other row place q word 0 apart ∙ old q below
          ∙ sym (ap (λ (ws : List ℕ). slice_index ws (64 * slice_index pages (q / 64) + q % 64)) is
          ∙ get_or-set_other words spot (64 * slice_index pages (q / 64) + q % 64) word 0 other)
    ]

-- ── A 0 where no page stands ──

pub left_zero : (words pages row : List ℕ) (places place word : ℕ) → ArePages words pages places → slice_index pages (place / 64) ≡ 0 → word ≡ 0 → paged words pages places ≡ row → row ≡ slice_set row place word
left_zero words pages row places place word are none zero_is view =
    same_number_lists row (slice_set row place word) (sym (length-set row place word))
    (λ q below. elim (cases_eq q place) [
      | inl same ↦
          let long : length row ≡ places = ap length (sym view) ∙ paged_long words pages places in
          let inside : q < places = omega (arith, below, long) in
          let nothing : slice_index pages (q / 64) ≡ 0 = ap (λ p. slice_index pages (p / 64)) same ∙ none in
          ap (λ (r : List ℕ). slice_index r q) (sym view) ∙ paged_at words pages places q inside
          ∙ word_none words pages places q are nothing ∙ sym zero_is
          ∙ sym (ap (λ p. slice_index (slice_set row p word) q) (sym same) ∙ get_or-set_same row q word 0 below)
      | inr apart ↦ sym (get_or-set_other row place q word 0 apart)
    ])

-- ── A page more ──

-- the pages and words after a page was given to a place
abbrev pub pages_after : List ℕ → List ℕ → ℕ → List ℕ
pages_after words pages place = slice_set (filled_up pages (place / 64 + 1) 0) (place / 64) (length words / 64)

abbrev pub words_after : List ℕ → ℕ → ℕ → List ℕ
words_after words place word = slice_set (filled_up words (length words + 64) 0) (length words + place % 64) word

next_number : (words pages : List ℕ) (places : ℕ) → ArePages words pages places → length words / 64 ≡ suc (stood pages)
next_number words pages places are = let long : length words ≡ 64 * (stood pages + 1) = are.long in omega (arith, long)

here_within : (pages : List ℕ) (index : ℕ) → index < length (filled_up pages (index + 1) 0)
here_within pages index = omega (arith, filled_long pages (index + 1))

-- the number of the given page, and those of the others
page_here : (words pages : List ℕ) (places place : ℕ) → ArePages words pages places → slice_index (pages_after words pages place) (place / 64) ≡ suc (stood pages)
page_here words pages places place are =
    get_or-set_same (filled_up pages (place / 64 + 1) 0) (place / 64) (length words / 64) 0 (here_within pages (place / 64)) ∙ next_number words pages places are

page_there : (words pages : List ℕ) (place index : ℕ) → index ≢ place / 64 → slice_index (pages_after words pages place) index ≡ slice_index pages index
page_there words pages place index apart =
    get_or-set_other (filled_up pages (place / 64 + 1) 0) (place / 64) index (length words / 64) 0 apart ∙ filled_at pages (place / 64 + 1) index

stood_after : (words pages : List ℕ) (places place : ℕ) → ArePages words pages places → slice_index pages (place / 64) ≡ 0 → stood (pages_after words pages place) ≡ suc (stood pages)
stood_after words pages places place are none =
    let more : List ℕ = filled_up pages (place / 64 + 1) 0 in
    ap (λ n. stood (slice_set more (place / 64) n)) (next_number words pages places are)
    ∙ stood_set more (place / 64) (stood pages) (here_within pages (place / 64)) (filled_at pages (place / 64 + 1) (place / 64) ∙ none)
    ∙ ap suc (stood_more pages (place / 64 + 1 - length pages))

words_long : (words : List ℕ) (place word : ℕ) → length (words_after words place word) ≡ length words + 64
words_long words place word =
    let set : length (words_after words place word) ≡ length (filled_up words (length words + 64) 0) = length-set (filled_up words (length words + 64) 0) (length words + place % 64) word in
    omega (arith, set, filled_long words (length words + 64))

-- a word of the pages that stood, or another of the new page
word_stays : (words : List ℕ) (place word at : ℕ) → at ≢ length words + place % 64 → slice_index (words_after words place word) at ≡ slice_index words at
word_stays words place word at apart =
    get_or-set_other (filled_up words (length words + 64) 0) (length words + place % 64) at word 0 apart ∙ filled_at words (length words + 64) at

pub given_pages : (words pages : List ℕ) (places place word : ℕ) → ArePages words pages places → slice_index pages (place / 64) ≡ 0 → place < places → ArePages (words_after words place word) (pages_after words pages place) places
given_pages words pages places place word are none there = record {
  many =
      let set : length (pages_after words pages place) ≡ length (filled_up pages (place / 64 + 1) 0) = length-set (filled_up pages (place / 64 + 1) 0) (place / 64) (length words / 64) in
      let few : length pages ≤ places / 64 + 1 = are.many in
      let index : place / 64 ≤ places / 64 = omega (arith, there) in
      omega (arith, set, filled_long pages (place / 64 + 1), few, index);
  long =
      let long : length words ≡ 64 * (stood pages + 1) = are.long in
      omega (arith, words_long words place word, stood_after words pages places place are none, long);
  within = λ index. elim (cases_eq index (place / 64)) [
    | inl same ↦ omega (arith, ap (slice_index (pages_after words pages place)) same, page_here words pages places place are, stood_after words pages places place are none)
    | inr apart ↦ omega (arith, page_there words pages place index apart, are.within index, stood_after words pages places place are none)
  ];
  once = λ x y some same. elim (cases_eq x (place / 64)) [
    | inl x_is ↦ elim (cases_eq y (place / 64)) [
      | inl y_is ↦ x_is ∙ sym y_is
      | inr y_not ↦ absurd (omega (
        arith,
        same,
        ap (slice_index (pages_after words pages place)) x_is,
        page_here words pages places place are,
        page_there words pages place y y_not,
        are.within y,
      ))
    ]
    | inr x_not ↦ elim (cases_eq y (place / 64)) [
      | inl y_is ↦ absurd (omega (
        arith,
        same,
        ap (slice_index (pages_after words pages place)) y_is,
        page_here words pages places place are,
        page_there words pages place x x_not,
        are.within x,
      ))
      | inr y_not ↦ are.once x y (λ e. some (page_there words pages place x x_not ∙ e)) (sym (page_there words pages place x x_not) ∙ same ∙ page_there words pages place y y_not)
    ]
  ];
  zeros = λ at low.
      let long : length words ≡ 64 * (stood pages + 1) = are.long in
      word_stays words place word at (λ e. absurd (omega (arith, e, low, long))) ∙ are.zeros at low;
}

pub given : (words pages row : List ℕ) (places place word : ℕ) → ArePages words pages places → slice_index pages (place / 64) ≡ 0 → paged words pages places ≡ row → place < length row → paged (words_after words place word) (pages_after words pages place) places ≡ slice_set row place word
given words pages row places place word are none view there =
    let long : length row ≡ places = ap length (sym view) ∙ paged_long words pages places in
    sym (same_paged (slice_set row place word) (words_after words place word) (pages_after words pages place) places (length-set row place word ∙ long) each)
  where
    now : List ℕ
    now = words_after words place word

    then_pages : List ℕ
    then_pages = pages_after words pages place

    spot : ℕ
    spot = length words + place % 64

    words_are : length words ≡ 64 * (stood pages + 1)
    words_are = are.long

    inside : spot < length (filled_up words (length words + 64) 0)
    inside = omega (arith, filled_long words (length words + 64))

    old : (q : ℕ) → q < places → slice_index row q ≡ paged_word words pages q
    old q below = ap (λ (r : List ℕ). slice_index r q) (sym view) ∙ paged_at words pages places q below

    -- where a place of the new page stands
    new_spot : (q : ℕ) → q / 64 ≡ place / 64 → 64 * slice_index then_pages (q / 64) + q % 64 ≡ length words + q % 64
    new_spot q same =
        let page : slice_index then_pages (q / 64) ≡ suc (stood pages) = ap (slice_index then_pages) same ∙ page_here words pages places place are in
        omega (arith, page, words_are)

    each : (q : ℕ) → q < places → slice_index (slice_set row place word) q ≡ paged_word now then_pages q
    each q below = elim (cases_eq q place) [
      | inl same ↦
          ap (λ p. slice_index (slice_set row p word) q) (sym same) ∙ get_or-set_same row q word 0 (subst (λ p. p < length row) (sym same) there)
          ∙ sym (ap (paged_word now then_pages) same ∙ ap (slice_index now) (new_spot place refl)
          ∙ get_or-set_same (filled_up words (length words + 64) 0) spot word 0 inside)
      | inr apart ↦ get_or-set_other row place q word 0 apart ∙ old q below ∙ elim (cases_eq (q / 64) (place / 64)) [
        | inl here ↦
            let other : length words + q % 64 ≢ spot = λ e. absurd (apart (same_place q place here (omega (arith, e)))) in
            let nothing : slice_index pages (q / 64) ≡ 0 = ap (slice_index pages) here ∙ none in
            word_none words pages places q are nothing
            ∙ sym (ap (slice_index now) (new_spot q here) ∙ word_stays words place word (length words + q % 64) other
            ∙ get_or_past words (length words + q % 64) 0 (omega arith))
        | inr elsewhere ↦
            let page : slice_index then_pages (q / 64) ≡ slice_index pages (q / 64) = page_there words pages place (q / 64) elsewhere in
            let at : 64 * slice_index then_pages (q / 64) + q % 64 ≡ 64 * slice_index pages (q / 64) + q % 64 = ap (λ d. 64 * d + q % 64) page in
            let low : 64 * slice_index pages (q / 64) + q % 64 < length words = word_within words pages places q are in
            let other : 64 * slice_index pages (q / 64) + q % 64 ≢ spot = λ e. absurd (omega (arith, e, low)) in
            sym (ap (slice_index now) at ∙ word_stays words place word (64 * slice_index pages (q / 64) + q % 64) other)
      ]
    ]

-- ── Room ──

-- there is room for all pages
pub words_fit : (words pages : List ℕ) (places room : ℕ) → ArePages words pages places → 64 * (places / 64 + 2) ≤ room → length words ≤ room
words_fit words pages places room are enough =
    let long : length words ≡ 64 * (stood pages + 1) = are.long in
    let few : length pages ≤ places / 64 + 1 = are.many in
    omega (arith, stood_few pages, long, few, enough)

-- and for one page more, if one doesn't stand
pub page_fits : (words pages : List ℕ) (places place room : ℕ) → ArePages words pages places → slice_index pages (place / 64) ≡ 0 → place < places → 64 * (places / 64 + 2) ≤ room → length words + 64 ≤ room
page_fits words pages places place room are none there enough =
    let after = given_pages words pages places place 0 are none there in
    omega (arith, words_fit (words_after words place 0) (pages_after words pages place) places room after enough, words_long words place 0)

-- ── The next place in use ──

-- the places of a page that doesn't stand
pub page_none : (words pages row : List ℕ) (places place other : ℕ) → ArePages words pages places → paged words pages places ≡ row → slice_index pages (place / 64) ≡ 0 → place ≤ other → other < place - place % 64 + 64 → slice_index row other ≡ 0
page_none words pages row places place other are view none low high = ap (λ (r : List ℕ). slice_index r other) (sym view) ∙ elim (cases_lt other places) [
  | inl below ↦
      let same : other / 64 ≡ place / 64 = omega (arith, low, high) in
      paged_at words pages places other below ∙ word_none words pages places other are (ap (slice_index pages) same ∙ none)
  | inr past ↦ paged_past words pages places other (omega (arith, past))
]

-- the places after the last page that stands
pub past_pages : (words pages row : List ℕ) (places place : ℕ) → ArePages words pages places → paged words pages places ≡ row → 64 * length pages ≤ place → slice_index row place ≡ 0
past_pages words pages row places place are view past =
    let beyond : length pages ≤ place / 64 = omega (arith, past) in
    page_none words pages row places place place are view (get_or_past pages (place / 64) 0 beyond) (omega arith) (omega arith)

-- ── As the code goes, where `row` is what contracts see ──

pub places_are : (words pages row : List ℕ) (places : ℕ) → paged words pages places ≡ row → places ≡ length row
places_are words pages row places view = sym (paged_long words pages places) ∙ ap length view

pub word_is : (words pages row : List ℕ) (places place word : ℕ) → paged words pages places ≡ row → place < places → word ≡ paged_word words pages place → word ≡ slice_index row place
word_is words pages row places place word view there is = is ∙ sym (paged_at words pages places place there) ∙ ap (λ (r : List ℕ). slice_index r place) view

pub word_past : (words pages row : List ℕ) (places place : ℕ) → paged words pages places ≡ row → places ≤ place → 0 ≡ slice_index row place
word_past words pages row places place view past = sym (paged_past words pages places place past) ∙ ap (λ (r : List ℕ). slice_index r place) view

pub zeros_are : (first words pages : List ℕ) (places : ℕ) → first ≡ [] → words ≡ filled_up first 64 0 → pages ≡ [] → paged words pages places ≡ replicate places 0
zeros_are first words pages places none is no_page =
    let zeros : words ≡ replicate 64 0 = is ∙ ap (λ (items : List ℕ). filled_up items 64 0) none in
    ap (λ (ps : List ℕ). paged words ps places) no_page ∙ no_words words places zeros

pub page_room : (words pages row : List ℕ) (places place a b : ℕ) → paged words pages places ≡ row → IsKept words pages places a b → slice_index pages (place / 64) ≡ 0 → place < length row → (length words + 64 ≤ a) × (place / 64 + 1 ≤ b)
page_room words pages row places place a b view kept none there =
    let inside : place < places = omega (arith, there, places_are words pages row places view) in
    let index : place / 64 ≤ places / 64 = omega (arith, inside) in
    (page_fits words pages places place a kept.0 none inside kept.1, omega (arith, index, kept.2))

pub given_kept : (words pages now then_pages row : List ℕ) (places place word a b c d : ℕ) → paged words pages places ≡ row → IsKept words pages places a b → slice_index pages (place / 64) ≡ 0 → place < length row
    → now ≡ words_after words place word → then_pages ≡ pages_after words pages place → a ≤ c → b ≤ d → IsKept now then_pages places c d
given_kept words pages now then_pages row places place word a b c d view kept none there words_are pages_are more further =
    let inside : place < places = omega (arith, there, places_are words pages row places view) in (
      subst (λ (ws : List ℕ). ArePages ws then_pages places) (sym words_are)
          (subst (λ (ps : List ℕ). ArePages (words_after words place word) ps places) (sym pages_are) (given_pages words pages places place word kept.0 none inside)),
      omega (arith, kept.1, more),
      omega (arith, kept.2, further),
      kept.3,
    )

pub given_row : (words pages now then_pages row : List ℕ) (places place word a b : ℕ) → paged words pages places ≡ row → IsKept words pages places a b → slice_index pages (place / 64) ≡ 0 → place < length row
    → now ≡ words_after words place word → then_pages ≡ pages_after words pages place → paged now then_pages places ≡ slice_set row place word
given_row words pages now then_pages row places place word a b view kept none there words_are pages_are =
    ap (λ (ws : List ℕ). paged ws then_pages places) words_are ∙ ap (λ (ps : List ℕ). paged (words_after words place word) ps places) pages_are
    ∙ given words pages row places place word kept.0 none view there

-- a row that becomes like another has its words and pages
pub like_fits : (words pages row more others other : List ℕ) (places many a b c d : ℕ) → paged words pages places ≡ row → IsKept words pages places a b → paged more others many ≡ other → IsKept more others many c d → length other ≡ length row → (length more ≤ a) × (length others ≤ b) × (many ≡ places)
like_fits words pages row more others other places many a b c d view kept other_view other_kept long =
    let same : many ≡ places = places_are more others other many other_view ∙ long ∙ sym (places_are words pages row places view) in
    let enough : 64 * (many / 64 + 2) ≤ a = subst (λ n. 64 * (n / 64 + 2) ≤ a) (sym same) kept.1 in
    let pages_enough : many / 64 + 1 ≤ b = subst (λ n. n / 64 + 1 ≤ b) (sym same) kept.2 in
    let few : length others ≤ many / 64 + 1 = other_kept.0.many in
    (words_fit more others many a other_kept.0 enough, omega (arith, few, pages_enough), same)

pub like_kept : (words pages more others now then_pages : List ℕ) (places many a b c d e f : ℕ) → IsKept words pages places a b → IsKept more others many c d → many ≡ places → now ≡ more → then_pages ≡ others → a ≤ e → b ≤ f → IsKept now then_pages places e f
like_kept words pages more others now then_pages places many a b c d e f kept other_kept same words_are pages_are more_room pages_room = (
  subst (λ (ws : List ℕ). ArePages ws then_pages places) (sym words_are)
      (subst (λ (ps : List ℕ). ArePages more ps places) (sym pages_are) (subst (ArePages more others) same other_kept.0)),
  omega (arith, kept.1, more_room),
  omega (arith, kept.2, pages_room),
  kept.3,
)
