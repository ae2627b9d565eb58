-- What is done with the words of a row that are in use is done with all of them: those between are 0.
use Rattle.std.proofs.Common.{◌≡◌, ◌≢◌, ℕ, zero, suc, ◌+◌, ◌-◌, ◌<◌, ◌≤◌, Bool, cond, List, ◌∷◌, [], ◌++◌, length, replicate, take, refl, sym, ap, ◌∙◌, subst, arith, inl, inr}
use Rattle.std.specs.Prelude.{slice_index, slice_set, nat_lt}
use Rattle.std.proofs.lemmas.Bool.{cases_eq, cases_lt}
use Rattle.std.proofs.lemmas.List.{get_or_past, length-set, length-replicate, get_or-set_same, get_or-set_other, take_more, take_all, append-nil}
use Rattle.sg_pool.specs.Numbers.{PoolNumbers}
use Rattle.sg_store.specs.steps.Cuts.{IsCutThrough}
use Rattle.sg_store.specs.steps.KeptTables.{IsOldTable, IsKeptSoFar}
use Rattle.sg_store.specs.steps.KeptWords.{in_row, kept_link, AreKeptLinks}
use Rattle.sg_store.specs.steps.Noting.{HeldSoFar}
use Rattle.sg_store.specs.steps.Sorting.{keys_in}
use Rattle.sg_store.proofs.PlansTrimmed.{below_true, past_false}
use Rattle.sg_store.proofs.TablesKept.{idle_place}
use Rattle.sg_store.proofs.SortedKeys.{no_key, keys_more}

-- the words from one place up to another are 0
abbrev pub AreUnused : List ℕ → ℕ → ℕ → Type 0
AreUnused words from to = (place : ℕ) → from ≤ place → place < to → slice_index words place ≡ 0

-- and all from one place on
abbrev pub EndsAt : List ℕ → ℕ → Type 0
EndsAt words from = (place : ℕ) → from ≤ place → slice_index words place ≡ 0

some_before : (words : List ℕ) (from place number : ℕ) → EndsAt words from → slice_index words place ≡ suc number → place < from
some_before words from place number ends is = elim (cases_lt place from) [
  | inl below ↦ below
  | inr past ↦ absurd (let none : slice_index words place ≡ 0 = ends place (omega (arith, past)) in omega (arith, none, is))
]

-- ── Links that are kept ──

zeros_at : (n i : ℕ) → slice_index (replicate n 0) i ≡ 0
zeros_at zero i = refl
zeros_at (suc n) zero = refl
zeros_at (suc n) (suc i) = zeros_at n i

-- none is kept at first
pub kept_none : (links kept : List ℕ) (row : List Bool) → kept ≡ replicate (length links) 0 → AreKeptLinks links kept row 0
kept_none links kept row is = record {
  as_many = ap length is ∙ length-replicate (length links) 0;
  each = λ slot.
      ap (λ (r : List ℕ). slice_index r slot) is ∙ zeros_at (length links) slot
      ∙ sym (ap (λ b. cond b (kept_link (in_row row) (slice_index links slot)) 0) (past_false slot 0 (omega arith)));
}

pub kept_next : (links kept new : List ℕ) (row : List Bool) (from next word : ℕ) → from ≤ next → next < length links → AreUnused links from next → new ≡ slice_set kept next word → word ≡ kept_link (in_row row) (slice_index links next) → AreKeptLinks links kept row from → AreKeptLinks links new row (next + 1)
kept_next links kept new row from next word low there unused is word_is are = record {
  as_many = ap length is ∙ length-set kept next word ∙ are.as_many;
  each = each;
}
  where
    -- what a link comes to where the first so many are kept
    now : ℕ → Bool → ℕ
    now slot done = cond done (kept_link (in_row row) (slice_index links slot)) 0

    stays : (slot : ℕ) → slot ≢ next → slice_index new slot ≡ slice_index kept slot
    stays slot apart = ap (λ (r : List ℕ). slice_index r slot) is ∙ get_or-set_other kept next slot word 0 apart

    each : (slot : ℕ) → slice_index new slot ≡ cond (nat_lt slot (next + 1)) (kept_link (in_row row) (slice_index links slot)) 0
    each slot = elim (cases_eq slot next) [
      | inl same ↦
          ap (slice_index new) same ∙ ap (λ (r : List ℕ). slice_index r next) is
          ∙ get_or-set_same kept next word 0 (omega (arith, there, are.as_many))
          ∙ word_is ∙ ap (λ s. kept_link (in_row row) (slice_index links s)) (sym same)
          ∙ sym (ap (now slot) (below_true slot (next + 1) (omega (arith, same))))
      | inr apart ↦ stays slot apart ∙ are.each slot ∙ elim (cases_lt slot from) [
        | inl before ↦ ap (now slot) (below_true slot from before ∙ sym (below_true slot (next + 1) (omega (arith, before, low))))
        | inr past ↦
            let beyond : from ≤ slot = omega (arith, past) in
            ap (now slot) (past_false slot from beyond) ∙ elim (cases_lt slot next) [
              | inl between ↦
                  let none : slice_index links slot ≡ 0 = unused slot beyond between in
                  sym (ap (now slot) (below_true slot (next + 1) (omega (arith, between))) ∙ ap (kept_link (in_row row)) none)
              | inr further ↦ sym (ap (now slot) (past_false slot (next + 1) (omega (arith, further, apart))))
            ]
      ]
    ]

pub kept_all : (links kept : List ℕ) (row : List Bool) (through : ℕ) → EndsAt links through → AreKeptLinks links kept row through → AreKeptLinks links kept row (length links)
kept_all links kept row through ends are = record { as_many = are.as_many; each = each }
  where
    now : ℕ → Bool → ℕ
    now slot done = cond done (kept_link (in_row row) (slice_index links slot)) 0

    all : (slot : ℕ) → slice_index kept slot ≡ kept_link (in_row row) (slice_index links slot)
    all slot = are.each slot ∙ elim (cases_lt slot through) [
      | inl below ↦ ap (now slot) (below_true slot through below)
      | inr past ↦
          let low : through ≤ slot = omega (arith, past) in
          ap (now slot) (past_false slot through low) ∙ sym (ap (kept_link (in_row row)) (ends slot low))
    ]

    each : (slot : ℕ) → slice_index kept slot ≡ cond (nat_lt slot (length links)) (kept_link (in_row row) (slice_index links slot)) 0
    each slot = elim (cases_lt slot (length links)) [
      | inl below ↦ all slot ∙ sym (ap (now slot) (below_true slot (length links) below))
      | inr past ↦
          let low : length links ≤ slot = omega (arith, past) in
          all slot ∙ ap (kept_link (in_row row)) (get_or_past links slot 0 low) ∙ sym (ap (now slot) (past_false slot (length links) low))
    ]

-- ── Links that are cut ──

pub cut_to : (links now : List ℕ) (from next : ℕ) (old new : PoolNumbers) → from ≤ next → AreUnused links from next → IsCutThrough links now from old new → IsCutThrough links now next old new
cut_to links now from next old new low unused cut = record {
  places = cut.places;
  still = λ number live.
      let was = cut.still number live in (
        was.0,
        λ slot below holds. elim (cases_lt slot from) [
          | inl before ↦ was.1 slot before holds
          | inr past ↦ absurd (let none : slice_index links slot ≡ 0 = unused slot (omega (arith, past)) below in omega (arith, none, holds))
        ],
      );
  stays = λ number live keeps. cut.stays number live (λ slot below holds. keeps slot (omega (arith, below, low)) holds);
  fewer = cut.fewer;
}

pub cut_all : (links now : List ℕ) (through : ℕ) (old new : PoolNumbers) → EndsAt links through → IsCutThrough links now through old new → IsCutThrough links now (length links) old new
cut_all links now through old new ends cut = record {
  places = cut.places;
  still = λ number live.
      let was = cut.still number live in
      (was.0, λ slot below holds. was.1 slot (some_before links through slot number ends holds) holds);
  stays = λ number live keeps. cut.stays number live (λ slot below holds. keeps slot (some_before links (length links) slot number (λ s past. get_or_past links s 0 past) holds) holds);
  fewer = cut.fewer;
}

-- ── Slots that are noted ──

pub held_to : (slot_of : ℕ → ℕ) (links old new : List ℕ) (from next : ℕ) → AreUnused links from next → HeldSoFar slot_of links old new from → HeldSoFar slot_of links old new next
held_to slot_of links old new from next unused so_far = record {
  as_many = so_far.as_many;
  held = λ place number below holds. elim (cases_lt place from) [
    | inl before ↦ so_far.held place number before holds
    | inr past ↦ absurd (let none : slice_index links place ≡ 0 = unused place (omega (arith, past)) below in omega (arith, none, holds))
  ];
}

pub held_all : (slot_of : ℕ → ℕ) (links old new : List ℕ) (through : ℕ) → EndsAt links through → HeldSoFar slot_of links old new through → HeldSoFar slot_of links old new (length links)
held_all slot_of links old new through ends so_far = record {
  as_many = so_far.as_many;
  held = λ place number below holds. so_far.held place number (some_before links through place number ends holds) holds;
}

-- ── Keys ──

-- no key stands at the places between
table_to : (keys links : List ℕ) (row : List Bool) (new_keys new_links : List ℕ) (from more : ℕ) → IsOldTable keys links → from + more ≤ length keys → AreUnused keys from (from + more) → IsKeptSoFar keys links row new_keys new_links from → IsKeptSoFar keys links row new_keys new_links (from + more)
table_to keys links row new_keys new_links from zero old there unused so_far =
    subst (IsKeptSoFar keys links row new_keys new_links) (omega arith) so_far
table_to keys links row new_keys new_links from (suc more) old there unused so_far =
    let before = table_to keys links row new_keys new_links from more old (omega (arith, there)) (λ place low below. unused place low (omega (arith, below))) so_far in
    let none : slice_index keys (from + more) ≡ 0 = unused (from + more) (omega arith) (omega arith) in
    subst (IsKeptSoFar keys links row new_keys new_links) (omega arith)
    (idle_place keys links row new_keys new_links (from + more) old (omega (arith, there)) (λ key own. absurd (omega (arith, none, own))) before)

-- so it is at the next key, and at the end
pub table_next : (keys links : List ℕ) (row : List Bool) (new_keys new_links : List ℕ) (from next : ℕ) → IsOldTable keys links → from ≤ next → next < length keys → AreUnused keys from next → IsKeptSoFar keys links row new_keys new_links from → IsKeptSoFar keys links row new_keys new_links next
table_next keys links row new_keys new_links from next old low there unused so_far =
    let all : from + (next - from) ≡ next = omega (arith, low) in
    subst (IsKeptSoFar keys links row new_keys new_links) all
    (table_to keys links row new_keys new_links from (next - from) old (omega (arith, all, there)) (λ place at_least below. unused place at_least (omega (arith, below, all))) so_far)

pub table_end : (keys links : List ℕ) (row : List Bool) (new_keys new_links : List ℕ) (from : ℕ) → IsOldTable keys links → from ≤ length keys → EndsAt keys from → IsKeptSoFar keys links row new_keys new_links from → IsKeptSoFar keys links row new_keys new_links (length keys)
table_end keys links row new_keys new_links from old low ends so_far =
    let all : from + (length keys - from) ≡ length keys = omega (arith, low) in
    subst (IsKeptSoFar keys links row new_keys new_links) all
    (table_to keys links row new_keys new_links from (length keys - from) old (omega (arith, all)) (λ place at_least below. ends place at_least) so_far)

keys_to : (words : List ℕ) (from more : ℕ) → from + more ≤ length words → AreUnused words from (from + more) → keys_in (take (from + more) words) ≡ keys_in (take from words)
keys_to words from zero there unused = let same : from + 0 ≡ from = omega arith in ap (λ n. keys_in (take n words)) same
keys_to words from (suc more) there unused =
    let next : from + suc more ≡ from + more + 1 = omega arith in
    let none : slice_index words (from + more) ≡ 0 = unused (from + more) (omega arith) (omega arith) in
    ap (λ n. keys_in (take n words)) next
    ∙ ap keys_in (take_more words (from + more) 0 (omega (arith, there)))
    ∙ keys_more (take (from + more) words) (slice_index words (from + more))
    ∙ ap (λ (ks : List ℕ). keys_in (take (from + more) words) ++ ks) (no_key (slice_index words (from + more)) none)
    ∙ append-nil (keys_in (take (from + more) words))
    ∙ keys_to words from more (omega (arith, there)) (λ place low below. unused place low (omega (arith, below)))

-- the next key
pub keys_next : (words : List ℕ) (from next : ℕ) → from ≤ next → next < length words → AreUnused words from next → keys_in (take (next + 1) words) ≡ keys_in (take from words) ++ keys_in (slice_index words next ∷ [])
keys_next words from next low there unused =
    let more : ℕ = next - from in
    let all : from + more ≡ next = omega (arith, low) in
    ap keys_in (take_more words next 0 there) ∙ keys_more (take next words) (slice_index words next)
    ∙ ap (λ (ks : List ℕ). ks ++ keys_in (slice_index words next ∷ []))
    (ap (λ n. keys_in (take n words)) (sym all)
    ∙ keys_to words from more (omega (arith, all, there)) (λ place at_least below. unused place at_least (omega (arith, below, all))))

-- and none after the last
pub keys_end : (words : List ℕ) (from : ℕ) → from ≤ length words → EndsAt words from → keys_in words ≡ keys_in (take from words)
keys_end words from low ends =
    let more : ℕ = length words - from in
    let all : from + more ≡ length words = omega (arith, low) in
    ap keys_in (sym (take_all (from + more) words (omega (arith, all))))
    ∙ keys_to words from more (omega (arith, all)) (λ place at_least below. ends place at_least)
