-- A row of zeros that gets the words of another, one after the other.
use Rattle.std.proofs.Common.{◌≡◌, ℕ, ◌+◌, ◌<◌, ◌≤◌, List, length, replicate, sym, ap, ◌∙◌, arith, inl, inr}
use Rattle.std.specs.Prelude.{slice_index, slice_set}
use Rattle.std.proofs.lemmas.Bool.{cases_eq, cases_lt}
use Rattle.std.proofs.lemmas.List.{length-replicate, length-set, get_or-set_same, get_or-set_other, get_or_past}
use Rattle.std.proofs.lemmas.Grind.{same_number_lists}
use Rattle.sg_store.proofs.Padded.{zeros_at}

-- the row has the first so many of these words, and then zeros
pub record IsLike (words row : List ℕ) (slots through : ℕ) : Type 0 where
  pub as_many : length row ≡ slots
  pub front : (slot : ℕ) → slot < through → slice_index row slot ≡ slice_index words slot
  pub rest : (slot : ℕ) → through ≤ slot → slice_index row slot ≡ 0

pub like_none : (words row : List ℕ) (slots : ℕ) → row ≡ replicate slots 0 → IsLike words row slots 0
like_none words row slots is = record {
  as_many = ap length is ∙ length-replicate slots 0;
  front = λ slot below. absurd (omega (arith, below));
  rest = λ slot past. ap (λ (r : List ℕ). slice_index r slot) is ∙ zeros_at slots slot;
}

pub like_more : (words row new : List ℕ) (slots through word : ℕ) → through < slots → word ≡ slice_index words through → new ≡ slice_set row through word → IsLike words row slots through → IsLike words new slots (through + 1)
like_more words row new slots through word there is set like = record {
  as_many = ap length set ∙ length-set row through word ∙ like.as_many;
  front = λ slot below. elim (cases_eq slot through) [
    | inl same ↦
        let within : slot < length row = omega (arith, same, there, like.as_many) in
        ap (λ (r : List ℕ). slice_index r slot) set ∙ ap (λ s. slice_index (slice_set row s word) slot) (sym same)
        ∙ get_or-set_same row slot word 0 within ∙ is ∙ ap (slice_index words) (sym same)
    | inr apart ↦ ap (λ (r : List ℕ). slice_index r slot) set ∙ get_or-set_other row through slot word 0 apart ∙ like.front slot (omega (arith, below, apart))
  ];
  rest = λ slot past.
      ap (λ (r : List ℕ). slice_index r slot) set ∙ get_or-set_other row through slot word 0 (λ same. omega (arith, same, past)) ∙ like.rest slot (omega (arith, past));
}

-- where these words are all that another row has but zeros, the two are equal
pub like_ends : (words row other : List ℕ) (slots through : ℕ) → length words ≤ through → length other ≡ slots → ((slot : ℕ) → slice_index words slot ≡ slice_index other slot) → IsLike words row slots through → row ≡ other
like_ends words row other slots through end many same like =
    same_number_lists row other (like.as_many ∙ sym many)
    (λ slot below. elim (cases_lt slot through) [
      | inl before ↦ like.front slot before ∙ same slot
      | inr past ↦
          let low : through ≤ slot = omega (arith, past) in
          like.rest slot low ∙ sym (get_or_past words slot 0 (omega (arith, low, end))) ∙ same slot
    ])
