-- Setting bits of masks.
use Rattle.std.proofs.Common.{◌≡◌, ◌≢◌, ℕ, ◌+◌, ◌*◌, ◌/◌, ◌%◌, ◌<◌, ◌^◌, Bool, true, false, ◌||◌, ◌==◌, List, [], ◌∷◌, ◌++◌, length, take, get_or, refl, sym, ap, ◌∙◌, arith, inl, inr, w64}
use Rattle.std.specs.Prelude.{slice_index, slice_set, bit_or}
use Rattle.std.specs.Int.{bit_at}
use Rattle.std.specs.List.{list_any}
use Rattle.std.proofs.lemmas.Bool.{cases_eq, cases_Bool}
use Rattle.std.proofs.lemmas.Bool.Decides.{Decides-eqb}
use Rattle.std.proofs.lemmas.Nat.Bits.{bit_at_set_same, bit_at_set_other}
use Rattle.std.proofs.lemmas.List.{get_or-set_same, get_or-set_other, take_more}
use Rattle.std.proofs.lemmas.List.Folds.{list_any-append}
use Rattle.sg_store.specs.Slots.{mask_bit}
use Rattle.sg_store.specs.steps.Marking.{IsMarked}

-- ── One bit ──

-- the word in which a bit stands, with the bit set
abbrev pub with_bit : ℕ → ℕ → ℕ
with_bit word bit = bit_or word (1 * 2 ^ bit % 2 ^ 64)

or_false : (a : Bool) → (a || false) ≡ a
or_false true = refl
or_false false = refl

or_true : (a : Bool) → (a || true) ≡ true
or_true true = refl
or_true false = refl

or_assoc : (a b c : Bool) → ((a || b) || c) ≡ (a || (b || c))
or_assoc true b c = refl
or_assoc false b c = refl

apart : (m n : ℕ) → m ≢ n → (m == n) ≡ false
apart m n other = elim (cases_Bool (m == n)) [
  | inl same ↦ absurd (other ((Decides-eqb m n).0 same))
  | inr unequal ↦ unequal
]

-- the same word and the same place in it are the same number
same_bit : (m n : ℕ) → m / 64 ≡ n / 64 → m % 64 ≡ n % 64 → m ≡ n
same_bit m n words places = omega (arith, words, places)

pub marked : (masks : List ℕ) (number bit : ℕ) → number < 64 * length masks → mask_bit (slice_set masks (number / 64) (with_bit (slice_index masks (number / 64)) (number % 64))) bit ≡ (mask_bit masks bit || number == bit)
marked masks number bit within =
    let place : ℕ = number / 64 in
    let word : ℕ = slice_index masks place in
    let there : place < length masks = omega arith in
    let small : number % 64 < 64 = omega arith in
    elim (cases_eq number bit) [
      | inl same ↦
          let read : slice_index (slice_set masks place (with_bit word (number % 64))) place ≡ with_bit word (number % 64) = get_or-set_same masks place (with_bit word (number % 64)) 0 there in
          let set : bit_at (with_bit word (number % 64)) (number % 64) ≡ 1 = bit_at_set_same w64 word (number % 64) small in
          let on : mask_bit (slice_set masks place (with_bit word (number % 64))) number ≡ true = ap (λ w. bit_at w (number % 64) == 1) read ∙ ap (λ b. b == 1) set in
          ap (mask_bit (slice_set masks place (with_bit word (number % 64)))) (sym same) ∙ on
          ∙ sym (ap (λ b. mask_bit masks bit || b) ((Decides-eqb number bit).1 same) ∙ or_true (mask_bit masks bit))
      | inr other ↦
          let stays : mask_bit (slice_set masks place (with_bit word (number % 64))) bit ≡ mask_bit masks bit = elim (cases_eq (bit / 64) place) [
            | inl here ↦
                let elsewhere : bit % 64 ≢ number % 64 = λ e. other (same_bit number bit (sym here) (sym e)) in
                let read : slice_index (slice_set masks place (with_bit word (number % 64))) (bit / 64) ≡ with_bit word (number % 64) =
                ap (slice_index (slice_set masks place (with_bit word (number % 64)))) here ∙ get_or-set_same masks place (with_bit word (number % 64)) 0 there in
                ap (λ w. bit_at w (bit % 64) == 1) read ∙ ap (λ b. b == 1) (bit_at_set_other w64 word (number % 64) small (bit % 64) elsewhere)
                ∙ ap (λ i. bit_at (slice_index masks i) (bit % 64) == 1) (sym here)
            | inr there_not ↦ ap (λ w. bit_at w (bit % 64) == 1) (get_or-set_other masks place (bit / 64) (with_bit word (number % 64)) 0 there_not)
          ] in
          stays ∙ sym (ap (λ b. mask_bit masks bit || b) (apart number bit other) ∙ or_false (mask_bit masks bit))
    ]

-- ── Many bits ──

pub marked_none : (masks : List ℕ) → IsMarked masks masks []
marked_none masks = record { bits = λ bit. sym (or_false (mask_bit masks bit)); as_many = refl }

pub marked_next : (before now after numbers : List ℕ) (i number : ℕ) → IsMarked before now (take i numbers) → i < length numbers → number ≡ get_or numbers i 0 → ((bit : ℕ) → mask_bit after bit ≡ (mask_bit now bit || number == bit)) → length after ≡ length now → IsMarked before after (take (i + 1) numbers)
marked_next before now after numbers i number far within is one long = record {
  bits = λ bit.
      let p : ℕ → Bool = λ n. n == bit in
      let more : take (i + 1) numbers ≡ take i numbers ++ number ∷ [] = take_more numbers i 0 within ∙ ap (λ n. take i numbers ++ n ∷ []) (sym is) in
      let any : list_any p (take (i + 1) numbers) ≡ (list_any p (take i numbers) || number == bit) =
      ap (list_any p) more ∙ list_any-append p (take i numbers) (number ∷ []) ∙ ap (λ b. list_any p (take i numbers) || b) (or_false (number == bit)) in
      one bit ∙ ap (λ b. b || number == bit) (far.bits bit) ∙ or_assoc (mask_bit before bit) (list_any p (take i numbers)) (number == bit)
      ∙ sym (ap (λ b. mask_bit before bit || b) any);
  as_many = long ∙ far.as_many;
}
