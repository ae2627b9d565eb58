-- The values of fields that land in stores, one field after the other.
use Rattle.std.proofs.Common.{◌≡◌, ℕ, zero, suc, ◌+◌, ◌<◌, inl, inr, List, [], ◌∷◌, ◌++◌, length, take, get_or, Some, sym, ap, ◌∙◌, subst, arith, append_assoc}
use Rattle.std.specs.Prelude.{slice_get, slice_set, slice_index, slice_index_or, All}
use Rattle.std.specs.List.{AllPairs}
use Rattle.std.proofs.lemmas.Bool.{cases_eq}
use Rattle.std.proofs.lemmas.List.{append-nil, take_more}
use Rattle.std.proofs.lemmas.List.Elements.{All-nil, All-head, All-tail, All-cons}
use Rattle.std.proofs.lemmas.Option.{same_Some, slice_get_within}
use Rattle.sg_flat.specs.declared.effects.Write.{Write}
use Rattle.sg_store.specs.Rows.{put_over}
use Rattle.sg_store.specs.StoreWords.{StoreWords, word_in}
use Rattle.sg_exec.specs.declared.results.sums.Sum.{Sum}
use Rattle.sg_exec.specs.steps.Passes.{into_field, with_row}
use Rattle.sg_exec.specs.steps.Made.{KeepsField, summed}
use Rattle.sg_exec.proofs.Giving.{set_same, set_other}
use Rattle.sg_exec.proofs.SumsPut.{index_other}

-- a field stays as it was, where another field's values were put
pub fresh_put : (base olds : List StoreWords) (layout field other_layout other : ℕ) (was now : StoreWords) (words : List ℕ) → now ≡ with_row was field words
    → slice_get olds layout ≡ Some was → (other_layout ≡ layout → other ≡ field → ⊥) → KeepsField base olds other_layout other → KeepsField base (slice_set olds layout now) other_layout other
fresh_put base olds layout field other_layout other was now words is there apart fresh = λ store copy at copy_at cell. elim (cases_eq other_layout layout) [
  | inl same ↦ (
      let below = slice_get_within olds layout was there in
      let here : with_row was field words ≡ copy = sym is ∙ same_Some _ _ (sym (set_same olds layout now below) ∙ ap (slice_get (slice_set olds layout now)) (sym same) ∙ copy_at) in
      ap (λ (s : StoreWords). word_in s other cell) (sym here)
      ∙ ap (λ (row : List ℕ). slice_index row cell) (index_other was.fields field other (put_over words (slice_index_or was.fields field [])) (λ there'. apart same there'))
      ∙ fresh store was at (ap (slice_get olds) same ∙ there) cell
      )
  | inr elsewhere ↦ fresh store copy at (sym (set_other olds layout other_layout now elsewhere) ∙ copy_at) cell
]

-- ---- one sum more

summed_last : (sums : List Sum) (sum : Sum) (writes : List Write) → summed (sums ++ sum ∷ []) writes ≡ summed sums writes ++ into_field sum.layout sum.field writes
summed_last [] sum writes = append-nil (into_field sum.layout sum.field writes)
summed_last (first ∷ sums) sum writes =
    ap (λ (ws : List Write). into_field first.layout first.field writes ++ ws) (summed_last sums sum writes)
    ∙ sym (append_assoc (into_field first.layout first.field writes) (summed sums writes) (into_field sum.layout sum.field writes))

pub summed_next : (sums : List Sum) (i : ℕ) (d : Sum) (writes : List Write) → i < length sums → summed (take (i + 1) sums) writes ≡ summed (take i sums) writes ++ into_field (get_or sums i d).layout (get_or sums i d).field writes
summed_next sums i d writes below = ap (λ (list : List Sum). summed list writes) (take_more sums i d below) ∙ summed_last (take i sums) (get_or sums i d) writes

-- what holds of one more holds of the others and of it
all_parts : {A : Type 0} (P : A → Type 0) (xs : List A) (x : A) → All P (xs ++ x ∷ []) → All P xs × P x
all_parts P [] x all = (All-nil P, All-head P x [] all)
all_parts P (y ∷ xs) x all =
    let rest = all_parts P xs x (All-tail P y (xs ++ x ∷ []) all) in
    (All-cons P y xs (All-head P y (xs ++ x ∷ []) all) rest.0, rest.1)

pub all_next : {A : Type 0} (P : A → Type 0) (xs : List A) (i : ℕ) (d : A) → i < length xs → All P (take (i + 1) xs) → All P (take i xs) × P (get_or xs i d)
all_next {A} P xs i d below all = all_parts P (take i xs) (get_or xs i d) (subst (λ (list : List A). All P list) (take_more xs i d below) all)

-- each of those before one is apart from it
pub pairs_before : {A : Type 0} (R : A → A → Type 0) (xs : List A) (i : ℕ) (d : A) → i < length xs → AllPairs R xs → All (λ (x : A). R x (get_or xs i d)) (take i xs)
pairs_before R [] i d below pairs = absurd (omega (arith, below))
pairs_before R (x ∷ xs) zero d below pairs = λ k e low. absurd (omega (arith, low))
pairs_before {A} R (x ∷ xs) (suc i) d below pairs =
    All-cons (λ (y : A). R y (get_or xs i d)) x (take i xs) (pairs 0 (suc i) d (omega arith) below)
    (pairs_before R xs i d (omega (arith, below)) (λ j k e less low. pairs (suc j) (suc k) e (omega (arith, less)) (omega (arith, low))))
