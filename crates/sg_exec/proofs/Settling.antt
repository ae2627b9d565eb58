-- Copies that are put into the places of their stores, one after the other.
use Rattle.std.proofs.Common.{◌≡◌, ℕ, zero, suc, ◌+◌, ◌<◌, inl, inr, List, [], ◌∷◌, ◌++◌, length, Option, Some, None, refl, sym, ap, ◌∙◌, subst, arith}
use Rattle.std.specs.Prelude.{slice_get, slice_set, unwrap_or}
use Rattle.std.proofs.lemmas.Bool.{cases_lt}
use Rattle.std.proofs.lemmas.Option.{same_Some, slice_get_within}
use Rattle.std.proofs.lemmas.List.{length-append}
use Rattle.sg_exec.proofs.Reaching.{before_push, at_push}
use Rattle.sg_layout.specs.declared.shape.Shape.{Shape}
use Rattle.sg_store.specs.StoreWords.{StoreWords}
use Rattle.sg_exec.specs.Standing.{shapes_of}
use Rattle.sg_exec.specs.steps.Landing.{current, with_copied_store, CopiesInto}

pub set_long : {A : Type 0} (xs : List A) (i : ℕ) (x : A) → length (slice_set xs i x) ≡ length xs
set_long [] i x = refl
set_long (y ∷ ys) zero x = refl
set_long (y ∷ ys) (suc i) x = ap suc (set_long ys i x)

-- a copy is taken out and put into its store's place
pub settled_some : (copies : List (Option StoreWords)) (stores : List StoreWords) (i : ℕ) (store : StoreWords) → slice_get copies i ≡ Some (Some store) → length copies ≡ length stores
    → current (slice_set copies i None) (slice_set stores i store) ≡ current copies stores
settled_some [] stores i store is same = absurd (cc)
settled_some (copy ∷ copies) [] i store is same = absurd (omega arith)
settled_some (copy ∷ copies) (head ∷ stores) zero store is same = ap (λ (c : Option StoreWords). unwrap_or c head ∷ current copies stores) (sym (same_Some _ _ is))
settled_some (copy ∷ copies) (head ∷ stores) (suc i) store is same = ap (λ (rest : List StoreWords). unwrap_or copy head ∷ rest) (settled_some copies stores i store is (omega arith))

pub settled_none : (copies : List (Option StoreWords)) (stores : List StoreWords) (i : ℕ) → slice_get copies i ≡ Some None → current (slice_set copies i None) stores ≡ current copies stores
settled_none [] stores i is = absurd (cc)
settled_none (copy ∷ copies) [] zero is = refl
settled_none (copy ∷ copies) [] (suc i) is = refl
settled_none (copy ∷ copies) (head ∷ stores) zero is = ap (λ (c : Option StoreWords). unwrap_or c head ∷ current copies stores) (sym (same_Some _ _ is))
settled_none (copy ∷ copies) (head ∷ stores) (suc i) is = ap (λ (rest : List StoreWords). unwrap_or copy head ∷ rest) (settled_none copies stores i is)

pub settled_placed : (copies : List (Option StoreWords)) (stores : List StoreWords) (i : ℕ) (copy : Option StoreWords) → slice_get copies i ≡ Some copy → length copies ≡ length stores
    → current (slice_set copies i None) (with_copied_store stores i copy) ≡ current copies stores
settled_placed copies stores i None is same = settled_none copies stores i is
settled_placed copies stores i (Some store) is same = settled_some copies stores i store is same

pub placed_long : (stores : List StoreWords) (i : ℕ) (copy : Option StoreWords) → length (with_copied_store stores i copy) ≡ length stores
placed_long stores i None = refl
placed_long stores i (Some store) = set_long stores i store

-- no copy is left
pub settled_all : (copies : List (Option StoreWords)) (stores : List StoreWords) → length copies ≡ length stores → ((j : ℕ) → j < length copies → slice_get copies j ≡ Some None) → current copies stores ≡ stores
settled_all [] stores same none = refl
settled_all (copy ∷ copies) [] same none = absurd (omega arith)
settled_all (copy ∷ copies) (head ∷ stores) same none =
    ap (λ (c : Option StoreWords). unwrap_or c head ∷ current copies stores) (same_Some _ _ (none 0 (omega arith)))
    ∙ ap (λ (rest : List StoreWords). head ∷ rest) (settled_all copies stores (omega arith) (λ j below. none (suc j) (omega arith)))

pub none_further : (copies : List (Option StoreWords)) (i : ℕ) → ((j : ℕ) → j < i → slice_get copies j ≡ Some None) → i < length copies → (j : ℕ) → j < i + 1 → slice_get (slice_set copies i None) j ≡ Some None
none_further [] i none below j low = absurd (omega arith)
none_further (copy ∷ copies) zero none below zero low = refl
none_further (copy ∷ copies) zero none below (suc j) low = absurd (omega arith)
none_further (copy ∷ copies) (suc i) none below zero low = none 0 (omega arith)
none_further (copy ∷ copies) (suc i) none below (suc j) low = none_further copies i (λ k l. none (suc k) (omega arith)) (omega arith) j (omega arith)

-- copies keep the shapes of their stores
pub current_shapes : (copies : List (Option StoreWords)) (stores : List StoreWords) → length copies ≡ length stores
    → ((j : ℕ) (store : StoreWords) (copy : Option StoreWords) → slice_get stores j ≡ Some store → slice_get copies j ≡ Some copy → (unwrap_or copy store).shape ≡ store.shape)
    → shapes_of (current copies stores) ≡ shapes_of stores
current_shapes [] stores same each = refl
current_shapes (copy ∷ copies) [] same each = refl
current_shapes (copy ∷ copies) (head ∷ stores) same each =
    ap (λ (s : Shape). s ∷ shapes_of (current copies stores)) (each 0 head copy refl refl)
    ∙ ap (λ (ss : List Shape). head.shape ∷ ss) (current_shapes copies stores (omega arith) (λ j s c is is_c. each (suc j) s c is is_c))

-- one store more keeps its shape
pub shapes_more : (stores : List StoreWords) (copies : List (Option StoreWords)) (i : ℕ) (store : StoreWords) (copy : Option StoreWords)
    → ((j : ℕ) (s : StoreWords) (c : Option StoreWords) → slice_get stores j ≡ Some s → slice_get copies j ≡ Some c → (unwrap_or c s).shape ≡ s.shape)
    → length copies ≡ i → slice_get stores i ≡ Some store → (unwrap_or copy store).shape ≡ store.shape
    → (j : ℕ) (s : StoreWords) (c : Option StoreWords) → slice_get stores j ≡ Some s → slice_get (copies ++ copy ∷ []) j ≡ Some c → (unwrap_or c s).shape ≡ s.shape
shapes_more stores copies i store copy all count is here j s c is_s is_c = elim (cases_lt j i) [
  | inl low ↦ all j s c is_s (sym (before_push copies copy j (omega arith)) ∙ is_c)
  | inr high ↦ (
      let long : j < length (copies ++ copy ∷ []) = slice_get_within (copies ++ copy ∷ []) j c is_c in
      let same : j ≡ i = omega (arith, length-append copies (copy ∷ [])) in
      let same_store : store ≡ s = same_Some _ _ (sym is ∙ ap (slice_get stores) (sym same) ∙ is_s) in
      let same_copy : copy ≡ c = same_Some _ _ (sym (at_push copies copy) ∙ ap (slice_get (copies ++ copy ∷ [])) (count ∙ sym same) ∙ is_c) in
      subst (λ (x : Option StoreWords). (unwrap_or x s).shape ≡ s.shape) same_copy (subst (λ (x : StoreWords). (unwrap_or copy x).shape ≡ x.shape) same_store here)
      )
]

-- one copy more, and where copies are
pub into_more : (P : ℕ → Type 0) (copies : List (Option StoreWords)) (i : ℕ) (copy : Option StoreWords) → length copies ≡ i → CopiesInto P copies → ((made : StoreWords) → copy ≡ Some made → P i)
    → (j : ℕ) (made : StoreWords) → slice_get (copies ++ copy ∷ []) j ≡ Some (Some made) → P j
into_more P copies i copy count before here j made is = elim (cases_lt j i) [
  | inl low ↦ before j made (sym (before_push copies copy j (omega (arith, low, count))) ∙ is)
  | inr high ↦ (
      let long : j < length (copies ++ copy ∷ []) = slice_get_within (copies ++ copy ∷ []) j (Some made) is in
      let same : j ≡ i = omega (arith, length-append copies (copy ∷ []), long, count, high) in
      subst P (sym same) (here made (same_Some _ _ (sym (at_push copies copy) ∙ ap (slice_get (copies ++ copy ∷ [])) (count ∙ sym same) ∙ is)))
      )
]
