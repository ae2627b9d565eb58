-- Stores, their layouts and the flat layouts that they stand for, one by one.
use Rattle.std.proofs.Common.{◌≡◌, ℕ, zero, suc, inl, inr, List, [], ◌∷◌, Option, Some, None, Result, Ok, Err, refl, ap, ◌∙◌, subst}
use Rattle.std.specs.Prelude.{slice_get, Contains, IfOk, IsSome}
use Rattle.std.specs.List.{AllZip}
use Rattle.std.proofs.lemmas.Bool.{cases_Bool, cases_eq, cond-true, cond-false}
use Rattle.std.proofs.lemmas.List.Elements.{All-contains}
use Rattle.std.proofs.lemmas.Option.{same_Some}
use Rattle.sg_coord.specs.declared.coord.Coord.{Coord}
use Rattle.sg_coord.specs.Coord.{Inside, is_inside, row_of}
use Rattle.sg_coord.specs.Laws.{InsideTest, PointOfRow}
use Rattle.sg_layout.specs.declared.shape.Shape.{Shape}
use Rattle.sg_layout.specs.Axes.{bounds_of_shape}
use Rattle.sg_flat.specs.declared.state.FlatLayout.{FlatLayout}
use Rattle.sg_flat.specs.declared.state.FlatState.{FlatState}
use Rattle.sg_flat.specs.Words.{word_at}
use Rattle.sg_flat.specs.State.{IsFlatField, IsFlatLayout, value_at, value_or_zero, value_of, words_or_none}
use Rattle.sg_flat.proofs.Uses.{word_is_active}
use Rattle.sg_store.specs.StoreWords.{StoreWords}
use Rattle.sg_store.specs.StandsFor.{StandsFor}
use Rattle.sg_exec.specs.Standing.{shapes_of}
use Rattle.sg_exec.proofs.OneWrite.{contains_at}

-- the flat layout that a store of the list stands for
pub flat_at : (stores : List StoreWords) (flats : List FlatLayout) (i : ℕ) (store : StoreWords) → AllZip StandsFor stores flats → slice_get stores i ≡ Some store
    → (flat : FlatLayout) × (slice_get flats i ≡ Some flat) × StandsFor store flat
flat_at [] flats i store all is = absurd (cc)
flat_at (first ∷ stores) [] i store all is = absurd all
flat_at (first ∷ stores) (flat ∷ flats) zero store all is = (flat, refl, subst (λ (s : StoreWords). StandsFor s flat) (same_Some _ _ is) all.0)
flat_at (first ∷ stores) (flat ∷ flats) (suc i) store all is = flat_at stores flats i store all.1 is

-- and the store of a flat layout
pub store_at : (stores : List StoreWords) (flats : List FlatLayout) (i : ℕ) (flat : FlatLayout) → AllZip StandsFor stores flats → slice_get flats i ≡ Some flat
    → (store : StoreWords) × (slice_get stores i ≡ Some store) × StandsFor store flat
store_at [] [] i flat all is = absurd (cc)
store_at [] (first ∷ flats) i flat all is = absurd all
store_at (store ∷ stores) [] i flat all is = absurd all
store_at (store ∷ stores) (first ∷ flats) zero flat all is = (store, refl, subst (λ (l : FlatLayout). StandsFor store l) (same_Some _ _ is) all.0)
store_at (store ∷ stores) (first ∷ flats) (suc i) flat all is = store_at stores flats i flat all.1 is

pub no_flat_at : (stores : List StoreWords) (flats : List FlatLayout) (i : ℕ) → AllZip StandsFor stores flats → slice_get stores i ≡ None → slice_get flats i ≡ None
no_flat_at [] [] i all none = refl
no_flat_at [] (flat ∷ flats) i all none = absurd all
no_flat_at (store ∷ stores) [] i all none = refl
no_flat_at (store ∷ stores) (flat ∷ flats) zero all none = absurd (cc)
no_flat_at (store ∷ stores) (flat ∷ flats) (suc i) all none = no_flat_at stores flats i all.1 none

pub shape_at : (stores : List StoreWords) (i : ℕ) (store : StoreWords) → slice_get stores i ≡ Some store → slice_get (shapes_of stores) i ≡ Some store.shape
shape_at [] i store is = absurd (cc)
shape_at (first ∷ stores) zero store is = ap (λ (s : StoreWords). Some s.shape) (same_Some _ _ is)
shape_at (first ∷ stores) (suc i) store is = shape_at stores i store is

pub no_shape_at : (stores : List StoreWords) (i : ℕ) → slice_get stores i ≡ None → slice_get (shapes_of stores) i ≡ None
no_shape_at [] i none = refl
no_shape_at (first ∷ stores) zero none = absurd (cc)
no_shape_at (first ∷ stores) (suc i) none = no_shape_at stores i none

-- ---- values

pub value_there : (stores : List StoreWords) (state : FlatState) (layout place : ℕ) (at : Coord) (store : StoreWords) (flat : FlatLayout)
    → slice_get stores layout ≡ Some store → slice_get state.layouts layout ≡ Some flat → value_of (shapes_of stores) state layout place at ≡ value_at store.shape flat place at
value_there stores state layout place at store flat is is_flat =
    ap (λ (s : Option Shape). value_or_zero s (slice_get state.layouts layout) place at) (shape_at stores layout store is)
    ∙ ap (λ (l : Option FlatLayout). value_or_zero (Some store.shape) l place at) is_flat

pub value_nowhere : (stores : List StoreWords) (state : FlatState) (layout place : ℕ) (at : Coord) → slice_get stores layout ≡ None → value_of (shapes_of stores) state layout place at ≡ 0
value_nowhere stores state layout place at none =
    ap (λ (s : Option Shape). value_or_zero s (slice_get state.layouts layout) place at) (no_shape_at stores layout none)

-- the value is 0 if nothing is active
pub idle_zero : (shape : Shape) (flat : FlatLayout) (place : ℕ) (at : Coord) → InsideTest → PointOfRow → IsFlatLayout shape flat → (Contains flat.active at → ⊥) → value_at shape flat place at ≡ 0
idle_zero shape flat place at test point_of_row is_flat idle = elim (cases_Bool (is_inside (bounds_of_shape shape) at)) [
  | inr outside ↦ cond-false (is_inside (bounds_of_shape shape) at) (word_at (words_or_none (slice_get flat.fields place)) (row_of (bounds_of_shape shape) at)) 0 outside
  | inl within ↦ cond-true (is_inside (bounds_of_shape shape) at) (word_at (words_or_none (slice_get flat.fields place)) (row_of (bounds_of_shape shape) at)) 0 within
      ∙ by_field (slice_get flat.fields place) refl ((test (bounds_of_shape shape) at).0 within)
]
  where
    by_word : (words : List (ℕ × ℕ)) → IsFlatField shape flat.active words → Inside (bounds_of_shape shape) at → word_at words (row_of (bounds_of_shape shape) at) ≡ 0
    by_word words fits inside = elim (cases_eq (word_at words (row_of (bounds_of_shape shape) at)) 0) [
      | inl nought ↦ nought
      | inr some ↦ absurd (idle (subst (λ (x : Coord). Contains flat.active x) (point_of_row (bounds_of_shape shape) at inside)
          (word_is_active flat.active (bounds_of_shape shape) words (row_of (bounds_of_shape shape) at) fits.active_rows some)))
    ]

    by_field : (found : Option (List (ℕ × ℕ))) → slice_get flat.fields place ≡ found → Inside (bounds_of_shape shape) at → word_at (words_or_none (slice_get flat.fields place)) (row_of (bounds_of_shape shape) at) ≡ 0
    by_field None is inside = ap (λ (f : Option (List (ℕ × ℕ))). word_at (words_or_none f) (row_of (bounds_of_shape shape) at)) is
    by_field (Some words) is inside =
        ap (λ (f : Option (List (ℕ × ℕ))). word_at (words_or_none f) (row_of (bounds_of_shape shape) at)) is
        ∙ by_word words (All-contains (IsFlatField shape flat.active) flat.fields words is_flat.fields_fit (contains_at flat.fields place words is)) inside

-- a value that is there can't be none
pub some_is_none : {A : Type 0} (found : Option A) → found ≡ None → IsSome found → ⊥
some_is_none {A} found none some = let h : IsSome {T = A} None = subst (λ (o : Option A). IsSome o) none some in absurd (cc)

pub if_ok_more : {A E : Type 0} (P Q : A → Type 0) (answer : Result A E) → ((a : A) → P a → Q a) → IfOk answer P → IfOk answer Q
if_ok_more P Q (Ok a) f h = f a h
if_ok_more P Q (Err e) f h = tt
