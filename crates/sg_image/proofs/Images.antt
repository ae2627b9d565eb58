-- What a store keeps at a coordinate is what it stands for, also where the coordinate isn't active; images of equal greys are equal.
use Rattle.std.proofs.Common.{◌≡◌, inl, inr, ℕ, zero, suc, ◌+◌, ◌<◌, true, cond, List, [], ◌∷◌, ◌++◌, length, decimal, ℤ, pos, Option, Some, None, is_some, refl, sym, ap, ◌∙◌, subst, add-one, append_assoc}
use Rattle.std.specs.Prelude.{slice_get}
use Rattle.std.specs.List.{All, Contains}
use Rattle.std.proofs.lemmas.Bool.{cases_Bool, cases_eq, cond-false}
use Rattle.std.proofs.lemmas.List.Elements.{All-head, All-tail}
use Rattle.sg_words.specs.declared.operators.Ty.{Ty}
use Rattle.sg_words.specs.Words.{number}
use Rattle.sg_coord.specs.declared.coord.Coord.{Coord}
use Rattle.sg_coord.specs.Coord.{is_inside, row_of, plane_point}
use Rattle.sg_coord.specs.Laws.{InsideTest, PointOfRow}
use Rattle.sg_layout.specs.declared.shape.Shape.{Shape}
use Rattle.sg_layout.specs.Axes.{bounds_of_shape}
use Rattle.sg_flat.specs.declared.state.FlatLayout.{FlatLayout}
use Rattle.sg_flat.specs.State.{IsFlatField, IsFlatLayout, words_or_none, value_in, value_at}
use Rattle.sg_flat.specs.Words.{word_at}
use Rattle.sg_flat.proofs.Uses.{word_is_active}
use Rattle.sg_store.specs.StoreWords.{StoreWords}
use Rattle.sg_store.specs.Walks.{cell_in}
use Rattle.sg_store.specs.WellFormed.{IsWellFormed}
use Rattle.sg_store.specs.StandsFor.{StandsFor}
use Rattle.sg_store.specs.StoreLaws.{CellsAreActive}
use Rattle.sg_image.specs.Grey.{grey_of}
use Rattle.sg_image.specs.Pgm.{behind, texts_below, image_row_text, pgm_text, pgm_head}
use Rattle.sg_image.specs.Image.{type_of_field, grey_at, image_text}
use Rattle.sg_image.specs.steps.Keeping.{word_or_zero, kept_word, kept_grey}

-- ---- values

-- a value that isn't 0 is that of an active coordinate
field_active : InsideTest → PointOfRow → (shape : Shape) (active : List Coord) (fields : List (List (ℕ × ℕ))) → All (IsFlatField shape active) fields → (place : ℕ) (at : Coord)
    → (value_in (bounds_of_shape shape) (words_or_none (slice_get fields place)) at ≡ 0 → ⊥) → is_inside (bounds_of_shape shape) at ≡ true → Contains active at
field_active inside_test point_of_row shape active [] all place at some inside = absurd (some (ap (λ b. cond b 0 0) inside))
field_active inside_test point_of_row shape active (words ∷ fields) all zero at some inside =
    let bounds = bounds_of_shape shape in
    subst (λ (c : Coord). Contains active c) (point_of_row bounds at ((inside_test bounds at).0 inside))
    (word_is_active active bounds words (row_of bounds at) (All-head (IsFlatField shape active) words fields all).active_rows
    (λ none. some (ap (λ b. cond b (word_at words (row_of bounds at)) 0) inside ∙ none)))
field_active inside_test point_of_row shape active (words ∷ fields) all (suc place) at some inside =
    field_active inside_test point_of_row shape active fields (All-tail (IsFlatField shape active) words fields all) place at some inside

inactive_zero : InsideTest → PointOfRow → (shape : Shape) (flat : FlatLayout) → IsFlatLayout shape flat → (place : ℕ) (at : Coord) → (Contains flat.active at → ⊥) → value_at shape flat place at ≡ 0
inactive_zero inside_test point_of_row shape flat is place at idle =
    elim (cases_Bool (is_inside (bounds_of_shape shape) at)) [
      | inl inside ↦
          elim (cases_eq (value_at shape flat place at) 0) [
            | inl none ↦ none
            | inr some ↦ absurd (idle (field_active inside_test point_of_row shape flat.active flat.fields is.fields_fit place at some inside))
          ]
      | inr outside ↦ cond-false (is_inside (bounds_of_shape shape) at) (word_at (words_or_none (slice_get flat.fields place)) (row_of (bounds_of_shape shape) at)) 0 outside
    ]

pub kept_is : InsideTest → PointOfRow → (store : StoreWords) → IsWellFormed store → CellsAreActive store → (flat : FlatLayout) → StandsFor store flat → (place : ℕ) → place < length store.shape.fields → (at : Coord)
    → kept_word store place at ≡ value_at store.shape flat place at
kept_is inside_test point_of_row store well active flat stands place there at = by_case (cell_in store at) refl where
  by_case : (cell : Option ℕ) → cell_in store at ≡ cell → word_or_zero store place cell ≡ value_at store.shape flat place at
  by_case None is = sym (inactive_zero inside_test point_of_row store.shape flat stands.is_flat place at
      (λ has. let some = (active well flat stands at).1 has in absurd (cc (ap is_some is))))
  by_case (Some cell) is = stands.values at cell is place there

-- ---- texts

same_below : (n : ℕ) (f g : ℕ → List ℕ) → ((k : ℕ) → f k ≡ g k) → texts_below n f ≡ texts_below n g
same_below zero f g same = refl
same_below (suc n) f g same = ap (λ (t : List ℕ). t ++ f n) (same_below n f g same) ∙ ap (λ (t : List ℕ). texts_below n g ++ t) (same n)

same_row : (width : ℕ) (f g : ℕ → ℕ) → ((k : ℕ) → f k ≡ g k) → image_row_text width f ≡ image_row_text width g
same_row width f g same =
    same_below width (λ column. decimal (f column) ++ behind width column ∷ []) (λ column. decimal (g column) ++ behind width column ∷ [])
    (λ column. ap (λ (grey : ℕ). decimal grey ++ behind width column ∷ []) (same column))

same_image : (width height : ℕ) (f g : ℕ → ℕ → ℕ) → ((row column : ℕ) → f row column ≡ g row column) → pgm_text width height f ≡ pgm_text width height g
same_image width height f g same =
    ap (λ (t : List ℕ). pgm_head width height ++ t) (same_below height (λ row. image_row_text width (f row)) (λ row. image_row_text width (g row)) (λ row. same_row width (f row) (g row) (same row)))

-- the image of what a store keeps is that of what it stands for
pub image_is : InsideTest → PointOfRow → (store : StoreWords) → IsWellFormed store → CellsAreActive store → (flat : FlatLayout) → StandsFor store flat → (place : ℕ) → place < length store.shape.fields
    → (lo hi : ℤ) (type : Ty) → type ≡ type_of_field store.shape place → (width height : ℕ) → width ≡ (bounds_of_shape store.shape).b → height ≡ (bounds_of_shape store.shape).a
    → pgm_text width height (kept_grey store place type lo hi) ≡ image_text store.shape flat place lo hi
image_is inside_test point_of_row store well active flat stands place there lo hi type is width height wide high =
    same_image width height (kept_grey store place type lo hi) (grey_at store.shape flat place lo hi)
    (λ row column. ap (λ (word : ℕ). grey_of lo hi (number type word)) (kept_is inside_test point_of_row store well active flat stands place there (plane_point (pos row) (pos column)))
    ∙ ap (λ (t : Ty). grey_of lo hi (number t (value_at store.shape flat place (plane_point (pos row) (pos column))))) is)
    ∙ ap (λ (w : ℕ). pgm_text w height (grey_at store.shape flat place lo hi)) wide
    ∙ ap (λ (h : ℕ). pgm_text (bounds_of_shape store.shape).b h (grey_at store.shape flat place lo hi)) high

-- one more text
pub texts_more : (n : ℕ) (f : ℕ → List ℕ) (before old new : List ℕ) → old ≡ before ++ texts_below n f → new ≡ old ++ f n → new ≡ before ++ texts_below (n + 1) f
texts_more n f before old new so pushed =
    let more : texts_below (n + 1) f ≡ texts_below n f ++ f n = rw add-one refl in
    pushed ∙ ap (λ (t : List ℕ). t ++ f n) so ∙ append_assoc before (texts_below n f) (f n) ∙ ap (λ (t : List ℕ). before ++ t) (sym more)
