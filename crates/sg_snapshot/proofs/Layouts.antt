-- The part of a flat layout is that layout.
use Rattle.std.proofs.Common.{◌≡◌, ◌⊎◌, inl, inr, ℕ, Bool, true, false, eqb, List, [], ◌∷◌, map, refl, sym, ap, ap₂, ◌∙◌, subst}
use Rattle.std.specs.List.{Contains, All}
use Rattle.std.proofs.lemmas.Bool.{cases_eq, cond-true, cond-false, eqb-true, eq-eqb}
use Rattle.std.proofs.lemmas.List.Elements.{All-head, All-tail}
use Rattle.sg_words.proofs.Uses.{contains_none, contains_head, contains_rest, contains_cases, into_map}
use Rattle.sg_coord.specs.declared.coord.Coord.{Coord}
use Rattle.sg_coord.specs.Bounds.{Bounds, volume}
use Rattle.sg_coord.specs.Coord.{Inside, is_inside, row_of, point_at}
use Rattle.sg_coord.specs.Laws.{InsideTest, PointOfRow, RowOfPoint}
use Rattle.sg_layout.specs.declared.shape.Shape.{Shape}
use Rattle.sg_layout.specs.Axes.{bounds_of_shape}
use Rattle.sg_layout.specs.ClosureLaws.{ClosureIsInside}
use Rattle.sg_flat.specs.declared.state.FlatLayout.{FlatLayout}
use Rattle.sg_flat.specs.State.{IsFlatField, IsFlatLayout, value_in}
use Rattle.sg_flat.specs.Words.{word_at, words_of}
use Rattle.sg_flat.proofs.Uses.{words_of-agree, word_is_active}
use Rattle.sg_snapshot.specs.Image.{part_of}
use Rattle.sg_snapshot.specs.Restoring.{word_beside, layout_of}

-- points with the row numbers of coordinates inside are these coordinates
pub points_back : (b : Bounds) → PointOfRow → (list : List Coord) → ((at : Coord) → Contains list at → Inside b at) → map (point_at b) (map (row_of b) list) ≡ list
points_back b point [] inside = refl
points_back b point (at ∷ list) inside =
    ap₂ (λ (x : Coord) (xs : List Coord). x ∷ xs) (point b at (inside at (contains_head at at list refl))) (points_back b point list (λ x has. inside x (contains_rest x at list has)))

-- the word beside a row is the field's, where rows that aren't there have none
word_back : (b : Bounds) (words : List (ℕ × ℕ)) (row : ℕ) (list : List Coord) → ((at : Coord) → Contains list at → is_inside b at ≡ true)
    → (word_at words row ≡ 0) ⊎ Contains (map (row_of b) list) row → word_beside (map (row_of b) list) (map (value_in b words) list) row ≡ word_at words row
word_back b words row [] inside (inl none) = sym none
word_back b words row [] inside (inr has) = absurd (contains_none row has)
word_back b words row (at ∷ list) inside there = elim (cases_eq (row_of b at) row) [
  | inl same ↦
      cond-true (eqb (row_of b at) row) (value_in b words at) (word_beside (map (row_of b) list) (map (value_in b words) list) row) (eq-eqb (row_of b at) row same)
      ∙ cond-true (is_inside b at) (word_at words (row_of b at)) 0 (inside at (contains_head at at list refl))
      ∙ ap (λ (r : ℕ). word_at words r) same
  | inr apart ↦
      cond-false (eqb (row_of b at) row) (value_in b words at) (word_beside (map (row_of b) list) (map (value_in b words) list) row) (not_same (row_of b at) row apart)
      ∙ word_back b words row list (λ x has. inside x (contains_rest x at list has)) (later there apart)
] where
  not_same : (x y : ℕ) → (x ≡ y → ⊥) → eqb x y ≡ false
  not_same x y apart = by_test (eqb x y) refl where
    by_test : (t : Bool) → eqb x y ≡ t → t ≡ false
    by_test true e = absurd (apart (eqb-true x y e))
    by_test false e = refl

  later : (word_at words row ≡ 0) ⊎ Contains (map (row_of b) (at ∷ list)) row → (row_of b at ≡ row → ⊥) → (word_at words row ≡ 0) ⊎ Contains (map (row_of b) list) row
  later (inl none) apart = inl none
  later (inr has) apart = elim (contains_cases row (row_of b at) (map (row_of b) list) has) [ inl same ↦ absurd (apart same) | inr l ↦ inr l ]

field_back : (shape : Shape) (active : List Coord) (words : List (ℕ × ℕ)) → InsideTest → RowOfPoint → ((at : Coord) → Contains active at → Inside (bounds_of_shape shape) at) → IsFlatField shape active words
    → words_of (volume (bounds_of_shape shape)) (word_beside (map (row_of (bounds_of_shape shape)) active) (map (value_in (bounds_of_shape shape) words) active)) ≡ words
field_back shape active words test rows inside is =
    words_of-agree (volume (bounds_of_shape shape)) (word_beside (map (row_of (bounds_of_shape shape)) active) (map (value_in (bounds_of_shape shape) words) active)) (word_at words)
    (λ row below. word_back (bounds_of_shape shape) words row active (λ at has. (test (bounds_of_shape shape) at).1 (inside at has))
    (elim (cases_eq (word_at words row) 0) [
      | inl none ↦ inl none
      | inr some ↦ inr (subst (λ (r : ℕ). Contains (map (row_of (bounds_of_shape shape)) active) r) (rows (bounds_of_shape shape) row below)
          (into_map (row_of (bounds_of_shape shape)) active (point_at (bounds_of_shape shape) row) (word_is_active active (bounds_of_shape shape) words row is.active_rows some)))
    ]))
    ∙ sym is.canonical

fields_back : (shape : Shape) (active : List Coord) (fields : List (List (ℕ × ℕ))) → InsideTest → RowOfPoint → ((at : Coord) → Contains active at → Inside (bounds_of_shape shape) at) → All (IsFlatField shape active) fields
    → map (λ (words : List ℕ). words_of (volume (bounds_of_shape shape)) (word_beside (map (row_of (bounds_of_shape shape)) active) words)) (map (λ (words : List (ℕ × ℕ)). map (value_in (bounds_of_shape shape) words) active) fields) ≡ fields
fields_back shape active [] test rows inside fit = refl
fields_back shape active (words ∷ fields) test rows inside fit =
    ap₂ (λ (x : List (ℕ × ℕ)) (xs : List (List (ℕ × ℕ))). x ∷ xs)
    (field_back shape active words test rows inside (All-head (IsFlatField shape active) words fields fit))
    (fields_back shape active fields test rows inside (All-tail (IsFlatField shape active) words fields fit))

abbrev made : List Coord → List (List (ℕ × ℕ)) → FlatLayout
made active fields = record { active = active; fields = fields }

pub layout_back : InsideTest → PointOfRow → RowOfPoint → (shape : Shape) → ClosureIsInside shape → (flat : FlatLayout) → IsFlatLayout shape flat → layout_of shape (part_of shape flat) ≡ flat
layout_back test point rows shape closed flat is =
    let inside : (at : Coord) → Contains flat.active at → Inside (bounds_of_shape shape) at = λ at has. (closed flat.active at (subst (λ (l : List Coord). Contains l at) is.closed has)).1 in
    ap₂ made (points_back (bounds_of_shape shape) point flat.active inside) (fields_back shape flat.active flat.fields test rows inside is.fields_fit)
