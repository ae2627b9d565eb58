-- Flat states are worlds in which values are words, and coordinates of places are told.
use Rattle.std.proofs.Common.{◌≡◌, ℕ, zero, suc, ◌^◌, Bool, true, false, ◌==◌, nat_lt, if◌then◌else◌, slice_get, List, [], ◌∷◌, length, get_or, take, Option, Some, None, All, refl, sym, ap, ◌∙◌, subst, arith}
use Rattle.std.proofs.lemmas.Bool.{and_parts, both_ways, ltb-true}
use Rattle.std.proofs.lemmas.Map.Views.{Contains-from_any}
use Rattle.std.specs.List.{list_any}
use Rattle.std.specs.Prelude.{option_map, Contains}
use Rattle.std.proofs.lemmas.List.Elements.{All-nil, All-cons, All-head, All-tail}
use Rattle.sg_words.specs.declared.operators.Ty.{Ty}
use Rattle.sg_words.specs.declared.operators.BinOp.{BinOp}
use Rattle.sg_words.specs.declared.operators.UnOp.{UnOp}
use Rattle.sg_words.specs.Words.{word_of}
use Rattle.sg_words.specs.WordLaws.{IsWord, AppliedIsWord, AppliedUnIsWord, MulqIsWord}
use Rattle.sg_coord.specs.declared.coord.Coord.{Coord}
use Rattle.sg_coord.specs.Coord.{is_inside, row_of}
use Rattle.sg_coord.specs.Laws.{InsideTest}
use Rattle.sg_layout.specs.declared.shape.Shape.{Shape}
use Rattle.sg_layout.specs.Axes.{bounds_of_shape}
use Rattle.sg_layout.specs.Path.{offsets}
use Rattle.sg_layout.specs.Slots.{coordinate_of}
use Rattle.sg_layout.specs.PathLaws.{CoordinateOfPath}
use Rattle.sg_layout.specs.ClosureLaws.{ClosureIsInside}
use Rattle.sg_flat.specs.Domain.{active_in, same_coord}
use Rattle.sg_flat.proofs.Uses.{same_is}
use Rattle.sg_flat.specs.declared.state.FlatState.{FlatState}
use Rattle.sg_flat.specs.declared.state.FlatLayout.{FlatLayout}
use Rattle.sg_flat.specs.Words.{are_words, word_at}
use Rattle.sg_flat.specs.State as flat
use Rattle.sg_flat.specs.State.{IsFlat, IsFlatField, IsFlatLayout, AreFlatLayouts}
use Rattle.sg_flat.specs.Kernel.{is_inside_of}
use Rattle.sg_types.specs.Values.{coord_of}
use Rattle.sg_types.specs.Iterations.{part_words}
use Rattle.sg_ir.specs.Runs.{at_of}
use Rattle.sg_ir.specs.Places.{place_of_coord, place_at}
use Rattle.sg_lower.specs.steps.Agreeing.{inside_or_none, IsWorld, IsPoint}
use Rattle.sg_lower.proofs.Telling.{word_small}

word_at_small : (words : List (ℕ × ℕ)) (row : ℕ) → are_words words ≡ true → IsWord (word_at words row)
word_at_small [] row h = omega arith
word_at_small (entry ∷ words) row h =
    let p = and_parts (nat_lt entry.1 (2 ^ 32)) (are_words words) h in
    either (entry.0 == row) (ltb-true entry.1 (2 ^ 32) p.0) (word_at_small words row p.1)
  where
    either : (b : Bool) → IsWord entry.1 → IsWord (word_at words row) → IsWord (if b then entry.1 else word_at words row)
    either true h g = h
    either false h g = g

field_small : (shape : Shape) (active : List Coord) (fields : List (List (ℕ × ℕ))) → All (IsFlatField shape active) fields → (place row : ℕ) → IsWord (word_at (flat.words_or_none (slice_get fields place)) row)
field_small shape active [] all place row = omega arith
field_small shape active (words ∷ fields) all zero row = word_at_small words row (All-head (IsFlatField shape active) words fields all).in_range
field_small shape active (words ∷ fields) all (suc place) row = field_small shape active fields (All-tail (IsFlatField shape active) words fields all) place row

value_small : (shape : Shape) (layout : FlatLayout) → IsFlatLayout shape layout → (place : ℕ) (at : Coord) → IsWord (flat.value_at shape layout place at)
value_small shape layout fine place at = either (is_inside (bounds_of_shape shape) at) (field_small shape layout.active layout.fields fine.fields_fit place (row_of (bounds_of_shape shape) at))
  where
    either : (b : Bool) → IsWord (word_at (flat.words_or_none (slice_get layout.fields place)) (row_of (bounds_of_shape shape) at))
        → IsWord (if b then word_at (flat.words_or_none (slice_get layout.fields place)) (row_of (bounds_of_shape shape) at) else 0)
    either true h = h
    either false h = omega arith

flat_small : (shapes : List Shape) (layouts : List FlatLayout) → AreFlatLayouts shapes layouts → (layout place : ℕ) (at : Coord) → IsWord (flat.value_or_zero (slice_get shapes layout) (slice_get layouts layout) place at)
flat_small [] layouts fine layout place at = omega arith
flat_small (shape ∷ shapes) [] fine layout place at = absurd fine
flat_small (shape ∷ shapes) (first ∷ layouts) fine zero place at = value_small shape first fine.0 place at
flat_small (shape ∷ shapes) (first ∷ layouts) fine (suc layout) place at = flat_small shapes layouts fine.1 layout place at

-- nothing outside is active
module _ (inside_test : InsideTest) (closures : (shape : Shape) → ClosureIsInside shape) where
  idle_outside : (shape : Shape) (layout : FlatLayout) → IsFlatLayout shape layout → (at : Coord) → is_inside (bounds_of_shape shape) at ≡ false → list_any (same_coord at) layout.active ≡ false
  idle_outside shape layout fine at outside = by_test (list_any (same_coord at) layout.active) refl
    where
      by_test : (test : Bool) → list_any (same_coord at) layout.active ≡ test → list_any (same_coord at) layout.active ≡ false
      by_test false e = e
      by_test true e =
          let there : Contains layout.active at = Contains-from_any same_is at layout.active e in
          let inside = (closures shape layout.active at (subst (λ (cs : List Coord). Contains cs at) fine.closed there)).1 in
          absurd (both_ways false refl (sym outside ∙ (inside_test (bounds_of_shape shape) at).1 inside))

  none_outside : (shapes : List Shape) (layouts : List FlatLayout) → AreFlatLayouts shapes layouts → (layout : ℕ) (at : Coord) → is_inside_of (slice_get shapes layout) at ≡ false
      → list_any (same_coord at) (active_in (slice_get layouts layout)) ≡ false
  none_outside [] [] fine layout at outside = refl
  none_outside [] (first ∷ layouts) fine layout at outside = absurd fine
  none_outside (shape ∷ shapes) [] fine layout at outside = absurd fine
  none_outside (shape ∷ shapes) (first ∷ layouts) fine zero at outside = idle_outside shape first fine.0 at outside
  none_outside (shape ∷ shapes) (first ∷ layouts) fine (suc layout) at outside = none_outside shapes layouts fine.1 layout at outside

module _ (inside_test : InsideTest) (closures : (shape : Shape) → ClosureIsInside shape) (paths : (shape : Shape) → CoordinateOfPath shape) where
  reached : (shapes : List Shape) (layout : ℕ) (at : Coord) → at_of shapes (place_at shapes layout at) ≡ inside_or_none shapes layout at
  reached shapes layout at = by_shape (slice_get shapes layout) refl
    where
      by_test : (shape : Shape) → slice_get shapes layout ≡ Some shape → (b : Bool) → is_inside (bounds_of_shape shape) at ≡ b
          → at_of shapes (if b then Some (record { layout = layout; path = offsets shape.nodes at }) else None) ≡ (if b then Some at else None)
      by_test shape there false test = refl
      by_test shape there true test =
          ap (λ (found : Option Shape). option_map (λ (it : Shape). coordinate_of it (offsets shape.nodes at)) found) there
          ∙ ap (λ (c : Coord). Some c) (paths shape at ((inside_test (bounds_of_shape shape) at).0 test))

      by_shape : (found : Option Shape) → slice_get shapes layout ≡ found → at_of shapes (place_at shapes layout at) ≡ inside_or_none shapes layout at
      by_shape None there =
          ap (λ (found : Option Shape). at_of shapes (place_of_coord layout at found)) there
          ∙ sym (ap (λ (found : Option Shape). if is_inside_of found at then Some at else None) there)
      by_shape (Some shape) there =
          ap (λ (found : Option Shape). at_of shapes (place_of_coord layout at found)) there
          ∙ (by_test shape there (is_inside (bounds_of_shape shape) at) refl
          ∙ sym (ap (λ (found : Option Shape). if is_inside_of found at then Some at else None) there))

  pub flat_world : ((op : BinOp) (given : Ty) (a b : ℕ) → AppliedIsWord op given a b) → ((op : UnOp) (a : ℕ) → AppliedUnIsWord op a) → ((a b s : ℕ) → MulqIsWord a b s)
      → (shapes : List Shape) (state : FlatState) → IsFlat shapes state → IsWorld shapes (record { shapes = shapes; state = state })
  flat_world applied applied_un mulq shapes state fine = record {
    shapes_are = refl;
    applied = applied;
    applied_un = applied_un;
    mulq = mulq;
    small = flat_small shapes state.layouts fine;
    reached = reached shapes;
    inside = none_outside inside_test closures shapes state.layouts fine;
  }

parts_small : (n : ℕ) (words : List ℕ) → All IsWord words → (var : ℕ) → IsWord (get_or (take n words) var 0)
parts_small zero words all var = omega arith
parts_small (suc n) [] all var = omega arith
parts_small (suc n) (word ∷ words) all zero = All-head IsWord word words all
parts_small (suc n) (word ∷ words) all (suc var) = parts_small n words (All-tail IsWord word words all) var

pub is_point : (vars : ℕ) (at : Coord) → length (part_words at) ≡ vars → coord_of (part_words at) ≡ at → IsPoint vars at
is_point vars at parts whole = record {
  parts = parts;
  whole = whole;
  small = parts_small at.n (word_of at.a ∷ word_of at.b ∷ word_of at.c ∷ [])
      (All-cons IsWord (word_of at.a) (word_of at.b ∷ word_of at.c ∷ []) (word_small at.a) (All-cons IsWord (word_of at.b) (word_of at.c ∷ []) (word_small at.b) (All-cons IsWord (word_of at.c) [] (word_small at.c) (All-nil IsWord))));
}
