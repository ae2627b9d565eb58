-- Layouts by the words of their fields in each row are flat, and a word more is a value set.
use Rattle.std.proofs.Common.{◌≡◌, ℕ, zero, suc, ◌+◌, ◌-◌, ◌^◌, ◌<◌, ◌≤◌, ◌⊎◌, inl, inr, Bool, true, false, ◌&&◌, not, cond, eqb, ltb, List, [], ◌∷◌, map, length, get_or, Option, Some, refl, sym, ap, ap₂, ◌∙◌, subst, arith}
use Rattle.std.specs.Prelude.{◌≢◌, All, Contains, filter, slice_get}
use Rattle.std.specs.List.{range_with_len}
use Rattle.std.proofs.lemmas.Bool.{both_ways, cases_eq, cases_lt, cond-true, eqb-true, eq-eqb, ne_eqb, not-true, and_parts, lt-ltb, le-ltb, ltb-true}
use Rattle.std.proofs.lemmas.List.Elements.{All-map, All-filter, All-weaker, filter_passes}
use Rattle.std.proofs.lemmas.List.Sums.{list_all-from_AllPass}
use Rattle.std.proofs.lemmas.List.FromFn.{length-map-range_with_len, get_or-map-range_with_len, get_or-range_with_len, length-range_with_len}
use Rattle.std.proofs.lemmas.Option.{slice_get_read, slice_get_past}
use Rattle.sg_coord.specs.declared.coord.Coord.{Coord}
use Rattle.sg_coord.specs.Bounds.{Bounds, volume}
use Rattle.sg_coord.specs.Coord.{is_inside, row_of, point_at}
use Rattle.sg_coord.specs.Laws.{InsideTest, PointInside, PointOfRow, RowOfPoint, RowBelow}
use Rattle.sg_layout.specs.declared.shape.Shape.{Shape}
use Rattle.sg_layout.specs.Axes.{bounds_of_shape}
use Rattle.sg_layout.specs.Closure.{closure}
use Rattle.sg_flat.specs.declared.state.FlatLayout.{FlatLayout}
use Rattle.sg_flat.specs.State.{IsFlatField, IsFlatLayout, value_in, words_or_none, value_at}
use Rattle.sg_flat.specs.Words.{word_at, words_of}
use Rattle.sg_flat.proofs.Uses.{word_at-words_of, words_of-agree, are_words_of}
use Rattle.sg_store.specs.StandsFor.{SetsValue}
use Rattle.sg_snapshot.specs.steps.Laying.{laid, IsLaid, put_row}

-- the laws of coordinates that the lemmas stand on
pub record PointLaws : Type 0 where
  pub inside_test : InsideTest
  pub point_inside : PointInside
  pub point_of_row : PointOfRow
  pub row_of_point : RowOfPoint
  pub row_below : RowBelow

pub point_laws : InsideTest → PointInside → PointOfRow → RowOfPoint → RowBelow → PointLaws
point_laws test inside point row below = record { inside_test = test; point_inside = inside; point_of_row = point; row_of_point = row; row_below = below }

-- ---- laid layouts are flat
-- what a filter keeps has what all that pass it have
kept_have : {X : Type 0} (test : X → Bool) (P : X → Type 0) (xs : List X) → All (λ x. test x ≡ true → P x) xs → All P (filter test xs)
kept_have {X} test P xs all =
    let Q : X → Type 0 = λ x. test x ≡ true → P x in
    λ k d below. All-filter test Q xs all k d below (filter_passes test xs k d below)

abbrev some_word : ℕ × ℕ → Bool
some_word entry = not (eqb entry.1 0)

rows_are : (size : ℕ) → All (λ row. row < size) (range_with_len 0 size)
rows_are size k d below =
    let small : k < size = omega (arith, length-range_with_len 0 size) in
    omega (arith, get_or-range_with_len 0 size k d small)

-- each word of a list that a function gives has what each row below the size has
words_have : (size : ℕ) (f : ℕ → ℕ) (P : ℕ × ℕ → Type 0) → ((row : ℕ) → row < size → f row ≢ 0 → P (row, f row)) → All P (words_of size f)
words_have size f P each =
    kept_have some_word P (map (λ (row : ℕ). (row, f row)) (range_with_len 0 size))
    (All-map (λ (entry : ℕ × ℕ). some_word entry ≡ true → P entry) (λ (row : ℕ). (row, f row)) (range_with_len 0 size)
    (All-weaker (λ row. row < size) (λ row. some_word (row, f row) ≡ true → P (row, f row))
    (λ row below passes. each row below (λ zero. both_ways (eqb (f row) 0) (not-true (eqb (f row) 0) passes) (eq-eqb (f row) 0 zero))) (range_with_len 0 size) (rows_are size)))

field_is_flat : (shape : Shape) (active : List Coord) (word : ℕ → ℕ → ℕ) (place : ℕ) → place < length shape.fields → IsLaid shape active word → IsFlatField shape active (words_of (volume (bounds_of_shape shape)) (word place))
field_is_flat shape active word place below is =
    let size = volume (bounds_of_shape shape) in
    record {
      canonical = are_words_of size (word place);
      in_range = list_all-from_AllPass (λ (entry : ℕ × ℕ). ltb entry.1 (2 ^ 32)) (words_of size (word place))
          (words_have size (word place) (λ (entry : ℕ × ℕ). ltb entry.1 (2 ^ 32) ≡ true) (λ row _ some. lt-ltb (word place row) (2 ^ 32) (is.small place row below)));
      active_rows = words_have size (word place) (λ (entry : ℕ × ℕ). Contains active (point_at (bounds_of_shape shape) entry.0)) (λ row inside some. is.there place row below inside some);
    }

pub laid_is_flat : (shape : Shape) (active : List Coord) (word : ℕ → ℕ → ℕ) → IsLaid shape active word → IsFlatLayout shape (laid shape active word)
laid_is_flat shape active word is =
    let size = volume (bounds_of_shape shape) in
    record {
      closed = is.closed;
      field_count = length-map-range_with_len (λ (place : ℕ). words_of size (word place)) 0 (length shape.fields);
      fields_fit = All-map (IsFlatField shape active) (λ (place : ℕ). words_of size (word place)) (range_with_len 0 (length shape.fields))
          (λ k d below. field_is_flat shape active word (get_or (range_with_len 0 (length shape.fields)) k d) (rows_are (length shape.fields) k d below) is);
    }

-- ---- words that agree
fields_agree : (first second : ℕ → List (ℕ × ℕ)) (from many : ℕ) → ((place : ℕ) → place < from + many → first place ≡ second place) → map first (range_with_len from many) ≡ map second (range_with_len from many)
fields_agree first second from zero same = refl
fields_agree first second from (suc many) same =
    ap₂ (λ (x : List (ℕ × ℕ)) (xs : List (List (ℕ × ℕ))). x ∷ xs) (same from (omega arith)) (fields_agree first second (from + 1) many (λ place below. same place (omega arith)))

made : List Coord → List (List (ℕ × ℕ)) → FlatLayout
made active fields = record { active = active; fields = fields }

pub laid_agree : (shape : Shape) (active : List Coord) (first second : ℕ → ℕ → ℕ) → ((place row : ℕ) → place < length shape.fields → first place row ≡ second place row) → laid shape active first ≡ laid shape active second
unfolding made
laid_agree shape active first second same =
    let size = volume (bounds_of_shape shape) in
    ap (made active) (fields_agree (λ (place : ℕ). words_of size (first place)) (λ (place : ℕ). words_of size (second place)) 0 (length shape.fields)
    (λ place below. words_of-agree size (first place) (second place) (λ row _. same place row (omega arith))))

pub is_laid_agree : (shape : Shape) (active : List Coord) (first second : ℕ → ℕ → ℕ) → ((place row : ℕ) → place < length shape.fields → first place row ≡ second place row) → IsLaid shape active first → IsLaid shape active second
is_laid_agree shape active first second same is = record {
  closed = is.closed;
  there = λ place row below inside some. is.there place row below inside (λ none. some (sym (same place row below) ∙ none));
  small = λ place row below. subst (λ (word : ℕ). word < 2 ^ 32) (same place row below) (is.small place row below);
}

-- no words at all
pub none_is_laid : (shape : Shape) (active : List Coord) → active ≡ closure shape active → IsLaid shape active (λ place row. 0)
none_is_laid shape active closed = record {
  closed = closed;
  there = λ place row below inside some. absurd (some refl);
  small = λ place row below. omega arith;
}

-- ---- its values
field_at : (shape : Shape) (active : List Coord) (word : ℕ → ℕ → ℕ) (place : ℕ) → place < length shape.fields → slice_get (laid shape active word).fields place ≡ Some (words_of (volume (bounds_of_shape shape)) (word place))
field_at shape active word place below =
    let size = volume (bounds_of_shape shape) in
    let field : ℕ → List (ℕ × ℕ) = λ (p : ℕ). words_of size (word p) in
    let fields = map field (range_with_len 0 (length shape.fields)) in
    slice_get_read fields (length shape.fields) place (field place) (sym (length-map-range_with_len field 0 (length shape.fields))) below
    (sym (get_or-map-range_with_len field 0 (length shape.fields) place place (field place) below (omega arith)))

-- a field that the shape has, at a coordinate inside
value_here : PointLaws → (shape : Shape) (active : List Coord) (word : ℕ → ℕ → ℕ) (place : ℕ) (at : Coord) → place < length shape.fields → is_inside (bounds_of_shape shape) at ≡ true
    → value_at shape (laid shape active word) place at ≡ word place (row_of (bounds_of_shape shape) at)
value_here laws shape active word place at below inside =
    let b = bounds_of_shape shape in
    ap (λ (o : Option (List (ℕ × ℕ))). value_in b (words_or_none o) at) (field_at shape active word place below)
    ∙ cond-true (is_inside b at) (word_at (words_of (volume b) (word place)) (row_of b at)) 0 inside
    ∙ word_at-words_of (volume b) (word place) (row_of b at) (laws.row_below b at ((laws.inside_test b at).0 inside))

-- two of them have the same value where they have the same words
values_agree : PointLaws → (shape : Shape) (active : List Coord) (first second : ℕ → ℕ → ℕ) (place : ℕ) (at : Coord)
    → (place < length shape.fields → is_inside (bounds_of_shape shape) at ≡ true → first place (row_of (bounds_of_shape shape) at) ≡ second place (row_of (bounds_of_shape shape) at))
    → value_at shape (laid shape active first) place at ≡ value_at shape (laid shape active second) place at
values_agree laws shape active first second place at same = elim (cases_lt place (length shape.fields)) [
  | inl below ↦ by_inside (is_inside (bounds_of_shape shape) at) refl below
  | inr past ↦ none first past ∙ sym (none second past)
] where
  b : Bounds
  b = bounds_of_shape shape

  by_inside : (t : Bool) → is_inside (bounds_of_shape shape) at ≡ t → place < length shape.fields → value_at shape (laid shape active first) place at ≡ value_at shape (laid shape active second) place at
  by_inside true inside below = value_here laws shape active first place at below inside ∙ same below inside ∙ sym (value_here laws shape active second place at below inside)
  by_inside false outside below =
      ap (λ (t : Bool). cond t (word_at (words_or_none (slice_get (laid shape active first).fields place)) (row_of (bounds_of_shape shape) at)) 0) outside
      ∙ sym (ap (λ (t : Bool). cond t (word_at (words_or_none (slice_get (laid shape active second).fields place)) (row_of (bounds_of_shape shape) at)) 0) outside)

  none : (word : ℕ → ℕ → ℕ) → length shape.fields ≤ place → value_at shape (laid shape active word) place at ≡ value_in (bounds_of_shape shape) [] at
  none word past =
      ap (λ (o : Option (List (ℕ × ℕ))). value_in (bounds_of_shape shape) (words_or_none o) at)
      (slice_get_past (laid shape active word).fields place (omega (arith, past, length-map-range_with_len (λ (p : ℕ). words_of (volume (bounds_of_shape shape)) (word p)) 0 (length shape.fields))))

-- ---- one word more in a row
put_same : (places row : ℕ) (given : ℕ → ℕ) (word : ℕ → ℕ → ℕ) (place other : ℕ) → (place ≡ places → row ≡ other → ⊥) → put_row (places + 1) row given word place other ≡ put_row places row given word place other
put_same places row given word place other apart = elim (cases_eq row other) [
  | inl same ↦ ap (λ (t : Bool). cond (t && eqb row other) (given place) (word place other)) (same_side (cases_lt place places) same)
  | inr differ ↦ not_row (places + 1) differ ∙ sym (not_row places differ)
] where
  both_false : (t : Bool) → cond (t && false) (given place) (word place other) ≡ word place other
  both_false true = refl
  both_false false = refl

  not_row : (n : ℕ) → (row ≡ other → ⊥) → put_row n row given word place other ≡ word place other
  not_row n differ = ap (λ (t : Bool). cond (ltb place n && t) (given place) (word place other)) (ne_eqb row other differ) ∙ both_false (ltb place n)

  same_side : (place < places) ⊎ (places ≤ place) → row ≡ other → ltb place (places + 1) ≡ ltb place places
  same_side (inl below) same = lt-ltb place (places + 1) (omega arith) ∙ sym (lt-ltb place places below)
  same_side (inr past) same =
      let more : places + 1 ≤ place = (let differ : place ≡ places → ⊥ = λ e. apart e same in omega arith) in
      le-ltb place (places + 1) more ∙ sym (le-ltb place places past)

put_here : (places row : ℕ) (given : ℕ → ℕ) (word : ℕ → ℕ → ℕ) → put_row (places + 1) row given word places row ≡ given places
put_here places row given word =
    ap (λ (t : Bool). cond (t && eqb row row) (given places) (word places row)) (lt-ltb places (places + 1) (omega arith))
    ∙ ap (λ (t : Bool). cond t (given places) (word places row)) (eq-eqb row row refl)

pub put_is_laid : (shape : Shape) (active : List Coord) (word : ℕ → ℕ → ℕ) (places row : ℕ) (given : ℕ → ℕ) → IsLaid shape active word → Contains active (point_at (bounds_of_shape shape) row) → ((place : ℕ) → place < places → given place < 2 ^ 32) → IsLaid shape active (put_row places row given word)
put_is_laid shape active word places row given is has small = record {
  closed = is.closed;
  there = λ place other in_it below some. by_test (ltb place places && eqb row other) place other refl in_it below some;
  small = λ place other in_it. by_size (ltb place places && eqb row other) place other refl in_it;
} where
  by_size : (t : Bool) (place other : ℕ) → ltb place places && eqb row other ≡ t → place < length shape.fields → cond t (given place) (word place other) < 2 ^ 32
  by_size true place other e in_it = small place (ltb-true place places (and_parts (ltb place places) (eqb row other) e).0)
  by_size false place other e in_it = is.small place other in_it

  by_test : (t : Bool) (place other : ℕ) → ltb place places && eqb row other ≡ t → place < length shape.fields → other < volume (bounds_of_shape shape) → cond t (given place) (word place other) ≢ 0 → Contains active (point_at (bounds_of_shape shape) other)
  by_test true place other e in_it below some = subst (λ (r : ℕ). Contains active (point_at (bounds_of_shape shape) r)) (eqb-true row other (and_parts (ltb place places) (eqb row other) e).1) has
  by_test false place other e in_it below some = is.there place other in_it below some

pub put_sets : PointLaws → (shape : Shape) (active : List Coord) (word : ℕ → ℕ → ℕ) (places row : ℕ) (given : ℕ → ℕ) → IsLaid shape active word → Contains active (point_at (bounds_of_shape shape) row) → ((place : ℕ) → place < places + 1 → given place < 2 ^ 32)
    → places < length shape.fields → row < volume (bounds_of_shape shape)
    → SetsValue shape (laid shape active (put_row places row given word)) (laid shape active (put_row (places + 1) row given word)) places (point_at (bounds_of_shape shape) row) (given places)
put_sets laws shape active word places row given is has small below inside =
    let b = bounds_of_shape shape in
    let point = point_at b row in
    let in_it : is_inside b point ≡ true = (laws.inside_test b point).1 (laws.point_inside b row inside) in
    let back : row_of b point ≡ row = laws.row_of_point b row inside in
    record {
      is_flat = laid_is_flat shape active (put_row (places + 1) row given word) (put_is_laid shape active word (places + 1) row given is has small);
      same_active = refl;
      here = value_here laws shape active (put_row (places + 1) row given word) places point below in_it
          ∙ ap (put_row (places + 1) row given word places) back ∙ put_here places row given word;
      elsewhere = λ other x apart.
          values_agree laws shape active (put_row (places + 1) row given word) (put_row places row given word) other x
          (λ other_below x_in. put_same places row given word other (row_of b x)
          (λ same_place same_row. apart (same_place, sym (laws.point_of_row b x ((laws.inside_test b x).0 x_in)) ∙ ap (point_at b) (sym same_row))));
    }
