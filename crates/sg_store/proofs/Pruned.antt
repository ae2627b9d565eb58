-- The layout with only the coordinates kept that have a value: it is flat, and a cell has a word where its coordinate has a value.
use Rattle.std.proofs.Common.{◌≡◌, ℕ, suc, ◌+◌, ◌<◌, Bool, true, not, ◌||◌, ◌==◌, List, [], ◌∷◌, length, map, get_or, Some, refl, sym, ap, ◌∙◌, subst, arith}
use Rattle.std.specs.Prelude.{slice_get, slice_index, slice_index_or}
use Rattle.std.specs.List.{All, Contains, list_any, range_with_len}
use Rattle.std.proofs.lemmas.Bool.{cond-true, ne_eqb, false≢true}
use Rattle.std.proofs.lemmas.List.Elements.{Contains-get_or}
use Rattle.std.proofs.lemmas.List.Folds.{list_any_at}
use Rattle.std.proofs.lemmas.List.FromFn.{length-range_with_len, get_or-range_with_len}
use Rattle.sg_words.proofs.Uses.{from_filter, into_filter, from_map}
use Rattle.sg_coord.specs.declared.coord.Coord.{Coord}
use Rattle.sg_coord.specs.Bounds.{Bounds, volume}
use Rattle.sg_coord.specs.Coord.{is_inside, row_of, point_at}
use Rattle.sg_coord.specs.Laws.{InsideTest, RowOfPoint}
use Rattle.sg_layout.specs.declared.shape.Shape.{Shape}
use Rattle.sg_layout.specs.Axes.{bounds_of_shape}
use Rattle.sg_layout.specs.Closure.{closure}
use Rattle.sg_layout.specs.ClosureLaws.{ClosureIsInside, ClosureExtends, ClosureIsClosed}
use Rattle.sg_flat.specs.declared.state.FlatLayout.{FlatLayout}
use Rattle.sg_flat.specs.State.{IsFlatField, IsFlatLayout, words_or_none, value_in}
use Rattle.sg_flat.specs.Words.{word_at, words_of}
use Rattle.sg_store.specs.StoreWords.{StoreWords}
use Rattle.sg_store.specs.Walks.{cell_in}
use Rattle.sg_store.specs.WellFormed.{IsWellFormed}
use Rattle.sg_store.specs.StandsFor.{StandsFor}
use Rattle.sg_store.specs.StoreLaws.{CellsAreActive}
use Rattle.sg_store.specs.Pruning.{has_value, valued_coordinates, pruned}
use Rattle.sg_store.specs.steps.StorePlans.{has_word}

-- the laws of coordinates, layouts and cells that tell it
pub record PruneLaws (store : StoreWords) : Type 0 where
  pub inside_test : InsideTest
  pub row_of_point : RowOfPoint
  pub closure_inside : ClosureIsInside store.shape
  pub extends : ClosureExtends store.shape
  pub closed : ClosureIsClosed store.shape
  pub active : CellsAreActive store

-- ---- where some field isn't 0

-- words and values that agree place by place are both 0, or neither
any_same : (bounds : Bounds) (at : Coord) (cell : ℕ) (rows : List (List ℕ)) (fields : List (List (ℕ × ℕ))) → length rows ≡ length fields
    → ((place : ℕ) → place < length rows → slice_index (slice_index_or rows place []) cell ≡ value_in bounds (words_or_none (slice_get fields place)) at)
    → list_any (λ row. not (slice_index row cell == 0)) rows ≡ list_any (λ words. not (value_in bounds words at == 0)) fields
any_same bounds at cell [] [] many same = refl
any_same bounds at cell [] (words ∷ fields) many same = absurd (omega (arith, many))
any_same bounds at cell (row ∷ rows) [] many same = absurd (omega (arith, many))
any_same bounds at cell (row ∷ rows) (words ∷ fields) many same =
    let first : not (slice_index row cell == 0) ≡ not (value_in bounds words at == 0) = ap (λ (n : ℕ). not (n == 0)) (same 0 (omega arith)) in
    let rest = any_same bounds at cell rows fields (omega (arith, many)) (λ place below. same (suc place) (omega arith)) in
    ap (λ (t : Bool). t || list_any (λ r. not (slice_index r cell == 0)) rows) first ∙ ap (λ (t : Bool). not (value_in bounds words at == 0) || t) rest

-- a cell has a word where its coordinate has a value
pub words_are_values : (store : StoreWords) → IsWellFormed store → (flat : FlatLayout) → StandsFor store flat → (at : Coord) (cell : ℕ) → cell_in store at ≡ Some cell → has_word store cell ≡ has_value store.shape flat at
words_are_values store well flat stands at cell leads =
    any_same (bounds_of_shape store.shape) at cell store.fields flat.fields (well.field_count ∙ sym stands.is_flat.field_count)
    (λ place below. stands.values at cell leads place (subst (λ (n : ℕ). place < n) well.field_count below))

-- ---- the pruned layout is flat

-- an entry of a field has a word other than 0 at its row, which is one of the layout
entry_some : (size : ℕ) (words : List (ℕ × ℕ)) → words ≡ words_of size (word_at words) → (entry : ℕ × ℕ) → Contains words entry → (entry.0 < size) × (word_at words entry.0 ≡ 0 → ⊥)
entry_some size words canonical entry has =
    let f : ℕ → ℕ × ℕ = λ row. (row, word_at words row) in
    let test : ℕ × ℕ → Bool = λ e. not (e.1 == 0) in
    let found = from_filter test (map f (range_with_len 0 size)) entry (subst (λ (list : List (ℕ × ℕ)). Contains list entry) canonical has) in
    let row = from_map f (range_with_len 0 size) entry found.0 in
    let at_row : row.0 ≡ entry.0 = ap (λ (e : ℕ × ℕ). e.0) row.2 in
    let word : word_at words row.0 ≡ entry.1 = ap (λ (e : ℕ × ℕ). e.1) row.2 in
    let listed = row.1 in
    let many = length-range_with_len 0 size in
    let short : listed.0 < size = omega (arith, listed.1, many) in
    let is : 0 + listed.0 ≡ row.0 = sym (get_or-range_with_len 0 size listed.0 row.0 short) ∙ listed.2 in (
      omega (arith, short, is, at_row),
      λ none. let zero_word : entry.1 ≡ 0 = sym word ∙ ap (word_at words) at_row ∙ none in
          false≢true (sym (ap (λ (n : ℕ). not (n == 0)) zero_word) ∙ found.1),
    )

field_kept : (shape : Shape) → InsideTest → RowOfPoint → ClosureIsInside shape → ClosureExtends shape → (flat : FlatLayout) → flat.active ≡ closure shape flat.active
    → (words : List (ℕ × ℕ)) → ((at : Coord) → (value_in (bounds_of_shape shape) words at ≡ 0 → ⊥) → has_value shape flat at ≡ true) → IsFlatField shape flat.active words
    → IsFlatField shape (closure shape (valued_coordinates shape flat)) words
field_kept shape inside_test row_of_point closure_inside extends flat closed words valued is = record {
  canonical = is.canonical;
  in_range = is.in_range;
  active_rows = λ k d below.
      let bounds = bounds_of_shape shape in
      let entry = get_or words k d in
      let at = point_at bounds entry.0 in
      let some = entry_some (volume bounds) words is.canonical entry (Contains-get_or words k d below) in
      let active = is.active_rows k d below in
      let inside = (closure_inside flat.active at (subst (λ (list : List Coord). Contains list at) closed active)).1 in
      let value : value_in bounds words at ≡ word_at words entry.0 =
      cond-true (is_inside bounds at) (word_at words (row_of bounds at)) 0 ((inside_test bounds at).1 inside) ∙ ap (word_at words) (row_of_point bounds entry.0 some.0) in
      extends (valued_coordinates shape flat) at (into_filter (has_value shape flat) flat.active at active (valued at (λ none. some.1 (sym value ∙ none)))) inside;
}

fields_kept : (shape : Shape) → InsideTest → RowOfPoint → ClosureIsInside shape → ClosureExtends shape → (flat : FlatLayout) → flat.active ≡ closure shape flat.active
    → All (IsFlatField shape flat.active) flat.fields → All (IsFlatField shape (closure shape (valued_coordinates shape flat))) flat.fields
fields_kept shape inside_test row_of_point closure_inside extends flat closed all k d below =
    field_kept shape inside_test row_of_point closure_inside extends flat closed (get_or flat.fields k d)
    (λ at some. list_any_at (λ words. not (value_in (bounds_of_shape shape) words at == 0)) flat.fields k d below
    (ap not (ne_eqb (value_in (bounds_of_shape shape) (get_or flat.fields k d) at) 0 some)))
    (all k d below)

pub pruned_is_flat : (store : StoreWords) → PruneLaws store → (flat : FlatLayout) → IsFlatLayout store.shape flat → IsFlatLayout store.shape (pruned store.shape flat)
pruned_is_flat store laws flat is = record {
  closed = sym (laws.closed (valued_coordinates store.shape flat));
  field_count = is.field_count;
  fields_fit = fields_kept store.shape laws.inside_test laws.row_of_point laws.closure_inside laws.extends flat is.closed is.fields_fit;
}
