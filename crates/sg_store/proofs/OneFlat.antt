-- A store stands for at most one flat layout, and two stores of one flat layout have the same values.
use Rattle.std.proofs.Common.{◌≡◌, ◌≢◌, ℕ, suc, ◌+◌, ◌<◌, true, not, ◌==◌, cond, List, [], ◌∷◌, length, map, get_or, refl, sym, ap, ◌∙◌, subst, arith, inl, inr}
use Rattle.std.specs.Prelude.{Some, is_some, slice_get}
use Rattle.std.specs.List.{Contains, filter, range_with_len}
use Rattle.std.proofs.lemmas.Bool.{cases_Bool, false≢true}
use Rattle.std.proofs.lemmas.Bool.Decides.{Decides-eqb}
use Rattle.std.proofs.lemmas.List.{same_lists, get_or_default}
use Rattle.std.proofs.lemmas.List.FromFn.{length-range_with_len, get_or-range_with_len}
use Rattle.std.proofs.lemmas.Option.{slice_get-get_or}
use Rattle.sg_coord.specs.declared.coord.Coord.{Coord}
use Rattle.sg_coord.specs.Bounds.{Bounds, volume}
use Rattle.sg_coord.specs.Coord.{is_inside, row_of, point_at}
use Rattle.sg_coord.specs.Laws.{InsideTest, PointInside, RowOfPoint}
use Rattle.sg_layout.specs.declared.shape.Shape.{Shape}
use Rattle.sg_layout.specs.Axes.{bounds_of_shape}
use Rattle.sg_layout.specs.ClosureLaws.{ClosureIsOfMembers}
use Rattle.sg_flat.specs.declared.state.FlatLayout.{FlatLayout}
use Rattle.sg_flat.specs.Words.{word_at, words_of}
use Rattle.sg_flat.specs.State.{IsFlatField, value_in, words_or_none, value_at}
use Rattle.sg_store.specs.StoreWords.{StoreWords, word_in}
use Rattle.sg_store.specs.Walks.{cell_in}
use Rattle.sg_store.specs.WellFormed.{IsWellFormed}
use Rattle.sg_store.specs.StandsFor.{StandsFor}
use Rattle.sg_store.proofs.ActiveCells.{CellLaws, from_some, cell_is_active, active_has_cell}

-- ── Words of fields ──

abbrev pairs : (ℕ → ℕ) → List ℕ → List (ℕ × ℕ)
pairs f xs = map {B = ℕ × ℕ} (λ row. (row, f row)) xs

pairs_agree : (f g : ℕ → ℕ) (xs : List ℕ) → ((k : ℕ) (d : ℕ) → k < length xs → f (get_or xs k d) ≡ g (get_or xs k d)) → pairs f xs ≡ pairs g xs
pairs_agree f g [] same = refl
pairs_agree f g (x ∷ xs) same =
    let first : f x ≡ g x = same 0 0 (omega arith) in
    let rest : pairs f xs ≡ pairs g xs = pairs_agree f g xs (λ k d below. same (suc k) d (omega (arith, below))) in
    let pair : ℕ → ℕ × ℕ = λ n. (x, n) in
    ap (λ n. pair n ∷ pairs f xs) first ∙ ap (λ ps. pair (g x) ∷ ps) rest

-- functions that agree below a number give the same words there
pub words_agree : (size : ℕ) (f g : ℕ → ℕ) → ((row : ℕ) → row < size → f row ≡ g row) → words_of size f ≡ words_of size g
words_agree size f g same =
    let rows : List ℕ = range_with_len 0 size in
    ap (filter (λ (entry : ℕ × ℕ). not (entry.1 == 0)))
    (pairs_agree f g rows (λ k d below.
    let short : k < size = omega (arith, below, length-range_with_len 0 size) in
    let at : get_or rows k d ≡ 0 + k = get_or-range_with_len 0 size k d short in
    same (get_or rows k d) (omega arith)))

-- a row with a word other than 0 has an entry
pub row_has_entry : (words : List (ℕ × ℕ)) (row : ℕ) → word_at words row ≢ 0 → (k : ℕ) × (k < length words) × ((get_or words k (0, 0)).0 ≡ row)
row_has_entry [] row some = absurd (some refl)
row_has_entry (entry ∷ entries) row some = elim (cases_Bool (entry.0 == row)) [
  | inl same ↦ (0, omega arith, (Decides-eqb entry.0 row).0 same)
  | inr other ↦
      let later = row_has_entry entries row (λ none. some (ap (λ b. cond b entry.1 (word_at entries row)) other ∙ none)) in
      (suc later.0, omega (arith, later.1), later.2)
]

-- so a row whose point isn't active has the word 0
pub idle_is_zero : (shape : Shape) (active : List Coord) (words : List (ℕ × ℕ)) (row : ℕ) → IsFlatField shape active words → ¬ Contains active (point_at (bounds_of_shape shape) row) → word_at words row ≡ 0
idle_is_zero shape active words row field idle = elim (cases_Bool (word_at words row == 0)) [
  | inl none ↦ (Decides-eqb (word_at words row) 0).0 none
  | inr some ↦
      let entry = row_has_entry words row (λ none. false≢true (sym some ∙ (Decides-eqb (word_at words row) 0).1 none)) in
      let has = field.active_rows entry.0 (0, 0) entry.1 in
      absurd (idle (subst (λ r. Contains active (point_at (bounds_of_shape shape) r)) entry.2 has))
]

-- ── One flat layout ──

-- the laws of layouts and coordinates that tell it
pub record FlatLaws (shape : Shape) : Type 0 where
  pub cells : CellLaws shape
  pub of_members : ClosureIsOfMembers shape
  pub point_inside : PointInside
  pub row_of_point : RowOfPoint

pub same_active : (store : StoreWords) (flat other : FlatLayout) → FlatLaws store.shape → IsWellFormed store → StandsFor store flat → StandsFor store other → flat.active ≡ other.active
same_active store flat other laws well one two =
    let into = λ (a b : FlatLayout). λ (x : StandsFor store a). λ (y : StandsFor store b). λ (at : Coord). λ (has : Contains a.active at).
    let cell = active_has_cell store a laws.cells well x at has in cell_is_active store b laws.cells well y at cell.0 cell.1 in
    one.is_flat.closed ∙ laws.of_members flat.active other.active (λ at. (into flat other one two at, into other flat two one at)) ∙ sym two.is_flat.closed

-- the value of a field at a point is the word of its row
value_of_row : (shape : Shape) (flat : FlatLayout) (place row : ℕ) → PointInside → RowOfPoint → InsideTest → row < volume (bounds_of_shape shape) → place < length flat.fields → value_at shape flat place (point_at (bounds_of_shape shape) row) ≡ word_at (get_or flat.fields place []) row
value_of_row shape flat place row inside row_is test below there =
    let bounds : Bounds = bounds_of_shape shape in
    let at : Coord = point_at bounds row in
    let within : is_inside bounds at ≡ true = (test bounds at).1 (inside bounds row below) in
    let words : slice_get flat.fields place ≡ Some (get_or flat.fields place []) = slice_get-get_or flat.fields place [] there in
    ap (λ o. value_in bounds (words_or_none o) at) words
    ∙ ap (λ b. cond b (word_at (get_or flat.fields place []) (row_of bounds at)) 0) within
    ∙ ap (word_at (get_or flat.fields place [])) (row_is bounds row below)

-- in the same cell both have the word that the store has
same_words : (store : StoreWords) (flat other : FlatLayout) → FlatLaws store.shape → IsWellFormed store → StandsFor store flat → StandsFor store other → (place : ℕ) → place < length store.shape.fields → (row : ℕ) → row < volume (bounds_of_shape store.shape) → word_at (get_or flat.fields place []) row ≡ word_at (get_or other.fields place []) row
same_words store flat other laws well one two place there row below =
    let shape : Shape = store.shape in
    let at : Coord = point_at (bounds_of_shape shape) row in
    let first : place < length flat.fields = omega (arith, one.is_flat.field_count) in
    let second : place < length other.fields = omega (arith, two.is_flat.field_count) in
    elim (cases_Bool (is_some (cell_in store at))) [
      | inl some ↦
          let cell = from_some (cell_in store at) some in
          sym (value_of_row shape flat place row laws.point_inside laws.row_of_point laws.cells.inside below first)
          ∙ sym (one.values at cell.0 cell.1 place there) ∙ two.values at cell.0 cell.1 place there
          ∙ value_of_row shape other place row laws.point_inside laws.row_of_point laws.cells.inside below second
      | inr none ↦
          let idle = λ (layout : FlatLayout). λ (stands : StandsFor store layout). λ (has : Contains layout.active at).
          let cell = active_has_cell store layout laws.cells well stands at has in
          false≢true (sym none ∙ ap is_some cell.1) in
          idle_is_zero shape flat.active (get_or flat.fields place []) row (one.is_flat.fields_fit place [] first) (idle flat one)
          ∙ sym (idle_is_zero shape other.active (get_or other.fields place []) row (two.is_flat.fields_fit place [] second) (idle other two))
    ]

same_fields : (store : StoreWords) (flat other : FlatLayout) → FlatLaws store.shape → IsWellFormed store → StandsFor store flat → StandsFor store other → flat.fields ≡ other.fields
same_fields store flat other laws well one two =
    same_lists flat.fields other.fields (one.is_flat.field_count ∙ sym two.is_flat.field_count) (λ k d below.
    let there : k < length store.shape.fields = omega (arith, one.is_flat.field_count) in
    let second : k < length other.fields = omega (arith, two.is_flat.field_count) in
    let size : ℕ = volume (bounds_of_shape store.shape) in
    let left : List (ℕ × ℕ) = get_or flat.fields k [] in
    let right : List (ℕ × ℕ) = get_or other.fields k [] in
    get_or_default flat.fields k d [] below
    ∙ (one.is_flat.fields_fit k [] below).canonical
    ∙ words_agree size (word_at left) (word_at right) (same_words store flat other laws well one two k there)
    ∙ sym (two.is_flat.fields_fit k [] second).canonical
    ∙ get_or_default other.fields k [] d second)

pub stands_for_one : (store : StoreWords) → FlatLaws store.shape → IsWellFormed store → (flat other : FlatLayout) → StandsFor store flat → StandsFor store other → flat ≡ other
stands_for_one store laws well flat other one two =
    let make : List Coord → List (List (ℕ × ℕ)) → FlatLayout = λ active fields. record { active = active; fields = fields } in
    ap (λ active. make active flat.fields) (same_active store flat other laws well one two)
    ∙ ap (λ fields. make other.active fields) (same_fields store flat other laws well one two)

-- ── One flat layout under two stores ──

pub same_values : (store other : StoreWords) (flat : FlatLayout) → StandsFor store flat → StandsFor other flat → store.shape ≡ other.shape → (at : Coord) (cell twin : ℕ) → cell_in store at ≡ Some cell → cell_in other at ≡ Some twin → (place : ℕ) → place < length store.shape.fields → word_in store place cell ≡ word_in other place twin
same_values store other flat one two shapes at cell twin here there place within =
    let within_other : place < length other.shape.fields = omega (arith, ap (λ (shape : Shape). length shape.fields) shapes) in
    one.values at cell here place within
    ∙ ap (λ (shape : Shape). value_at shape flat place at) shapes
    ∙ sym (two.values at twin there place within_other)
