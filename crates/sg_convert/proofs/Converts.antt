-- A new store that is opened for the coordinates with a value, and into which their words have moved, stands for the layout that is
-- converted.
use Rattle.std.proofs.Common.{◌≡◌, inl, inr, ℕ, zero, suc, ◌+◌, ◌<◌, Bool, true, false, not, cond, ◌||◌, ◌==◌, List, [], ◌∷◌, length, map, get_or, Option, Some, None, is_some, refl, sym, ap, ◌∙◌, subst, arith}
use Rattle.std.specs.Prelude.{slice_get, slice_index, slice_index_or}
use Rattle.std.specs.List.{All, Contains, filter, list_any, range_with_len}
use Rattle.std.proofs.lemmas.Bool.{cases_Bool, cases_eq, cond-true, cond-false, ne_eqb, or_right, false≢true}
use Rattle.std.proofs.lemmas.List.Elements.{Contains-get_or, All-head, All-tail, filter_passes}
use Rattle.std.proofs.lemmas.List.Folds.{list_any_at}
use Rattle.std.proofs.lemmas.List.FromFn.{length-range_with_len, get_or-range_with_len}
use Rattle.sg_words.proofs.Uses.{contains_head, contains_rest, from_filter, into_filter, from_map}
use Rattle.sg_words.specs.declared.operators.Ty.{Ty}
use Rattle.sg_coord.specs.declared.coord.Coord.{Coord}
use Rattle.sg_coord.specs.Bounds.{Bounds, volume}
use Rattle.sg_coord.specs.Coord.{Inside, is_inside, row_of, point_at}
use Rattle.sg_coord.specs.Laws.{InsideTest, RowOfPoint, PointOfRow}
use Rattle.sg_layout.specs.declared.shape.Shape.{Shape}
use Rattle.sg_layout.specs.Axes.{bounds_of_shape}
use Rattle.sg_layout.specs.Path.{offsets}
use Rattle.sg_layout.specs.Closure.{closure}
use Rattle.sg_layout.specs.ClosureLaws.{ClosureIsInside, ClosureExtends, ClosureIsClosed}
use Rattle.sg_flat.specs.declared.state.FlatLayout.{FlatLayout}
use Rattle.sg_flat.specs.State.{IsFlatField, IsFlatLayout, words_or_none, value_in, value_at}
use Rattle.sg_flat.specs.Words.{word_at, words_of}
use Rattle.sg_flat.proofs.Uses.{word_is_active}
use Rattle.sg_store.specs.declared.node.NodeWords.{NodeWords}
use Rattle.sg_store.specs.StoreWords.{StoreWords, word_in}
use Rattle.sg_store.specs.Walks.{cell_along, cell_in}
use Rattle.sg_store.specs.WellFormed.{IsWellFormed}
use Rattle.sg_store.specs.StandsFor.{HasLiveSlots, StandsFor}
use Rattle.sg_store.specs.StoreLaws.{CellsAreActive}
use Rattle.sg_store.specs.Pruning.{has_value, valued_coordinates}
use Rattle.sg_convert.specs.Alike.{AreAlike}
use Rattle.sg_convert.specs.Converted.{converted}
use Rattle.sg_convert.specs.steps.Moving.{has_word, is_valued_by, is_valued, word_or_zero, kept_word, opened_layout, SameTree, HasMoved}
use Rattle.sg_convert.proofs.Moved.{same_cell}

-- the laws of coordinates, layouts and cells that tell it
pub record ConvertLaws (from : StoreWords) (to : Shape) : Type 0 where
  pub inside_test : InsideTest
  pub row_of_point : RowOfPoint
  pub point_of_row : PointOfRow
  pub closure_inside : ClosureIsInside from.shape
  pub extends : ClosureExtends to
  pub closed : ClosureIsClosed to
  pub active : CellsAreActive from

-- ── Values and words ──

-- a value that isn't 0 is that of an active coordinate
field_active : InsideTest → PointOfRow → (shape : Shape) (active : List Coord) (fields : List (List (ℕ × ℕ))) → All (IsFlatField shape active) fields → (place : ℕ) (at : Coord)
    → (value_in (bounds_of_shape shape) (words_or_none (slice_get fields place)) at ≡ 0 → ⊥) → is_inside (bounds_of_shape shape) at ≡ true → Contains active at
field_active inside_test point_of_row shape active [] all place at some inside = absurd (some (ap (λ b. cond b 0 0) inside))
field_active inside_test point_of_row shape active (words ∷ fields) all zero at some inside =
    let bounds = bounds_of_shape shape in
    subst (λ (c : Coord). Contains active c) (point_of_row bounds at ((inside_test bounds at).0 inside))
    (word_is_active active bounds words (row_of bounds at) (All-head (IsFlatField shape active) words fields all).active_rows
    (λ none. some (ap (λ b. cond b (word_at words (row_of bounds at)) 0) inside ∙ none)))
field_active inside_test point_of_row shape active (words ∷ fields) all (suc place) at some inside =
    field_active inside_test point_of_row shape active fields (All-tail (IsFlatField shape active) words fields all) place at some inside

value_active : InsideTest → PointOfRow → (shape : Shape) (flat : FlatLayout) → IsFlatLayout shape flat → (place : ℕ) (at : Coord) → (value_at shape flat place at ≡ 0 → ⊥) → Contains flat.active at
value_active inside_test point_of_row shape flat is place at some =
    let bounds = bounds_of_shape shape in
    elim (cases_Bool (is_inside bounds at)) [
      | inl inside ↦ field_active inside_test point_of_row shape flat.active flat.fields is.fields_fit place at some inside
      | inr outside ↦ absurd (some (cond-false (is_inside bounds at) (word_at (words_or_none (slice_get flat.fields place)) (row_of bounds at)) 0 outside))
    ]

-- what a store keeps is what it stands for, also where a coordinate isn't active
kept_is : (from : StoreWords) (to : Shape) → ConvertLaws from to → IsWellFormed from → (flat : FlatLayout) → StandsFor from flat → (place : ℕ) → place < length from.shape.fields → (at : Coord)
    → kept_word from place at ≡ value_at from.shape flat place at
kept_is from to laws well flat stands place there at = by_case (cell_in from at) refl where
  by_case : (cell : Option ℕ) → cell_in from at ≡ cell → word_or_zero from place cell ≡ value_at from.shape flat place at
  by_case None is =
      elim (cases_eq (value_at from.shape flat place at) 0) [
        | inl none ↦ sym none
        | inr some ↦
            let led = (laws.active well flat stands at).1 (value_active laws.inside_test laws.point_of_row from.shape flat stands.is_flat place at some) in
            absurd (cc (ap is_some is))
      ]
  by_case (Some cell) is = stands.values at cell is place there

-- ── Where some field isn't 0 ──

-- words and values that agree place by place are both 0, or neither
any_same : (bounds : Bounds) (at : Coord) (cell : ℕ) (rows : List (List ℕ)) (fields : List (List (ℕ × ℕ))) → length rows ≡ length fields
    → ((place : ℕ) → place < length rows → slice_index (slice_index_or rows place []) cell ≡ value_in bounds (words_or_none (slice_get fields place)) at)
    → list_any (λ row. not (slice_index row cell == 0)) rows ≡ list_any (λ words. not (value_in bounds words at == 0)) fields
any_same bounds at cell [] [] many same = refl
any_same bounds at cell [] (words ∷ fields) many same = absurd (omega (arith, many))
any_same bounds at cell (row ∷ rows) [] many same = absurd (omega (arith, many))
any_same bounds at cell (row ∷ rows) (words ∷ fields) many same =
    let first : not (slice_index row cell == 0) ≡ not (value_in bounds words at == 0) = ap (λ (n : ℕ). not (n == 0)) (same 0 (omega arith)) in
    let rest = any_same bounds at cell rows fields (omega (arith, many)) (λ place below. same (suc place) (omega arith)) in
    ap (λ (t : Bool). t || list_any (λ r. not (slice_index r cell == 0)) rows) first ∙ ap (λ (t : Bool). not (value_in bounds words at == 0) || t) rest

-- a cell has a word where its coordinate has a value
words_are_values : (store : StoreWords) → IsWellFormed store → (flat : FlatLayout) → StandsFor store flat → (at : Coord) (cell : ℕ) → cell_in store at ≡ Some cell → has_word store cell ≡ has_value store.shape flat at
words_are_values store well flat stands at cell leads =
    any_same (bounds_of_shape store.shape) at cell store.fields flat.fields (well.field_count ∙ sym stands.is_flat.field_count)
    (λ place below. stands.values at cell leads place (subst (λ (n : ℕ). place < n) well.field_count below))

-- and so where a coordinate is active
active_valued : (store : StoreWords) → CellsAreActive store → IsWellFormed store → (flat : FlatLayout) → StandsFor store flat → (at : Coord) → Contains flat.active at → is_valued store at ≡ has_value store.shape flat at
active_valued store active well flat stands at has = by_case (cell_in store at) refl where
  by_case : (cell : Option ℕ) → cell_in store at ≡ cell → is_valued_by store cell ≡ has_value store.shape flat at
  by_case None is = let led = (active well flat stands at).1 has in absurd (cc (ap is_some is))
  by_case (Some cell) is = words_are_values store well flat stands at cell is

-- tests that agree on a list pass the same of it
filter_same : (p q : Coord → Bool) (coords : List Coord) → ((at : Coord) → Contains coords at → p at ≡ q at) → filter p coords ≡ filter q coords
filter_same p q [] same = refl
filter_same p q (at ∷ coords) same =
    ap (λ (b : Bool). cond b (at ∷ filter p coords) (filter p coords)) (same at (contains_head at at coords refl))
    ∙ ap (λ (list : List Coord). cond (q at) (at ∷ list) list) (filter_same p q coords (λ x has. same x (contains_rest x at coords has)))

pub kept_valued : (store : StoreWords) → CellsAreActive store → IsWellFormed store → (flat : FlatLayout) → StandsFor store flat → filter (is_valued store) flat.active ≡ valued_coordinates store.shape flat
kept_valued store active well flat stands =
    filter_same (is_valued store) (has_value store.shape flat) flat.active (λ at has. active_valued store active well flat stands at has)

-- a coordinate with a cell is inside
valued_inside : (store : StoreWords) → InsideTest → (at : Coord) → is_valued store at ≡ true → Inside (bounds_of_shape store.shape) at
valued_inside store inside_test at is = by_test (is_inside (bounds_of_shape store.shape) at) refl where
  by_test : (b : Bool) → is_inside (bounds_of_shape store.shape) at ≡ b → Inside (bounds_of_shape store.shape) at
  by_test true inside = (inside_test (bounds_of_shape store.shape) at).0 inside
  by_test false outside =
      let none : cell_in store at ≡ None = cond-false (is_inside (bounds_of_shape store.shape) at) (cell_along store (offsets store.shape.nodes at)) None outside in
      absurd (false≢true (sym (ap (is_valued_by store) none) ∙ is))

pub kept_inside : (store : StoreWords) → InsideTest → (coords : List Coord) → All (Inside (bounds_of_shape store.shape)) (filter (is_valued store) coords)
kept_inside store inside_test coords k d below =
    valued_inside store inside_test (get_or (filter (is_valued store) coords) k d) (filter_passes (is_valued store) coords k d below)

either_way : (b : Bool) (x : ℕ) → cond b x x ≡ x
either_way true x = refl
either_way false x = refl

-- a value that isn't 0
some_value : (bounds : Bounds) (fields : List (List (ℕ × ℕ))) (place : ℕ) (at : Coord) → (value_in bounds (words_or_none (slice_get fields place)) at ≡ 0 → ⊥)
    → list_any (λ words. not (value_in bounds words at == 0)) fields ≡ true
some_value bounds [] place at some = absurd (some (either_way (is_inside bounds at) 0))
some_value bounds (words ∷ fields) zero at some =
    ap (λ (t : Bool). not t || list_any (λ w. not (value_in bounds w at == 0)) fields) (ne_eqb (value_in bounds words at) 0 some)
some_value bounds (words ∷ fields) (suc place) at some =
    or_right (not (value_in bounds words at == 0)) (list_any (λ w. not (value_in bounds w at == 0)) fields) (some_value bounds fields place at some)

-- ── The converted layout is flat ──

-- an entry of a field has a word other than 0 at its row, which is one of the layout
entry_some : (size : ℕ) (words : List (ℕ × ℕ)) → words ≡ words_of size (word_at words) → (entry : ℕ × ℕ) → Contains words entry → (entry.0 < size) × (word_at words entry.0 ≡ 0 → ⊥)
entry_some size words canonical entry has =
    let f : ℕ → ℕ × ℕ = λ row. (row, word_at words row) in
    let test : ℕ × ℕ → Bool = λ e. not (e.1 == 0) in
    let found = from_filter test (map f (range_with_len 0 size)) entry (subst (λ (list : List (ℕ × ℕ)). Contains list entry) canonical has) in
    let row = from_map f (range_with_len 0 size) entry found.0 in
    let at_row : row.0 ≡ entry.0 = ap (λ (e : ℕ × ℕ). e.0) row.2 in
    let word : word_at words row.0 ≡ entry.1 = ap (λ (e : ℕ × ℕ). e.1) row.2 in
    let listed = row.1 in
    let many = length-range_with_len 0 size in
    let short : listed.0 < size = omega (arith, listed.1, many) in
    let is : 0 + listed.0 ≡ row.0 = sym (get_or-range_with_len 0 size listed.0 row.0 short) ∙ listed.2 in (
      omega (arith, short, is, at_row),
      λ none. let zero_word : entry.1 ≡ 0 = sym word ∙ ap (word_at words) at_row ∙ none in
          false≢true (sym (ap (λ (n : ℕ). not (n == 0)) zero_word) ∙ found.1),
    )

field_kept : (from : StoreWords) (to : Shape) → ConvertLaws from to → AreAlike from.shape to → (flat : FlatLayout) → flat.active ≡ closure from.shape flat.active
    → (words : List (ℕ × ℕ)) → ((at : Coord) → (value_in (bounds_of_shape from.shape) words at ≡ 0 → ⊥) → has_value from.shape flat at ≡ true) → IsFlatField from.shape flat.active words
    → IsFlatField to (closure to (valued_coordinates from.shape flat)) words
field_kept from to laws alike flat closed words valued is = record {
  canonical = subst (λ (b : Bounds). words ≡ words_of (volume b) (word_at words)) alike.bounds is.canonical;
  in_range = is.in_range;
  active_rows = λ k d below.
      let bounds = bounds_of_shape from.shape in
      let kept : List Coord = valued_coordinates from.shape flat in
      let entry = get_or words k d in
      let at = point_at bounds entry.0 in
      let some = entry_some (volume bounds) words is.canonical entry (Contains-get_or words k d below) in
      let active = is.active_rows k d below in
      let inside = (laws.closure_inside flat.active at (subst (λ (list : List Coord). Contains list at) closed active)).1 in
      let value : value_in bounds words at ≡ word_at words entry.0 =
      cond-true (is_inside bounds at) (word_at words (row_of bounds at)) 0 ((laws.inside_test bounds at).1 inside) ∙ ap (word_at words) (laws.row_of_point bounds entry.0 some.0) in
      subst (λ (b : Bounds). Contains (closure to kept) (point_at b entry.0)) alike.bounds
      (laws.extends kept at (into_filter (has_value from.shape flat) flat.active at active (valued at (λ none. some.1 (sym value ∙ none))))
      (subst (λ (b : Bounds). Inside b at) alike.bounds inside));
}

fields_kept : (from : StoreWords) (to : Shape) → ConvertLaws from to → AreAlike from.shape to → (flat : FlatLayout) → IsFlatLayout from.shape flat
    → All (IsFlatField to (closure to (valued_coordinates from.shape flat))) flat.fields
fields_kept from to laws alike flat is k d below =
    field_kept from to laws alike flat is.closed (get_or flat.fields k d)
    (λ at some. list_any_at (λ words. not (value_in (bounds_of_shape from.shape) words at == 0)) flat.fields k d below
    (ap not (ne_eqb (value_in (bounds_of_shape from.shape) (get_or flat.fields k d) at) 0 some)))
    (is.fields_fit k d below)

converted_is_flat : (from : StoreWords) (to : Shape) → ConvertLaws from to → AreAlike from.shape to → (flat : FlatLayout) → IsFlatLayout from.shape flat → IsFlatLayout to (converted from.shape to flat)
converted_is_flat from to laws alike flat is = record {
  closed = sym (laws.closed (valued_coordinates from.shape flat));
  field_count = is.field_count ∙ ap length alike.fields;
  fields_fit = fields_kept from to laws alike flat is;
}

-- ── The new store ──

-- in the opening layout all values are 0
abbrev no_words : List (ℕ × ℕ)
no_words = []

zero_words : (types : List Ty) (place : ℕ) → words_or_none (slice_get (map (λ (t : Ty). no_words) types) place) ≡ no_words
zero_words [] place = refl
zero_words (t ∷ types) zero = refl
zero_words (t ∷ types) (suc place) = zero_words types place

zero_value : (bounds : Bounds) (at : Coord) → value_in bounds no_words at ≡ 0
zero_value bounds at = either_way (is_inside bounds at) 0

-- a store without its values
abbrev tree_of : Shape → List NodeWords → StoreWords
tree_of shape nodes = record { shape = shape; nodes = nodes; fields = [] }

same_live : (opened next : StoreWords) → SameTree opened next → (active : List Coord) → HasLiveSlots opened (λ _. active) → HasLiveSlots next (λ _. active)
same_live opened next same active live =
    subst (λ (n : List NodeWords). HasLiveSlots (tree_of next.shape n) (λ _. active)) (sym same.nodes)
    (subst (λ (s : Shape). HasLiveSlots (tree_of s opened.nodes) (λ _. active)) (sym same.shape) live)

-- the word that has come to a cell
moved_word : (from : StoreWords) (to : Shape) → ConvertLaws from to → AreAlike from.shape to → IsWellFormed from → (flat : FlatLayout) → StandsFor from flat → (coords : List Coord) → coords ≡ valued_coordinates from.shape flat
    → (opened next : StoreWords) → opened.shape ≡ to → StandsFor opened (opened_layout to coords) → HasMoved from opened next coords
    → (at : Coord) (cell place : ℕ) → cell_in opened at ≡ Some cell → place < length opened.shape.fields → word_in next place cell ≡ value_at from.shape flat place at
moved_word from to laws alike well flat stands coords kept opened next shaped reached moved at cell place leads there =
    let own : place < length from.shape.fields = subst (λ (types : List Ty). place < length types) (ap (λ (s : Shape). s.fields) shaped ∙ sym alike.fields) there in
    let word = kept_is from to laws well flat stands place own at in
    elim (cases_eq (value_at from.shape flat place at) 0) [
      | inl none ↦
          elim (moved.other at cell place leads there) [
            | inl same ↦
                same ∙ reached.values at cell leads place there
                ∙ ap (λ (words : List (ℕ × ℕ)). value_in (bounds_of_shape opened.shape) words at) (zero_words to.fields place)
                ∙ zero_value (bounds_of_shape opened.shape) at ∙ sym none
            | inr same ↦ same ∙ word
          ]
      | inr some ↦
          let active = value_active laws.inside_test laws.point_of_row from.shape flat stands.is_flat place at some in
          let has = into_filter (has_value from.shape flat) flat.active at active (some_value (bounds_of_shape from.shape) flat.fields place at some) in
          moved.moved at cell place leads there (subst (λ (list : List Coord). Contains list at) (sym kept) has) ∙ word
    ]

pub stands_after : (from : StoreWords) (to : Shape) → ConvertLaws from to → AreAlike from.shape to → IsWellFormed from → (flat : FlatLayout) → StandsFor from flat → (coords : List Coord) → coords ≡ valued_coordinates from.shape flat
    → (opened next : StoreWords) → opened.shape ≡ to → StandsFor opened (opened_layout to coords) → HasMoved from opened next coords
    → StandsFor next (converted from.shape to flat)
stands_after from to laws alike well flat stands coords kept opened next shaped reached moved =
    let shape_is : next.shape ≡ to = moved.tree.shape ∙ shaped in
    record {
      is_flat = subst (λ (s : Shape). IsFlatLayout s (converted from.shape to flat)) (sym shape_is) (converted_is_flat from to laws alike flat stands.is_flat);
      live_slots = same_live opened next moved.tree (closure to (valued_coordinates from.shape flat))
          (subst (λ (list : List Coord). HasLiveSlots opened (λ _. closure to list)) kept reached.live_slots);
      values = λ at cell leads place there.
          moved_word from to laws alike well flat stands coords kept opened next shaped reached moved at cell place (sym (same_cell opened next moved.tree at) ∙ leads)
          (subst (λ (s : Shape). place < length s.fields) moved.tree.shape there)
          ∙ ap (λ (b : Bounds). value_in b (words_or_none (slice_get flat.fields place)) at) (alike.bounds ∙ ap bounds_of_shape (sym shape_is));
    }
