-- What a flat state gives of its layouts and fields, and what makes one.
use Rattle.std.proofs.Common.{◌≡◌, ℕ, zero, suc, ◌+◌, ◌<◌, ◌≤◌, ◌⊎◌, inl, inr, Bool, true, not, ◌&&◌, ◌||◌, eqb, List, [], ◌∷◌, ◌++◌, map, length, get_or, take, refl, sym, ap, ◌∙◌, subst, arith}
use Rattle.std.specs.Prelude.{All, Contains, IsTrue, filter}
use Rattle.std.specs.List.{range_with_len}
use Rattle.std.proofs.lemmas.Bool.{cases_eq, cond-false, ne_eqb, eq-eqb, eqb-true, and_parts, both_ways, not-true}
use Rattle.std.proofs.lemmas.List.{take_more, take_all, length-map}
use Rattle.std.proofs.lemmas.List.Sums.{AllPass-from_list_all}
use Rattle.std.proofs.lemmas.List.Elements.{All-nil, All-cons, All-head, All-tail, All-map, All-append, All-weaker, All-filter, All-contains, All-contains_itself, filter_passes, Contains-append_left, Contains-append_right}
use Rattle.sg_coord.specs.declared.coord.Coord.{Coord}
use Rattle.sg_coord.specs.Bounds.{Bounds, volume}
use Rattle.sg_coord.specs.Coord.{Inside, is_inside, row_of, point_at}
use Rattle.sg_coord.specs.Laws.{InsideTest, PointInside, PointOfRow}
use Rattle.sg_words.specs.declared.operators.Ty.{Ty}
use Rattle.sg_layout.specs.declared.shape.Shape.{Shape}
use Rattle.sg_layout.specs.Axes.{bounds_of_shape}
use Rattle.sg_layout.specs.Closure.{closure}
use Rattle.sg_layout.specs.ClosureLaws.{ClosureExtends, ClosureIsClosed, ClosureIsInside}
use Rattle.sg_flat.specs.declared.effects.Turn.{Turn}
use Rattle.sg_flat.specs.declared.effects.Write.{Write}
use Rattle.sg_flat.specs.declared.state.FlatLayout.{FlatLayout}
use Rattle.sg_flat.specs.Words.{are_words, word_at}
use Rattle.sg_flat.specs.Effects.{landed, is_to, writes_of, writes_to, written_in}
use Rattle.sg_flat.specs.State.{IsFlatField, IsFlatLayout, AreFlatLayouts}
use Rattle.sg_flat.specs.Kernel.{field_after, fields_after, layout_after}
use Rattle.sg_flat.specs.steps.Landing.{AreWordsBelow, stay_inside}
use Rattle.sg_flat.proofs.FieldWords.{are_words_of, are_words_from_rows}
use Rattle.sg_flat.proofs.Actives.{rows_below}
use Rattle.sg_flat.proofs.Boxes.{Contains-here}
use Rattle.sg_words.proofs.Uses.{into_map, into_filter, from_filter}
use Rattle.sg_flat.proofs.Pairs.{StandsAt}

-- the words of a field of a flat layout
pub field_words : (shape : Shape) (flat : FlatLayout) (bounds : Bounds) (i n : ℕ) (ty : Ty) (field : List (ℕ × ℕ)) → IsFlatLayout shape flat → StandsAt shape.fields flat.fields i n ty field → bounds ≡ bounds_of_shape shape → AreWordsBelow (volume bounds) field
field_words shape flat bounds i n ty field is_flat stands same =
    subst (λ (b : Bounds). AreWordsBelow (volume b) field) (sym same)
    (subst (λ (f : List (ℕ × ℕ)). AreWordsBelow (volume (bounds_of_shape shape)) f) (sym stands.second) (is_flat.fields_fit i field stands.in_second).canonical)

-- a row with a word other than 0 is that of an active coordinate
pub word_is_active : (active : List Coord) (bounds : Bounds) (words : List (ℕ × ℕ)) (row : ℕ) → All (λ (entry : ℕ × ℕ). Contains active (point_at bounds entry.0)) words → (word_at words row ≡ 0 → ⊥) → Contains active (point_at bounds row)
word_is_active active bounds [] row all some = absurd (some refl)
word_is_active active bounds (entry ∷ entries) row all some =
    let P : ℕ × ℕ → Type 0 = λ entry. Contains active (point_at bounds entry.0) in
    elim (cases_eq entry.0 row) [
      | inl same ↦ subst (λ k. Contains active (point_at bounds k)) same (All-head P entry entries all)
      | inr apart ↦ word_is_active active bounds entries row (All-tail P entry entries all) (λ none. some (cond-false (eqb entry.0 row) entry.1 (word_at entries row) (ne_eqb entry.0 row apart) ∙ none))
    ]

-- what a filter keeps has what all that pass it have
kept_have : {X : Type 0} (test : X → Bool) (P : X → Type 0) (xs : List X) → All (λ x. test x ≡ true → P x) xs → All P (filter test xs)
kept_have {X} test P xs all =
    let Q : X → Type 0 = λ x. test x ≡ true → P x in
    λ k d below. All-filter test Q xs all k d below (filter_passes test xs k d below)

-- the laws that a layout after a run is flat by
pub record RunLaws (shape : Shape) : Type 0 where
  pub inside_test : InsideTest
  pub point_inside : PointInside
  pub point_of_row : PointOfRow
  pub extends : ClosureExtends shape
  pub closed : ClosureIsClosed shape

-- the coordinates of the writes into a layout, where these stay inside
written_at : (layout : ℕ) (turns : List Turn) (write : Write) → Contains (writes_of turns) write → eqb write.layout layout ≡ true → Contains (written_in layout turns) write.at
written_at layout turns write there same = into_map (λ (w : Write). w.at) (filter (λ (w : Write). eqb w.layout layout) (writes_of turns)) write (into_filter (λ (w : Write). eqb w.layout layout) (writes_of turns) write there same)

written_inside : (bounds : Bounds) (layout : ℕ) (turns : List Turn) (write : Write) → InsideTest → stay_inside bounds layout (writes_of turns) ≡ true → Contains (writes_of turns) write → eqb write.layout layout ≡ true → Inside bounds write.at
written_inside bounds layout turns write inside_test inside there same =
    let test : Write → Bool = λ (w : Write). not (eqb w.layout layout) || is_inside bounds w.at in
    let passes : test write ≡ true = All-contains (λ (w : Write). test w ≡ true) (writes_of turns) write (AllPass-from_list_all test (writes_of turns) inside) there in
    (inside_test bounds write.at).0 (sym (ap (λ (b : Bool). not b || is_inside bounds write.at) same) ∙ passes)

-- the active coordinates of a flat layout, and those of writes that stay inside, are inside
pub coords_inside : (shape : Shape) (flat : FlatLayout) (layout : ℕ) (turns : List Turn) → InsideTest → ClosureIsInside shape → IsFlatLayout shape flat → stay_inside (bounds_of_shape shape) layout (writes_of turns) ≡ true → All (Inside (bounds_of_shape shape)) (flat.active ++ written_in layout turns)
coords_inside shape flat layout turns inside_test closure_inside is_flat inside =
    let bounds = bounds_of_shape shape in
    All-append (Inside bounds) flat.active (written_in layout turns)
    (All-weaker (Contains flat.active) (Inside bounds)
    (λ (at : Coord) there. (closure_inside flat.active at (subst (λ (cs : List Coord). Contains cs at) is_flat.closed there)).1) flat.active (All-contains_itself flat.active))
    (All-map (Inside bounds) (λ (w : Write). w.at) (filter (λ (w : Write). eqb w.layout layout) (writes_of turns))
    (kept_have (λ (w : Write). eqb w.layout layout) (λ (w : Write). Inside bounds w.at) (writes_of turns)
    (All-weaker (Contains (writes_of turns)) (λ (w : Write). eqb w.layout layout ≡ true → Inside bounds w.at)
    (λ (w : Write) there same. written_inside bounds layout turns w inside_test inside there same) (writes_of turns) (All-contains_itself (writes_of turns)))))

-- after a run each row with a word other than 0 is that of an active coordinate
row_is_active : (shape : Shape) (flat : FlatLayout) (layout place : ℕ) (ty : Ty) (words : List (ℕ × ℕ)) (turns : List Turn) (row : ℕ) → RunLaws shape → stay_inside (bounds_of_shape shape) layout (writes_of turns) ≡ true → IsFlatField shape flat.active words → row < volume (bounds_of_shape shape) → (landed ty (word_at words row) (writes_to (bounds_of_shape shape) layout place row (writes_of turns)) ≡ 0 → ⊥) → Contains (closure shape (flat.active ++ written_in layout turns)) (point_at (bounds_of_shape shape) row)
row_is_active shape flat layout place ty words turns row laws inside fits below some = by_writes (writes_to (bounds_of_shape shape) layout place row (writes_of turns)) refl
  where
    bounds : Bounds
    bounds = bounds_of_shape shape

    here : Contains (flat.active ++ written_in layout turns) (point_at (bounds_of_shape shape) row) → Contains (closure shape (flat.active ++ written_in layout turns)) (point_at (bounds_of_shape shape) row)
    here there = laws.extends (flat.active ++ written_in layout turns) (point_at (bounds_of_shape shape) row) there (laws.point_inside (bounds_of_shape shape) row below)

    by_writes : (writes : List Write) → writes_to (bounds_of_shape shape) layout place row (writes_of turns) ≡ writes → Contains (closure shape (flat.active ++ written_in layout turns)) (point_at (bounds_of_shape shape) row)
    by_writes [] none =
        here (Contains-append_left flat.active (written_in layout turns) (point_at (bounds_of_shape shape) row)
        (word_is_active flat.active (bounds_of_shape shape) words row fits.active_rows (λ zero. some (ap (landed ty (word_at words row)) none ∙ zero))))
    by_writes (write ∷ writes) is =
        let test : Write → Bool = is_to (bounds_of_shape shape) layout place row in
        let found = from_filter test (writes_of turns) write (subst (λ (ws : List Write). Contains ws write) (sym is) (Contains-here write writes)) in
        let parts = and_parts (eqb write.layout layout) (eqb write.place place && eqb (row_of (bounds_of_shape shape) write.at) row) found.1 in
        let same_row = eqb-true (row_of (bounds_of_shape shape) write.at) row (and_parts (eqb write.place place) (eqb (row_of (bounds_of_shape shape) write.at) row) parts.1).1 in
        let at_inside = written_inside (bounds_of_shape shape) layout turns write laws.inside_test inside found.0 parts.0 in
        let at_row : write.at ≡ point_at (bounds_of_shape shape) row = sym (laws.point_of_row (bounds_of_shape shape) write.at at_inside) ∙ ap (point_at (bounds_of_shape shape)) same_row in
        here (Contains-append_right flat.active (written_in layout turns) (point_at (bounds_of_shape shape) row)
        (subst (λ (at : Coord). Contains (written_in layout turns) at) at_row (written_at layout turns write found.0 parts.0)))

field_after_fits : (shape : Shape) (flat : FlatLayout) (layout place : ℕ) (ty : Ty) (words : List (ℕ × ℕ)) (turns : List Turn) → RunLaws shape → stay_inside (bounds_of_shape shape) layout (writes_of turns) ≡ true → IsFlatField shape flat.active words → IsTrue (are_words (field_after (bounds_of_shape shape) layout place ty words (writes_of turns))) → IsFlatField shape (closure shape (flat.active ++ written_in layout turns)) (field_after (bounds_of_shape shape) layout place ty words (writes_of turns))
field_after_fits shape flat layout place ty words turns laws inside fits in_range =
    let bounds = bounds_of_shape shape in
    let size = volume bounds in
    let f : ℕ → ℕ = λ row. landed ty (word_at words row) (writes_to bounds layout place row (writes_of turns)) in
    let test : ℕ × ℕ → Bool = λ entry. not (eqb entry.1 0) in
    let HasPoint : ℕ × ℕ → Type 0 = λ entry. Contains (closure shape (flat.active ++ written_in layout turns)) (point_at bounds entry.0) in
    record {
      canonical = are_words_of size f;
      in_range = in_range;
      active_rows = kept_have test HasPoint (map (λ (row : ℕ). (row, f row)) (range_with_len 0 size))
          (All-map (λ (entry : ℕ × ℕ). test entry ≡ true → HasPoint entry) (λ (row : ℕ). (row, f row)) (range_with_len 0 size)
          (All-weaker (λ row. row < size) (λ row. test (row, f row) ≡ true → HasPoint (row, f row))
          (λ row below passes. row_is_active shape flat layout place ty words turns row laws inside fits below (λ zero. both_ways (eqb (f row) 0) (not-true (eqb (f row) 0) passes) (eq-eqb (f row) 0 zero)))
          (range_with_len 0 size) (rows_below size)));
    }

length-fields_after : (bounds : Bounds) (layout place : ℕ) (types : List Ty) (fields : List (List (ℕ × ℕ))) (turns : List Turn) → length fields ≡ length types → length (fields_after bounds layout place types fields turns) ≡ length types
length-fields_after bounds layout place [] fields turns same = refl
length-fields_after bounds layout place (ty ∷ types) [] turns same = absurd (omega arith)
length-fields_after bounds layout place (ty ∷ types) (field ∷ fields) turns same = ap suc (length-fields_after bounds layout (suc place) types fields turns (omega arith))

fields_after_fit : (shape : Shape) (flat : FlatLayout) (layout place : ℕ) (types : List Ty) (fields : List (List (ℕ × ℕ))) (turns : List Turn) → RunLaws shape → stay_inside (bounds_of_shape shape) layout (writes_of turns) ≡ true → All (IsFlatField shape flat.active) fields → All (λ words. IsTrue (are_words words)) (fields_after (bounds_of_shape shape) layout place types fields turns) → All (IsFlatField shape (closure shape (flat.active ++ written_in layout turns))) (fields_after (bounds_of_shape shape) layout place types fields turns)
fields_after_fit shape flat layout place [] fields turns laws inside fits in_range = All-nil (IsFlatField shape (closure shape (flat.active ++ written_in layout turns)))
fields_after_fit shape flat layout place (ty ∷ types) [] turns laws inside fits in_range = All-nil (IsFlatField shape (closure shape (flat.active ++ written_in layout turns)))
fields_after_fit shape flat layout place (ty ∷ types) (field ∷ fields) turns laws inside fits in_range =
    let bounds = bounds_of_shape shape in
    let first = field_after bounds layout place ty field (writes_of turns) in
    let rest = fields_after bounds layout (suc place) types fields turns in
    All-cons (IsFlatField shape (closure shape (flat.active ++ written_in layout turns))) first rest
    (field_after_fits shape flat layout place ty field turns laws inside (All-head (IsFlatField shape flat.active) field fields fits) (All-head (λ words. IsTrue (are_words words)) first rest in_range))
    (fields_after_fit shape flat layout (suc place) types fields turns laws inside (All-tail (IsFlatField shape flat.active) field fields fits) (All-tail (λ words. IsTrue (are_words words)) first rest in_range))

-- after a run a layout is flat
pub layout_after_is_flat : (layout : ℕ) (shape : Shape) (flat : FlatLayout) (turns : List Turn) → RunLaws shape → stay_inside (bounds_of_shape shape) layout (writes_of turns) ≡ true → IsFlatLayout shape flat → All (λ words. IsTrue (are_words words)) (fields_after (bounds_of_shape shape) layout 0 shape.fields flat.fields turns) → IsFlatLayout shape (layout_after layout shape flat turns)
layout_after_is_flat layout shape flat turns laws inside is_flat in_range = record {
  closed = sym (laws.closed (flat.active ++ written_in layout turns));
  field_count = length-fields_after (bounds_of_shape shape) layout 0 shape.fields flat.fields turns is_flat.field_count;
  fields_fit = fields_after_fit shape flat layout 0 shape.fields flat.fields turns laws inside is_flat.fields_fit in_range;
}

made : List Coord → List (List (ℕ × ℕ)) → FlatLayout
made active fields = record { active = active; fields = fields }

pub layout_after_is : (layout : ℕ) (shape : Shape) (flat : FlatLayout) (turns : List Turn) (active : List Coord) (fields : List (List (ℕ × ℕ))) → active ≡ closure shape (flat.active ++ written_in layout turns) → fields ≡ fields_after (bounds_of_shape shape) layout 0 shape.fields flat.fields turns → record { active = active; fields = fields } ≡ layout_after layout shape flat turns
unfolding made
layout_after_is layout shape flat turns active fields same_active same_fields =
    ap (λ (a : List Coord). made a fields) same_active
    ∙ ap (λ (fs : List (List (ℕ × ℕ))). made (closure shape (flat.active ++ written_in layout turns)) fs) same_fields

-- the layouts of a flat state, one by one
pub flat_layout_at : (shapes : List Shape) (flats : List FlatLayout) (i n : ℕ) (shape : Shape) (flat : FlatLayout) → AreFlatLayouts shapes flats → StandsAt shapes flats i n shape flat → IsFlatLayout shape flat
flat_layout_at shapes flats i n shape flat are stands =
    subst (λ (s : Shape). IsFlatLayout s flat) (sym stands.first)
    (subst (λ (l : FlatLayout). IsFlatLayout (get_or shapes i shape) l) (sym stands.second) (at shapes flats i are stands.in_first stands.in_second))
  where
    at : (shapes' : List Shape) (flats' : List FlatLayout) (k : ℕ) → AreFlatLayouts shapes' flats' → k < length shapes' → k < length flats' → IsFlatLayout (get_or shapes' k shape) (get_or flats' k flat)
    at [] flats' k are' below below' = absurd (omega arith)
    at (s ∷ ss) [] k are' below below' = absurd (omega arith)
    at (s ∷ ss) (l ∷ ls) zero are' below below' = are'.0
    at (s ∷ ss) (l ∷ ls) (suc k) are' below below' = at ss ls k are'.1 (omega arith) (omega arith)

same_count : (shapes : List Shape) (flats : List FlatLayout) → AreFlatLayouts shapes flats → length shapes ≡ length flats
same_count [] [] are = refl
same_count [] (l ∷ ls) are = absurd are
same_count (s ∷ ss) [] are = absurd are
same_count (s ∷ ss) (l ∷ ls) are = ap suc (same_count ss ls are.1)

pub first_past : (shapes : List Shape) (flats : List FlatLayout) (i : ℕ) → AreFlatLayouts shapes flats → (length shapes ≤ i) ⊎ (length flats ≤ i) → length shapes ≤ i
first_past shapes flats i are over = let same = same_count shapes flats are in elim over [
  | inl past ↦ past
  | inr past ↦ omega arith
]

AreFlatLayouts-push : (shapes : List Shape) (flats : List FlatLayout) (shape : Shape) (flat : FlatLayout) → AreFlatLayouts shapes flats → IsFlatLayout shape flat → AreFlatLayouts (shapes ++ shape ∷ []) (flats ++ flat ∷ [])
AreFlatLayouts-push [] [] shape flat are is_flat = (is_flat, tt)
AreFlatLayouts-push [] (l ∷ ls) shape flat are is_flat = absurd are
AreFlatLayouts-push (s ∷ ss) [] shape flat are is_flat = absurd are
AreFlatLayouts-push (s ∷ ss) (l ∷ ls) shape flat are is_flat = (are.0, AreFlatLayouts-push ss ls shape flat are.1 is_flat)

pub AreFlatLayouts-more : (shapes : List Shape) (done new_done : List FlatLayout) (i : ℕ) (shape : Shape) (flat : FlatLayout) → i < length shapes → shape ≡ get_or shapes i shape → AreFlatLayouts (take i shapes) done → IsFlatLayout shape flat → new_done ≡ done ++ flat ∷ [] → AreFlatLayouts (take (i + 1) shapes) new_done
AreFlatLayouts-more shapes done new_done i shape flat below is are is_flat pushed =
    subst (λ (ls : List FlatLayout). AreFlatLayouts (take (i + 1) shapes) ls) (sym pushed)
    (subst (λ (ss : List Shape). AreFlatLayouts ss (done ++ flat ∷ [])) (ap (λ (s : Shape). take i shapes ++ s ∷ []) is ∙ sym (take_more shapes i shape below))
    (AreFlatLayouts-push (take i shapes) done shape flat are is_flat))

pub AreFlatLayouts-all : (shapes : List Shape) (done : List FlatLayout) (i : ℕ) → length shapes ≤ i → AreFlatLayouts (take i shapes) done → AreFlatLayouts shapes done
AreFlatLayouts-all shapes done i past are = subst (λ (ss : List Shape). AreFlatLayouts ss done) (take_all i shapes past) are

-- the layout at the start
zero_fields_fit : (shape : Shape) (active : List Coord) (types : List Ty) → All (IsFlatField shape active) (map (λ _. []) types)
zero_fields_fit shape active [] = All-nil (IsFlatField shape active)
zero_fields_fit shape active (ty ∷ types) =
    All-cons (IsFlatField shape active) [] (map (λ _. []) types)
    (record {
      canonical = are_words_from_rows (volume (bounds_of_shape shape)) [] tt refl;
      in_range = refl;
      active_rows = All-nil (λ (entry : ℕ × ℕ). Contains active (point_at (bounds_of_shape shape) entry.0));
    })
    (zero_fields_fit shape active types)

pub opening_is_flat : (shape : Shape) (active : List Coord) (fields : List (List (ℕ × ℕ))) → ClosureIsClosed shape → active ≡ closure shape [] → fields ≡ map (λ _. []) shape.fields → IsFlatLayout shape (record { active = active; fields = fields })
opening_is_flat shape active fields closed is_closure is_zero = record {
  closed = is_closure ∙ sym (closed []) ∙ ap (closure shape) (sym is_closure);
  field_count = ap length is_zero ∙ length-map shape.fields (λ _. []);
  fields_fit = subst (λ (fs : List (List (ℕ × ℕ))). All (IsFlatField shape active) fs) (sym is_zero) (zero_fields_fit shape active shape.fields);
}
