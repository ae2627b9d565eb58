-- A field of a store that gets the values of a pass.
use Rattle.std.proofs.Common.{◌≡◌, ◌≢◌, ℕ, ◌+◌, ◌<◌, ◌^◌, zero-add, Bool, true, false, not, ◌&&◌, ◌||◌, ◌==◌, cond, inl, inr, ◌⊎◌, List, [], ◌∷◌, ◌++◌, Option, Some, None, refl, sym, ap, ◌∙◌, subst, arith}
use Rattle.std.specs.Prelude.{filter, slice_get, slice_index, All, Contains, IsTrue}
use Rattle.std.proofs.lemmas.Bool.{cases_Bool, cases_eq, cond-true, cond-false, and_parts, and_from, or_right, eqb-true, eq-eqb}
use Rattle.std.proofs.lemmas.List.{append-nil}
use Rattle.std.proofs.lemmas.List.Elements.{All-contains, Contains-append_left, Contains-append_cases}
use Rattle.std.proofs.lemmas.Option.{same_Some}
use Rattle.sg_words.specs.declared.operators.Ty.{Ty}
use Rattle.sg_words.proofs.Uses.{contains_head, contains_rest, from_filter, from_map}
use Rattle.sg_coord.specs.declared.coord.Coord.{Coord}
use Rattle.sg_coord.specs.Bounds.{Bounds, volume}
use Rattle.sg_coord.specs.Coord.{Inside, is_inside, row_of}
use Rattle.sg_coord.specs.Laws.{RowBelow}
use Rattle.sg_layout.specs.declared.shape.Shape.{Shape}
use Rattle.sg_layout.specs.Axes.{bounds_of_shape}
use Rattle.sg_layout.specs.Closure.{closure}
use Rattle.sg_layout.specs.ClosureLaws.{ClosureIsOfMembers}
use Rattle.sg_flat.specs.declared.effects.Write.{Write}
use Rattle.sg_flat.specs.declared.effects.Turn.{Turn}
use Rattle.sg_flat.specs.declared.state.FlatLayout.{FlatLayout}
use Rattle.sg_flat.specs.Words.{are_words, word_at}
use Rattle.sg_flat.specs.Effects.{landed, is_to, writes_of, writes_to, written_in}
use Rattle.sg_flat.specs.State.{IsFlatField, IsFlatLayout, value_at, words_or_none}
use Rattle.sg_flat.specs.Kernel.{field_after, fields_after, layout_after}
use Rattle.sg_flat.specs.steps.Landing.{stay_inside}
use Rattle.sg_flat.proofs.Uses.{RunLaws, layout_after_is_flat}
use Rattle.sg_store.specs.StoreWords.{StoreWords}
use Rattle.sg_store.specs.Walks.{cell_in}
use Rattle.sg_store.specs.Rows.{SetsRow}
use Rattle.sg_exec.specs.steps.Landing.{fields_landed, landed_layout}
use Rattle.sg_exec.specs.steps.Passes.{to_field, into_field}
use Rattle.sg_exec.proofs.FieldsLanded.{landed_turns, landed_word, landed_none, landed_in_range}
use Rattle.sg_exec.proofs.OneWrite.{contains_at, are_words_from, word_low}

abbrev Words : Type 0
Words = List (ℕ × ℕ)

abbrev made_layout : List Coord → List Words → FlatLayout
made_layout active fields = record { active = active; fields = fields }

-- ---- filters

pub filter_twice : (t u : Write → Bool) (writes : List Write) → ((write : Write) → t write ≡ true → u write ≡ true) → filter t (filter u writes) ≡ filter t writes
filter_twice t u [] both = refl
filter_twice t u (write ∷ writes) both = by_test (u write) refl (t write) refl (filter_twice t u writes both)
  where
    by_test : (b : Bool) → u write ≡ b → (a : Bool) → t write ≡ a → filter t (filter u writes) ≡ filter t writes → filter t (cond b (write ∷ filter u writes) (filter u writes)) ≡ cond a (write ∷ filter t writes) (filter t writes)
    by_test true h true k e = cond-true (t write) (write ∷ filter t (filter u writes)) (filter t (filter u writes)) k ∙ ap (λ (ws : List Write). write ∷ ws) e
    by_test true h false k e = cond-false (t write) (write ∷ filter t (filter u writes)) (filter t (filter u writes)) k ∙ e
    by_test false h true k e = absurd (cc (both write k))
    by_test false h false k e = e

pub filter_apart : (t u : Write → Bool) (writes : List Write) → ((write : Write) → t write ≡ true → u write ≡ true → ⊥) → filter t (filter u writes) ≡ []
filter_apart t u [] apart = refl
filter_apart t u (write ∷ writes) apart = by_test (u write) refl (t write) refl (filter_apart t u writes apart)
  where
    by_test : (b : Bool) → u write ≡ b → (a : Bool) → t write ≡ a → filter t (filter u writes) ≡ [] → filter t (cond b (write ∷ filter u writes) (filter u writes)) ≡ []
    by_test true h true k e = absurd (apart write k h)
    by_test true h false k e = cond-false (t write) (write ∷ filter t (filter u writes)) (filter t (filter u writes)) k ∙ e
    by_test false h a k e = e

pub parts_to : (bounds : Bounds) (layout place row : ℕ) (write : Write) → is_to bounds layout place row write ≡ true → (write.layout ≡ layout) × ((write.place ≡ place) × (row_of bounds write.at ≡ row))
parts_to bounds layout place row write holds =
    let one = and_parts (write.layout == layout) ((write.place == place) && (row_of bounds write.at == row)) holds in
    let two = and_parts (write.place == place) (row_of bounds write.at == row) one.1 in
    (eqb-true write.layout layout one.0, (eqb-true write.place place two.0, eqb-true (row_of bounds write.at) row two.1))

pub parts_field : (layout place : ℕ) (write : Write) → to_field layout place write ≡ true → (write.layout ≡ layout) × (write.place ≡ place)
parts_field layout place write holds =
    let one = and_parts (write.layout == layout) (write.place == place) holds in
    (eqb-true write.layout layout one.0, eqb-true write.place place one.1)

pub to_same : (bounds : Bounds) (layout place row : ℕ) (writes : List Write) → writes_to bounds layout place row (into_field layout place writes) ≡ writes_to bounds layout place row writes
to_same bounds layout place row writes =
    filter_twice (is_to bounds layout place row) (to_field layout place) writes
    (λ write holds. let parts = parts_to bounds layout place row write holds in and_from (write.layout == layout) (write.place == place) (eq-eqb write.layout layout parts.0) (eq-eqb write.place place parts.1.0))

pub to_other : (bounds : Bounds) (layout place other_layout other row : ℕ) (writes : List Write) → (other_layout ≡ layout → other ≡ place → ⊥) → writes_to bounds other_layout other row (into_field layout place writes) ≡ []
to_other bounds layout place other_layout other row writes apart =
    filter_apart (is_to bounds other_layout other row) (to_field layout place) writes
    (λ write holds field. let parts = parts_to bounds other_layout other row write holds in let same = parts_field layout place write field in
    apart (sym parts.0 ∙ same.0) (sym parts.1.0 ∙ same.1))

stay_all : (bounds : Bounds) (layout : ℕ) (writes : List Write) → ((write : Write) → Contains writes write → is_inside bounds write.at ≡ true) → stay_inside bounds layout writes ≡ true
stay_all bounds layout [] inside = refl
stay_all bounds layout (write ∷ writes) inside =
    and_from (not (write.layout == layout) || is_inside bounds write.at) (stay_inside bounds layout writes)
    (or_right (not (write.layout == layout)) (is_inside bounds write.at) (inside write (contains_head write write writes refl)))
    (stay_all bounds layout writes (λ w has. inside w (contains_rest w write writes has)))

-- ---- the field's values after the pass

module _ (layout place : ℕ) (shape : Shape) (flat : FlatLayout) (ty : Ty) (writes : List Write) where
  abbrev bounds : Bounds
  bounds = bounds_of_shape shape

  abbrev its : List Write
  its = filter (to_field layout place) writes

  abbrev after : FlatLayout
  after = landed_layout layout shape flat (filter (to_field layout place) writes)

  abbrev turn : Coord → Turn
  turn at = record { at = at; writes = filter (to_field layout place) writes }

  abbrev old_word : ℕ → ℕ
  old_word row = word_at (words_or_none (slice_get flat.fields place)) row

  is_its : (write : Write) → Contains (filter (to_field layout place) writes) write → Contains writes write × ((write.layout ≡ layout) × (write.place ≡ place))
  is_its write has = let both = from_filter (to_field layout place) writes write has in (both.0, parts_field layout place write both.1)

  -- each write to the field is at an active coordinate, and what lands in its cell is a word
  module _ (active : (write : Write) → Contains (filter (to_field layout place) writes) write → Contains flat.active write.at)
      (low : (write : Write) → Contains (filter (to_field layout place) writes) write → landed ty (old_word (row_of bounds write.at)) (writes_to bounds layout place (row_of bounds write.at) writes) < 2 ^ 32)
      (is_ty : slice_get shape.fields place ≡ Some ty) (is_flat : IsFlatLayout shape flat) (laws : RunLaws shape) (below : RowBelow) (of_members : ClosureIsOfMembers shape)
      (inside : (at : Coord) → Contains flat.active at → Inside bounds at) where
    cell_low : (k : ℕ) (t : Ty) (words : Words) (row : ℕ) → slice_get shape.fields k ≡ Some t → slice_get flat.fields k ≡ Some words → IsTrue (are_words words)
        → landed t (word_at words row) (writes_to bounds layout k row its) < 2 ^ 32
    cell_low k t words row is_t is_words all = elim (cases_eq k place) [
      | inr other ↦ subst (λ (ws : List Write). landed t (word_at words row) ws < 2 ^ 32) (sym (to_other bounds layout place layout k row writes (λ same there. other there))) (word_low words row all)
      | inl same ↦ by_writes same (writes_to bounds layout k row its) refl
    ]
      where
        by_writes : k ≡ place → (found : List Write) → writes_to bounds layout k row its ≡ found → landed t (word_at words row) found < 2 ^ 32
        by_writes same [] is = word_low words row all
        by_writes same (write ∷ later) is =
            let has : Contains (writes_to bounds layout k row its) write = subst (λ (ws : List Write). Contains ws write) (sym is) (contains_head write write later refl) in
            let both = from_filter (is_to bounds layout k row) its write has in
            let parts = parts_to bounds layout k row write both.1 in
            let types : Some ty ≡ Some t = sym is_ty ∙ ap (slice_get shape.fields) (sym same) ∙ is_t in
            let same_ty : ty ≡ t = same_Some _ _ types in
            let field : old_word row ≡ word_at words row = ap (λ (p : ℕ). word_at (words_or_none (slice_get flat.fields p)) row) (sym same) ∙ ap (λ (f : Option Words). word_at (words_or_none f) row) is_words in
            let here : writes_to bounds layout place row writes ≡ write ∷ later = sym (to_same bounds layout place row writes) ∙ ap (λ (p : ℕ). writes_to bounds layout p row its) (sym same) ∙ is in
            subst (λ (ws : List Write). landed t (word_at words row) ws < 2 ^ 32) here
            (subst (λ (w : ℕ). landed t w (writes_to bounds layout place row writes) < 2 ^ 32) field
            (subst (λ (x : Ty). landed x (old_word row) (writes_to bounds layout place row writes) < 2 ^ 32) same_ty
            (subst (λ (r : ℕ). landed ty (old_word r) (writes_to bounds layout place r writes) < 2 ^ 32) parts.1.1 (low write both.0))))

    in_range : All (λ (words : Words). IsTrue (are_words words)) (fields_landed bounds layout 0 shape.fields flat.fields its)
    in_range = landed_in_range bounds layout 0 shape.fields flat.fields its is_flat.field_count
        (λ k t words is_t is_words.
        let at : 0 + k ≡ k = omega arith in
        let fits : IsFlatField shape flat.active words = All-contains (IsFlatField shape flat.active) flat.fields words is_flat.fields_fit (contains_at flat.fields k words is_words) in
        subst (λ (p : ℕ). IsTrue (are_words (field_after bounds layout p t words its))) (sym at)
        (are_words_from 0 (volume bounds) (λ r. landed t (word_at words r) (writes_to bounds layout k r its)) (λ r. cell_low k t words r is_t is_words fits.in_range)))

    same_active : (at : Coord) → closure shape (flat.active ++ written_in layout (turn at ∷ [])) ≡ flat.active
    same_active at = of_members (flat.active ++ written_in layout (turn at ∷ [])) flat.active
        (λ x. ((λ has. here x (Contains-append_cases flat.active (written_in layout (turn at ∷ [])) x has)), (λ has. Contains-append_left flat.active (written_in layout (turn at ∷ [])) x has)))
        ∙ sym is_flat.closed
      where
        here : (x : Coord) → Contains flat.active x ⊎ Contains (written_in layout (turn at ∷ [])) x → Contains flat.active x
        here x (inl has) = has
        here x (inr has) =
            let found = from_map (λ (w : Write). w.at) (filter (λ (w : Write). w.layout == layout) (writes_of (turn at ∷ []))) x has in
            let both = from_filter (λ (w : Write). w.layout == layout) (writes_of (turn at ∷ [])) found.0 found.1 in
            subst (λ (y : Coord). Contains flat.active y) found.2
            (active found.0 (subst (λ (ws : List Write). Contains ws found.0) (append-nil its) both.0))

    after_is_flat : (at : Coord) → IsFlatLayout shape after
    after_is_flat at =
        let turns = turn at ∷ [] in
        let fields : fields_landed bounds layout 0 shape.fields flat.fields its ≡ fields_after bounds layout 0 shape.fields flat.fields turns =
        ap (fields_landed bounds layout 0 shape.fields flat.fields) (sym (append-nil its)) ∙ landed_turns bounds layout 0 shape.fields flat.fields turns in
        let stays : stay_inside bounds layout (writes_of turns) ≡ true =
        ap (stay_inside bounds layout) (append-nil its) ∙ stay_all bounds layout its (λ w has. (laws.inside_test bounds w.at).1 (inside w.at (active w has))) in
        let made : IsFlatLayout shape (layout_after layout shape flat turns) =
        layout_after_is_flat layout shape flat turns laws stays is_flat (subst (λ (fs : List Words). All (λ (words : Words). IsTrue (are_words words)) fs) fields in_range) in
        subst (λ (l : FlatLayout). IsFlatLayout shape l) (made_same _ _ _ _ (same_active at) (sym fields)) made
      where
        made_same : (a b : List Coord) (x y : List Words) → a ≡ b → x ≡ y → made_layout a x ≡ made_layout b y
        made_same a b x y p q = ap (λ (c : List Coord). made_layout c x) p ∙ ap (λ (f : List Words). made_layout b f) q

    value_inside : (given : FlatLayout) (k : ℕ) (x : Coord) → is_inside bounds x ≡ true → value_at shape given k x ≡ word_at (words_or_none (slice_get given.fields k)) (row_of bounds x)
    value_inside given k x within = cond-true (is_inside bounds x) (word_at (words_or_none (slice_get given.fields k)) (row_of bounds x)) 0 within

    value_outside : (given : FlatLayout) (k : ℕ) (x : Coord) → is_inside bounds x ≡ false → value_at shape given k x ≡ 0
    value_outside given k x outside = cond-false (is_inside bounds x) (word_at (words_or_none (slice_get given.fields k)) (row_of bounds x)) 0 outside

    pub here_is : (at : Coord) → Inside bounds at → value_at shape after place at ≡ landed ty (value_at shape flat place at) (writes_to bounds layout place (row_of bounds at) writes)
    here_is at within =
        let test : is_inside bounds at ≡ true = (laws.inside_test bounds at).1 within in
        value_inside after place at test
        ∙ landed_word bounds layout 0 shape.fields flat.fields its place (row_of bounds at) ty is_flat.field_count (below bounds at within) is_ty
        ∙ ap (landed ty (old_word (row_of bounds at))) (ap (λ (p : ℕ). writes_to bounds layout p (row_of bounds at) its) (zero-add place) ∙ to_same bounds layout place (row_of bounds at) writes)
        ∙ ap (λ (w : ℕ). landed ty w (writes_to bounds layout place (row_of bounds at) writes)) (sym (value_inside flat place at test))

    pub elsewhere_is : (other : ℕ) (x : Coord) → other ≢ place → value_at shape after other x ≡ value_at shape flat other x
    elsewhere_is other x apart = elim (cases_Bool (is_inside bounds x)) [
      | inr outside ↦ value_outside after other x outside ∙ sym (value_outside flat other x outside)
      | inl within ↦ value_inside after other x within ∙ by_field (slice_get shape.fields other) refl ((laws.inside_test bounds x).0 within) ∙ sym (value_inside flat other x within)
    ]
      where
        none : writes_to bounds layout (0 + other) (row_of bounds x) its ≡ []
        none = ap (λ (p : ℕ). writes_to bounds layout p (row_of bounds x) its) (zero-add other) ∙ to_other bounds layout place layout other (row_of bounds x) writes (λ same there. apart there)

        by_field : (found : Option Ty) → slice_get shape.fields other ≡ found → Inside bounds x
            → word_at (words_or_none (slice_get after.fields other)) (row_of bounds x) ≡ word_at (words_or_none (slice_get flat.fields other)) (row_of bounds x)
        by_field (Some t) is x_inside =
            landed_word bounds layout 0 shape.fields flat.fields its other (row_of bounds x) t is_flat.field_count (below bounds x x_inside) is
            ∙ ap (landed t (word_at (words_or_none (slice_get flat.fields other)) (row_of bounds x))) none
        by_field None is x_inside =
            let both = landed_none bounds layout 0 shape.fields flat.fields its other is_flat.field_count is in
            ap (λ (f : Option Words). word_at (words_or_none f) (row_of bounds x)) (both.0 ∙ sym both.1)

    -- the store gets the row of the pass
    pub sets_row : (store : StoreWords) (row : List ℕ) → store.shape ≡ shape → Coord
        → ((at : Coord) (cell : ℕ) → cell_in store at ≡ Some cell → Contains flat.active at × (slice_index row cell ≡ landed ty (value_at shape flat place at) (writes_to bounds layout place (row_of bounds at) writes)))
        → SetsRow store flat after place row
    sets_row store row same any cells = record {
      is_flat = subst (λ (s : Shape). IsFlatLayout s after) (sym same) (after_is_flat any);
      same_active = refl;
      here = λ at cell is. let both = cells at cell is in
          subst (λ (s : Shape). value_at s after place at ≡ slice_index row cell) (sym same) (here_is at (inside at both.0) ∙ sym both.1);
      elsewhere = λ other at apart. subst (λ (s : Shape). value_at s after other at ≡ value_at s flat other at) (sym same) (elsewhere_is other at apart);
    }
