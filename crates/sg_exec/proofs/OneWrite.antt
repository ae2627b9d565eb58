-- One write, in the flat layout and in a store that stands for it.
use Rattle.std.proofs.Common.{lit<, ◌≡◌, ℕ, zero, suc, ◌+◌, ◌≤◌, ◌<◌, ◌^◌, ◌⊎◌, inl, inr, zero-add, Bool, true, false, not, ◌&&◌, ◌||◌, cond, eqb, List, [], ◌∷◌, ◌++◌, map, length, Option, Some, None, refl, sym, ap, ◌∙◌, subst, arith}
use Rattle.std.specs.Prelude.{filter, slice_get, All, Contains, IsTrue, nat_lt}
use Rattle.std.specs.List.{range_with_len}
use Rattle.std.proofs.lemmas.Bool.{cases_Bool, cond-true, cond-false, eqb-true, eq-eqb, and_parts, and_from, or_right, ltb-true, lt-ltb}
use Rattle.std.proofs.lemmas.List.Elements.{All-contains, Contains-append_left, Contains-append_cases}
use Rattle.std.proofs.lemmas.Option.{same_Some, slice_get_within, get_or_from_slice_get}
use Rattle.sg_words.specs.declared.operators.Ty.{Ty}
use Rattle.sg_words.proofs.Uses.{contains_none, contains_cases}
use Rattle.sg_coord.specs.declared.coord.Coord.{Coord}
use Rattle.sg_coord.specs.Bounds.{Bounds, volume}
use Rattle.sg_coord.specs.Laws.{InsideTest, PointOfRow, RowBelow}
use Rattle.sg_coord.specs.Coord.{Inside, is_inside, row_of, point_at}
use Rattle.sg_layout.specs.declared.shape.Shape.{Shape}
use Rattle.sg_layout.specs.Axes.{bounds_of_shape}
use Rattle.sg_layout.specs.Closure.{closure}
use Rattle.sg_layout.specs.ClosureLaws.{ClosureIsOfMembers}
use Rattle.sg_flat.specs.declared.effects.Write.{Write}
use Rattle.sg_flat.specs.declared.effects.Turn.{Turn}
use Rattle.sg_flat.specs.declared.state.FlatLayout.{FlatLayout}
use Rattle.sg_flat.specs.Words.{are_words, word_at}
use Rattle.sg_flat.specs.Effects.{land, landed, is_to, writes_of, writes_to, written_in}
use Rattle.sg_flat.specs.State.{IsFlatField, IsFlatLayout, value_at, words_or_none}
use Rattle.sg_flat.specs.Kernel.{field_after, fields_after, layout_after}
use Rattle.sg_flat.specs.steps.Landing.{stay_inside}
use Rattle.sg_flat.proofs.Uses.{RunLaws, layout_after_is_flat}
use Rattle.sg_store.specs.StandsFor.{SetsValue}
use Rattle.sg_exec.specs.steps.Landing.{fields_landed, landed_layout}
use Rattle.sg_exec.proofs.FieldsLanded.{landed_turns, landed_kept, landed_word, landed_none, landed_in_range, canonical_fields}

abbrev Words : Type 0
Words = List (ℕ × ℕ)

abbrev made_layout : List Coord → List Words → FlatLayout
made_layout active fields = record { active = active; fields = fields }

pub contains_at : {X : Type 0} (xs : List X) (k : ℕ) (x : X) → slice_get xs k ≡ Some x → Contains xs x
contains_at xs k x is = (k, slice_get_within xs k x is, get_or_from_slice_get xs k x x is)

pub past_from_none : {X : Type 0} (xs : List X) (k : ℕ) → slice_get xs k ≡ None → length xs ≤ k
past_from_none [] k none = omega arith
past_from_none (x ∷ xs) zero none = absurd (cc)
past_from_none (x ∷ xs) (suc k) none = let more = past_from_none xs k none in omega arith

-- ---- which cell a write is to

pub not_to : (bounds : Bounds) (layout place row : ℕ) (write : Write) → (write.layout ≡ layout → write.place ≡ place → row_of bounds write.at ≡ row → ⊥) → is_to bounds layout place row write ≡ false
not_to bounds layout place row write other = elim (cases_Bool (is_to bounds layout place row write)) [
  | inl holds ↦ (
      let parts = and_parts (eqb write.layout layout) (eqb write.place place && eqb (row_of bounds write.at) row) holds in
      let more = and_parts (eqb write.place place) (eqb (row_of bounds write.at) row) parts.1 in
      absurd (other (eqb-true write.layout layout parts.0) (eqb-true write.place place more.0) (eqb-true (row_of bounds write.at) row more.1))
      )
  | inr none ↦ none
]

pub none_to : (bounds : Bounds) (layout place row : ℕ) (write : Write) → (write.layout ≡ layout → write.place ≡ place → row_of bounds write.at ≡ row → ⊥) → filter (is_to bounds layout place row) (write ∷ []) ≡ []
none_to bounds layout place row write other = cond-false (is_to bounds layout place row write) (write ∷ []) [] (not_to bounds layout place row write other)

is_to_itself : (bounds : Bounds) (write : Write) → is_to bounds write.layout write.place (row_of bounds write.at) write ≡ true
is_to_itself bounds write =
    and_from (eqb write.layout write.layout) (eqb write.place write.place && eqb (row_of bounds write.at) (row_of bounds write.at)) (eq-eqb write.layout write.layout refl)
    (and_from (eqb write.place write.place) (eqb (row_of bounds write.at) (row_of bounds write.at)) (eq-eqb write.place write.place refl) (eq-eqb (row_of bounds write.at) (row_of bounds write.at) refl))

all_to : (bounds : Bounds) (write : Write) → writes_to bounds write.layout write.place (row_of bounds write.at) (write ∷ []) ≡ write ∷ []
all_to bounds write = cond-true (is_to bounds write.layout write.place (row_of bounds write.at) write) (write ∷ []) [] (is_to_itself bounds write)

-- ---- words stay words

pub are_words_from : (start size : ℕ) (f : ℕ → ℕ) → ((row : ℕ) → f row < 2 ^ 32) → IsTrue (are_words (filter (λ (entry : ℕ × ℕ). not (eqb entry.1 0)) (map (λ (row : ℕ). (row, f row)) (range_with_len start size))))
are_words_from start zero f low = refl
are_words_from start (suc size) f low =
    by_test (not (eqb (f start) 0)) (filter (λ (entry : ℕ × ℕ). not (eqb entry.1 0)) (map (λ (row : ℕ). (row, f row)) (range_with_len (start + 1) size))) (are_words_from (start + 1) size f low)
  where
    by_test : (b : Bool) (rest : Words) → IsTrue (are_words rest) → IsTrue (are_words (cond b ((start, f start) ∷ rest) rest))
    by_test true rest all = and_from (nat_lt (f start) (2 ^ 32)) (are_words rest) (lt-ltb (f start) (2 ^ 32) (low start)) all
    by_test false rest all = all

pub word_low : (words : Words) (row : ℕ) → IsTrue (are_words words) → word_at words row < 2 ^ 32
word_low [] row all = lit< tt
word_low (entry ∷ entries) row all =
    let parts = and_parts (nat_lt entry.1 (2 ^ 32)) (are_words entries) all in
    by_test (eqb entry.0 row) (ltb-true entry.1 (2 ^ 32) parts.0) (word_low entries row parts.1)
  where
    by_test : (b : Bool) → entry.1 < 2 ^ 32 → word_at entries row < 2 ^ 32 → cond b entry.1 (word_at entries row) < 2 ^ 32
    by_test true first rest = first
    by_test false first rest = rest

-- ---- the layout after the write

module _ (shape : Shape) (flat : FlatLayout) (write : Write) (ty : Ty) (word : ℕ) where
  abbrev bounds : Bounds
  bounds = bounds_of_shape shape

  abbrev row : ℕ
  row = row_of (bounds_of_shape shape) write.at

  abbrev old_word : ℕ
  old_word = word_at (words_or_none (slice_get flat.fields write.place)) (row_of (bounds_of_shape shape) write.at)

  abbrev turn : Turn
  turn = record { at = write.at; writes = write ∷ [] }

  abbrev after : FlatLayout
  after = landed_layout write.layout shape flat (write ∷ [])

  abbrev old_field : ℕ → Words
  old_field place = words_or_none (slice_get flat.fields place)

  -- what stands in a cell after the write is a word
  cell_low : (k : ℕ) (t : Ty) (words : Words) (r : ℕ) → slice_get shape.fields write.place ≡ Some ty → slice_get shape.fields k ≡ Some t → slice_get flat.fields k ≡ Some words
      → IsTrue (are_words words) → word ≡ land ty old_word write.way write.value → word < 2 ^ 32
      → landed t (word_at words r) (writes_to (bounds_of_shape shape) write.layout k r (write ∷ [])) < 2 ^ 32
  cell_low k t words r is_ty is_t is_words all is_word low = elim (cases_Bool (is_to (bounds_of_shape shape) write.layout k r write)) [
    | inl holds ↦ (
        let parts = and_parts (eqb write.layout write.layout) (eqb write.place k && eqb (row_of (bounds_of_shape shape) write.at) r) holds in
        let more = and_parts (eqb write.place k) (eqb (row_of (bounds_of_shape shape) write.at) r) parts.1 in
        let same_place : write.place ≡ k = eqb-true write.place k more.0 in
        let same_row : row_of (bounds_of_shape shape) write.at ≡ r = eqb-true (row_of (bounds_of_shape shape) write.at) r more.1 in
        let types : Some ty ≡ Some t = sym is_ty ∙ ap (slice_get shape.fields) same_place ∙ is_t in
        let same_ty : ty ≡ t = same_Some _ _ types in
        let field : old_word ≡ word_at words r = ap (λ (p : ℕ). word_at (words_or_none (slice_get flat.fields p)) (row_of (bounds_of_shape shape) write.at)) same_place
        ∙ ap (λ (f : Option Words). word_at (words_or_none f) (row_of (bounds_of_shape shape) write.at)) is_words ∙ ap (word_at words) same_row in
        let is : word ≡ landed t (word_at words r) (writes_to (bounds_of_shape shape) write.layout k r (write ∷ [])) =
        is_word ∙ ap (λ (t' : Ty). land t' old_word write.way write.value) same_ty ∙ ap (λ (w : ℕ). land t w write.way write.value) field
        ∙ sym (ap (landed t (word_at words r)) (cond-true (is_to (bounds_of_shape shape) write.layout k r write) (write ∷ []) [] holds)) in
        subst (λ (w : ℕ). w < 2 ^ 32) is low
        )
    | inr none ↦ subst (λ (ws : List Write). landed t (word_at words r) ws < 2 ^ 32) (sym (cond-false (is_to (bounds_of_shape shape) write.layout k r write) (write ∷ []) [] none)) (word_low words r all)
  ]

  in_range : IsFlatLayout shape flat → slice_get shape.fields write.place ≡ Some ty → word ≡ land ty old_word write.way write.value → word < 2 ^ 32
      → All (λ (words : Words). IsTrue (are_words words)) (fields_landed (bounds_of_shape shape) write.layout 0 shape.fields flat.fields (write ∷ []))
  in_range is_flat is_ty is_word low =
      landed_in_range (bounds_of_shape shape) write.layout 0 shape.fields flat.fields (write ∷ []) is_flat.field_count
      (λ k t words is_t is_words.
      let place : 0 + k ≡ k = omega arith in
      let fits : IsFlatField shape flat.active words = All-contains (IsFlatField shape flat.active) flat.fields words is_flat.fields_fit (contains_at flat.fields k words is_words) in
      subst (λ (p : ℕ). IsTrue (are_words (field_after (bounds_of_shape shape) write.layout p t words (write ∷ [])))) (sym place)
      (are_words_from 0 (volume (bounds_of_shape shape)) (λ r. landed t (word_at words r) (writes_to (bounds_of_shape shape) write.layout k r (write ∷ [])))
      (λ r. cell_low k t words r is_ty is_t is_words fits.in_range is_word low)))

  written_is : written_in write.layout (turn ∷ []) ≡ write.at ∷ []
  written_is = ap (map (λ (w : Write). w.at)) (cond-true (eqb write.layout write.layout) (write ∷ []) [] (eq-eqb write.layout write.layout refl))

  stays : Inside (bounds_of_shape shape) write.at → InsideTest → stay_inside (bounds_of_shape shape) write.layout (writes_of (turn ∷ [])) ≡ true
  stays inside test =
      and_from (not (eqb write.layout write.layout) || is_inside (bounds_of_shape shape) write.at) true
      (or_right (not (eqb write.layout write.layout)) (is_inside (bounds_of_shape shape) write.at) ((test (bounds_of_shape shape) write.at).1 inside)) refl

  same_active : ClosureIsOfMembers shape → IsFlatLayout shape flat → Contains flat.active write.at → closure shape (flat.active ++ written_in write.layout (turn ∷ [])) ≡ flat.active
  same_active of_members is_flat active =
      ap (λ (ats : List Coord). closure shape (flat.active ++ ats)) written_is
      ∙ of_members (flat.active ++ write.at ∷ []) flat.active (λ x. ((λ has. here x (Contains-append_cases flat.active (write.at ∷ []) x has)), (λ has. Contains-append_left flat.active (write.at ∷ []) x has)))
      ∙ sym is_flat.closed
    where
      here : (x : Coord) → Contains flat.active x ⊎ Contains (write.at ∷ []) x → Contains flat.active x
      here x (inl has) = has
      here x (inr has) = elim (contains_cases x write.at [] has) [
        | inl same ↦ subst (λ (y : Coord). Contains flat.active y) same active
        | inr none ↦ absurd (contains_none x none)
      ]

  after_is_flat : RunLaws shape → ClosureIsOfMembers shape → IsFlatLayout shape flat → Inside (bounds_of_shape shape) write.at → Contains flat.active write.at
      → slice_get shape.fields write.place ≡ Some ty → word ≡ land ty old_word write.way write.value → word < 2 ^ 32 → IsFlatLayout shape after
  after_is_flat laws of_members is_flat inside active is_ty is_word low =
      let turns = turn ∷ [] in
      let fields : fields_landed (bounds_of_shape shape) write.layout 0 shape.fields flat.fields (write ∷ []) ≡ fields_after (bounds_of_shape shape) write.layout 0 shape.fields flat.fields turns =
      landed_turns (bounds_of_shape shape) write.layout 0 shape.fields flat.fields turns in
      let flat_after : IsFlatLayout shape (layout_after write.layout shape flat turns) =
      layout_after_is_flat write.layout shape flat turns laws (stays inside laws.inside_test) is_flat
      (subst (λ (fs : List Words). All (λ (words : Words). IsTrue (are_words words)) fs) fields (in_range is_flat is_ty is_word low)) in
      subst (λ (l : FlatLayout). IsFlatLayout shape l)
      (made_same _ _ _ _ (same_active of_members is_flat active) (sym fields)) flat_after
    where
      made_same : (a b : List Coord) (x y : List Words) → a ≡ b → x ≡ y → made_layout a x ≡ made_layout b y
      made_same a b x y p q = ap (λ (c : List Coord). made_layout c x) p ∙ ap (λ (f : List Words). made_layout b f) q

  -- the value at a coordinate inside
  value_inside : (given : FlatLayout) (place : ℕ) (x : Coord) → is_inside (bounds_of_shape shape) x ≡ true → value_at shape given place x ≡ word_at (words_or_none (slice_get given.fields place)) (row_of (bounds_of_shape shape) x)
  value_inside given place x inside = cond-true (is_inside (bounds_of_shape shape) x) (word_at (words_or_none (slice_get given.fields place)) (row_of (bounds_of_shape shape) x)) 0 inside

  value_outside : (given : FlatLayout) (place : ℕ) (x : Coord) → is_inside (bounds_of_shape shape) x ≡ false → value_at shape given place x ≡ 0
  value_outside given place x outside = cond-false (is_inside (bounds_of_shape shape) x) (word_at (words_or_none (slice_get given.fields place)) (row_of (bounds_of_shape shape) x)) 0 outside

  here_is : RowBelow → IsFlatLayout shape flat → InsideTest → Inside (bounds_of_shape shape) write.at → slice_get shape.fields write.place ≡ Some ty → word ≡ land ty old_word write.way write.value
      → value_at shape after write.place write.at ≡ word
  here_is below is_flat test inside is_ty is_word =
      value_inside after write.place write.at ((test (bounds_of_shape shape) write.at).1 inside)
      ∙ landed_word (bounds_of_shape shape) write.layout 0 shape.fields flat.fields (write ∷ []) write.place row ty is_flat.field_count (below (bounds_of_shape shape) write.at inside) is_ty
      ∙ ap (landed ty old_word) (ap (λ (p : ℕ). writes_to (bounds_of_shape shape) write.layout p row (write ∷ [])) (zero-add write.place) ∙ all_to (bounds_of_shape shape) write)
      ∙ sym is_word

  elsewhere_is : RowBelow → PointOfRow → IsFlatLayout shape flat → InsideTest → Inside (bounds_of_shape shape) write.at
      → (other : ℕ) (x : Coord) → ¬ ((other ≡ write.place) × (x ≡ write.at)) → value_at shape after other x ≡ value_at shape flat other x
  elsewhere_is below point_of_row is_flat test inside other x apart = elim (cases_Bool (is_inside (bounds_of_shape shape) x)) [
    | inr outside ↦ value_outside after other x outside ∙ sym (value_outside flat other x outside)
    | inl within ↦ (
        let x_inside : Inside (bounds_of_shape shape) x = (test (bounds_of_shape shape) x).0 within in
        let none : writes_to (bounds_of_shape shape) write.layout (0 + other) (row_of (bounds_of_shape shape) x) (write ∷ []) ≡ [] =
        ap (λ (p : ℕ). writes_to (bounds_of_shape shape) write.layout p (row_of (bounds_of_shape shape) x) (write ∷ [])) (zero-add other)
        ∙ none_to (bounds_of_shape shape) write.layout other (row_of (bounds_of_shape shape) x) write
        (λ layout place rows. apart (sym place, sym (point_of_row (bounds_of_shape shape) x x_inside) ∙ ap (point_at (bounds_of_shape shape)) (sym rows) ∙ point_of_row (bounds_of_shape shape) write.at inside)) in
        value_inside after other x within ∙ by_field (slice_get shape.fields other) refl x_inside none ∙ sym (value_inside flat other x within)
        )
  ]
    where
      by_field : (found : Option Ty) → slice_get shape.fields other ≡ found → Inside (bounds_of_shape shape) x
          → writes_to (bounds_of_shape shape) write.layout (0 + other) (row_of (bounds_of_shape shape) x) (write ∷ []) ≡ []
          → word_at (words_or_none (slice_get after.fields other)) (row_of (bounds_of_shape shape) x) ≡ word_at (words_or_none (slice_get flat.fields other)) (row_of (bounds_of_shape shape) x)
      by_field (Some t) is x_inside none =
          landed_word (bounds_of_shape shape) write.layout 0 shape.fields flat.fields (write ∷ []) other (row_of (bounds_of_shape shape) x) t is_flat.field_count (below (bounds_of_shape shape) x x_inside) is
          ∙ ap (landed t (word_at (words_or_none (slice_get flat.fields other)) (row_of (bounds_of_shape shape) x))) none
      by_field None is x_inside none =
          let both = landed_none (bounds_of_shape shape) write.layout 0 shape.fields flat.fields (write ∷ []) other is_flat.field_count is in
          ap (λ (f : Option Words). word_at (words_or_none f) (row_of (bounds_of_shape shape) x)) (both.0 ∙ sym both.1)

  pub sets_value : RunLaws shape → ClosureIsOfMembers shape → RowBelow → IsFlatLayout shape flat → Inside (bounds_of_shape shape) write.at → Contains flat.active write.at
      → slice_get shape.fields write.place ≡ Some ty → word ≡ land ty (value_at shape flat write.place write.at) write.way write.value → word < 2 ^ 32
      → SetsValue shape flat after write.place write.at word
  sets_value laws of_members below is_flat inside active is_ty is_word low =
      let is : word ≡ land ty old_word write.way write.value =
      is_word ∙ ap (λ (w : ℕ). land ty w write.way write.value) (value_inside flat write.place write.at ((laws.inside_test (bounds_of_shape shape) write.at).1 inside)) in
      record {
        is_flat = after_is_flat laws of_members is_flat inside active is_ty is low;
        same_active = refl;
        here = here_is below is_flat laws.inside_test inside is_ty is;
        elsewhere = elsewhere_is below laws.point_of_row is_flat laws.inside_test inside;
      }

-- a write that names no field leaves the layout
pub no_field : (shape : Shape) (flat : FlatLayout) (write : Write) → IsFlatLayout shape flat → slice_get shape.fields write.place ≡ None → landed_layout write.layout shape flat (write ∷ []) ≡ flat
no_field shape flat write is_flat none =
    kept_same flat (fields_landed (bounds_of_shape shape) write.layout 0 shape.fields flat.fields (write ∷ []))
    (landed_kept (bounds_of_shape shape) write.layout 0 shape.fields flat.fields (write ∷ []) is_flat.field_count (canonical_fields shape flat.active flat.fields is_flat.fields_fit)
    (λ other row from below. none_to (bounds_of_shape shape) write.layout other row write
    (λ layout place rows. let past : length shape.fields ≤ write.place = past_from_none shape.fields write.place none in omega arith)))
  where
    kept_same : (given : FlatLayout) (fields : List Words) → fields ≡ given.fields → record { active = given.active; fields = fields } ≡ given
    kept_same given fields e = rw e refl
