-- Words that move from a store to another: field by field at a coordinate, coordinate by coordinate.
use Rattle.std.proofs.Common.{◌≡◌, ◌⊎◌, inl, inr, ℕ, ◌+◌, ◌<◌, List, [], ◌∷◌, ◌++◌, length, get_or, Option, Some, None, refl, sym, ap, ◌∙◌, subst, arith}
use Rattle.std.specs.Prelude.{slice_set, slice_index, slice_index_or}
use Rattle.std.specs.List.{Contains}
use Rattle.std.proofs.lemmas.Bool.{cases_eq}
use Rattle.std.proofs.lemmas.List.{get_or-set_same, get_or-set_other}
use Rattle.std.proofs.lemmas.List.Elements.{Contains-append_cases}
use Rattle.sg_words.proofs.Uses.{contains_cases, contains_none}
use Rattle.sg_coord.specs.declared.coord.Coord.{Coord}
use Rattle.sg_layout.specs.declared.shape.Shape.{Shape}
use Rattle.sg_store.specs.declared.node.NodeWords.{NodeWords}
use Rattle.sg_store.specs.StoreWords.{StoreWords, word_in}
use Rattle.sg_store.specs.Walks.{cell_in}
use Rattle.sg_store.specs.WellFormed.{IsReached, IsWellFormed}
use Rattle.sg_store.specs.StoreLaws.{CellsDiffer}
use Rattle.sg_store.proofs.Uses.{reached_within}
use Rattle.sg_convert.specs.steps.Moving.{kept_word, SameTree, MovesFields, MovesCell, HasMoved}

-- ── A word that is set ──

-- the store with one word of a field set
abbrev pub with_word : StoreWords → ℕ → ℕ → ℕ → StoreWords
with_word store place cell word = record store {
  fields = slice_set store.fields place (slice_set (slice_index_or store.fields place []) cell word);
}

word_set_same : (store : StoreWords) (place cell word : ℕ) → IsWellFormed store → place < length store.shape.fields → IsReached store cell → word_in (with_word store place cell word) place cell ≡ word
word_set_same store place cell word well field reached =
    let old : List ℕ = slice_index_or store.fields place [] in
    let there : place < length store.fields = omega (arith, well.field_count) in
    let inside : cell < length (get_or store.fields place []) = omega (arith, (well.rows_fit place [] there).cells, reached_within store well cell reached) in
    ap (λ row. slice_index row cell) (get_or-set_same store.fields place (slice_set old cell word) [] there)
    ∙ get_or-set_same old cell word 0 inside

word_set_other : (store : StoreWords) (place cell word p other : ℕ) → IsWellFormed store → place < length store.shape.fields → ¬ ((p ≡ place) × (other ≡ cell)) → word_in (with_word store place cell word) p other ≡ word_in store p other
word_set_other store place cell word p other well field apart =
    let old : List ℕ = slice_index_or store.fields place [] in
    let there : place < length store.fields = omega (arith, well.field_count) in
    elim (cases_eq p place) [
      | inl same ↦
          ap (λ i. word_in (with_word store place cell word) i other) same
          ∙ ap (λ row. slice_index row other) (get_or-set_same store.fields place (slice_set old cell word) [] there)
          ∙ get_or-set_other old cell other word 0 (λ e. apart (same, e))
          ∙ ap (λ i. word_in store i other) (sym same)
      | inr elsewhere ↦ ap (λ row. slice_index row other) (get_or-set_other store.fields place p (slice_set old cell word) [] elsewhere)
    ]

-- ── One coordinate ──

-- a store without its values
abbrev tree_of : Shape → List NodeWords → StoreWords
tree_of shape nodes = record { shape = shape; nodes = nodes; fields = [] }

pub same_cell : (old now : StoreWords) → SameTree old now → (at : Coord) → cell_in now at ≡ cell_in old at
same_cell old now same at =
    ap (λ (s : Shape). cell_in (tree_of s now.nodes) at) same.shape ∙ ap (λ (n : List NodeWords). cell_in (tree_of old.shape n) at) same.nodes

pub no_fields : (from old : StoreWords) (at : Coord) → MovesFields from old old at 0
no_fields from old at = record {
  tree = record { shape = refl; nodes = refl };
  here = λ cell place leads below. absurd (omega (arith, below));
  elsewhere = λ cell place apart. refl;
}

-- where a coordinate has no cell nothing moves
pub no_cell : (from old : StoreWords) (at : Coord) (fields : ℕ) → cell_in old at ≡ None → MovesFields from old old at fields
no_cell from old at fields none = record {
  tree = record { shape = refl; nodes = refl };
  here = λ cell place leads below. absurd (cc);
  elsewhere = λ cell place apart. refl;
}

pub reached_too : (old now : StoreWords) → SameTree old now → (cell : ℕ) → IsReached old cell → IsReached now cell
reached_too old now same cell is =
    subst (λ (n : List NodeWords). IsReached (record { shape = now.shape; nodes = n; fields = now.fields }) cell) (sym same.nodes)
    (subst (λ (s : Shape). IsReached (record { shape = s; nodes = old.nodes; fields = now.fields }) cell) (sym same.shape)
    (record { slot = is.slot; is_slot = is.is_slot; leads = is.leads }))

pub fields_more : (from old mid new : StoreWords) (at : Coord) (cell place word : ℕ) → IsWellFormed mid → MovesFields from old mid at place → cell_in old at ≡ Some cell → place < length mid.shape.fields → IsReached mid cell
    → word ≡ kept_word from place at → new ≡ with_word mid place cell word → MovesFields from old new at (place + 1)
fields_more from old mid new at cell place word well moves leads there reached word_is set =
    subst (λ (s : StoreWords). MovesFields from old s at (place + 1)) (sym set) (record {
      tree = record { shape = moves.tree.shape; nodes = moves.tree.nodes };
      here = λ own p led below. at_cell own p (some_parts own led) led below (cases_eq p place);
      elsewhere = λ other p apart. word_set_other mid place cell word p other well there (λ both. apart (leads ∙ ap (λ (n : ℕ). Some n) (sym both.1))) ∙ moves.elsewhere other p apart;
    }) where
      some_parts : (own : ℕ) → cell_in old at ≡ Some own → own ≡ cell
      some_parts own led = cc

      at_cell : (own p : ℕ) → own ≡ cell → cell_in old at ≡ Some own → p < place + 1 → (p ≡ place) ⊎ (p ≡ place → ⊥) → word_in (with_word mid place cell word) p own ≡ kept_word from p at
      at_cell own p same led below (inl is) =
          ap (λ (c : ℕ). word_in (with_word mid place cell word) p c) same ∙ ap (λ (q : ℕ). word_in (with_word mid place cell word) q cell) is
          ∙ word_set_same mid place cell word well there reached ∙ word_is ∙ ap (λ (q : ℕ). kept_word from q at) (sym is)
      at_cell own p same led below (inr apart) =
          word_set_other mid place cell word p own well there (λ both. apart both.0) ∙ moves.here own p led (omega (arith, below, apart))

-- ── Coordinates ──

pub none_moved : (from old : StoreWords) → HasMoved from old old []
none_moved from old = record {
  tree = record { shape = refl; nodes = refl };
  moved = λ at cell place leads there has. absurd (contains_none at has);
  other = λ at cell place leads there. inl refl;
}

-- what a further coordinate changes at a cell: it is its own, or not
changes : (from old mid new : StoreWords) (at : Coord) → CellsDiffer old → IsWellFormed old → SameTree old mid → MovesCell from mid new at
    → (x : Coord) (cell place : ℕ) → cell_in old x ≡ Some cell → place < length old.shape.fields
    → ((x ≡ at) × (word_in new place cell ≡ kept_word from place at)) ⊎ ((x ≡ at → ⊥) × (word_in new place cell ≡ word_in mid place cell))
changes from old mid new at differ well tree moves x cell place leads there = by_cell (cell_in old at) refl where
  mid_is : cell_in mid at ≡ cell_in old at
  mid_is = same_cell old mid tree at

  own : place < length mid.shape.fields
  own = subst (λ (s : Shape). place < length s.fields) (sym tree.shape) there

  by_cell : (c : Option ℕ) → cell_in old at ≡ c → ((x ≡ at) × (word_in new place cell ≡ kept_word from place at)) ⊎ ((x ≡ at → ⊥) × (word_in new place cell ≡ word_in mid place cell))
  by_cell None is = inr (
    (λ same. let both : cell_in old at ≡ Some cell = ap (cell_in old) (sym same) ∙ leads in absurd (cc)),
    moves.elsewhere cell place (λ led. let both : cell_in old at ≡ Some cell = sym mid_is ∙ led in absurd (cc)),
  )
  by_cell (Some c) is =
      elim (cases_eq c cell) [
        | inl same ↦
            let led : cell_in old at ≡ Some cell = is ∙ ap (λ (n : ℕ). Some n) same in
            inl (differ well x at cell leads led, moves.here cell place (mid_is ∙ led) own)
        | inr apart ↦ inr (
          (λ same. let both : cell_in old at ≡ Some cell = ap (cell_in old) (sym same) ∙ leads in apart (cc)),
          moves.elsewhere cell place (λ led. let both : cell_in old at ≡ Some cell = sym mid_is ∙ led in apart (cc)),
        )
      ]

pub one_moved : (from old mid new : StoreWords) (coords : List Coord) (at : Coord) → CellsDiffer old → IsWellFormed old → HasMoved from old mid coords → MovesCell from mid new at → HasMoved from old new (coords ++ at ∷ [])
one_moved from old mid new coords at differ well moved moves = record {
  tree = record { shape = moves.tree.shape ∙ moved.tree.shape; nodes = moves.tree.nodes ∙ moved.tree.nodes };
  moved = λ x cell place leads there has. there_too x cell place leads there (Contains-append_cases coords (at ∷ []) x has) (changes from old mid new at differ well moved.tree moves x cell place leads there);
  other = λ x cell place leads there. either x cell place leads there (changes from old mid new at differ well moved.tree moves x cell place leads there);
} where
  there_too : (x : Coord) (cell place : ℕ) → cell_in old x ≡ Some cell → place < length old.shape.fields → Contains coords x ⊎ Contains (at ∷ []) x
      → ((x ≡ at) × (word_in new place cell ≡ kept_word from place at)) ⊎ ((x ≡ at → ⊥) × (word_in new place cell ≡ word_in mid place cell)) → word_in new place cell ≡ kept_word from place x
  there_too x cell place leads there has (inl own) = own.1 ∙ ap (kept_word from place) (sym own.0)
  there_too x cell place leads there (inl has) (inr apart) = apart.1 ∙ moved.moved x cell place leads there has
  there_too x cell place leads there (inr has) (inr apart) =
      elim (contains_cases x at [] has) [
        | inl same ↦ absurd (apart.0 (sym same))
        | inr none ↦ absurd (contains_none x none)
      ]

  either : (x : Coord) (cell place : ℕ) → cell_in old x ≡ Some cell → place < length old.shape.fields
      → ((x ≡ at) × (word_in new place cell ≡ kept_word from place at)) ⊎ ((x ≡ at → ⊥) × (word_in new place cell ≡ word_in mid place cell))
      → (word_in new place cell ≡ word_in old place cell) ⊎ (word_in new place cell ≡ kept_word from place x)
  either x cell place leads there (inl own) = inr (own.1 ∙ ap (kept_word from place) (sym own.0))
  either x cell place leads there (inr apart) =
      elim (moved.other x cell place leads there) [
        | inl same ↦ inl (apart.1 ∙ same)
        | inr same ↦ inr (apart.1 ∙ same)
      ]
