-- Cells and the words in them: where a cell stands, and what setting a word changes.
use Rattle.std.proofs.Common.{◌≡◌, ℕ, zero, suc, ◌-◌, ◌<◌, ◌^◌, true, false, List, [], ◌∷◌, length, get_or, sym, ap, ◌∙◌, subst, arith, cond, inl, inr}
use Rattle.std.specs.Prelude.{Option, Some, None, slice_get, slice_set, slice_index, slice_index_or}
use Rattle.std.proofs.lemmas.Bool.{false≢true, cases_eq}
use Rattle.std.proofs.lemmas.List.{length-set, get_or-set_same, get_or-set_other, get_or_default}
use Rattle.std.proofs.lemmas.Option.{same_Some}
use Rattle.sg_coord.specs.declared.coord.Coord.{Coord}
use Rattle.sg_coord.specs.Bounds.{Bounds}
use Rattle.sg_coord.specs.Coord.{is_inside}
use Rattle.sg_layout.specs.declared.shape.NodeShape.{NodeShape}
use Rattle.sg_layout.specs.declared.shape.Shape.{Shape}
use Rattle.sg_layout.specs.Axes.{bounds_of_shape}
use Rattle.sg_layout.specs.Path.{offsets, path}
use Rattle.sg_layout.specs.Live.{kind_or, kind_at, is_live}
use Rattle.sg_layout.specs.PathLaws.{PathIsSlot, WholePathIsOffsets}
use Rattle.sg_flat.specs.declared.state.FlatLayout.{FlatLayout}
use Rattle.sg_flat.specs.State.{value_at}
use Rattle.sg_store.specs.declared.node.NodeWords.{NodeWords}
use Rattle.sg_store.specs.StoreWords.{StoreWords, word_in}
use Rattle.sg_store.specs.Slots.{active_below}
use Rattle.sg_store.specs.Walks.{place_after, cell_along, cell_in}
use Rattle.sg_store.specs.WellFormed.{kind_has_cap, cell_count, is_root, IsFieldRow, IsReached, IsWellFormed}
use Rattle.sg_store.specs.StandsFor.{IsSlotOf, StandsFor, SetsValue}
use Rattle.sg_store.proofs.ActiveCells.{as_many_words, slot_offsets, slot_length, offsets_are_slot, cell_parts}
use Rattle.sg_store.proofs.Stepping.{links_lead, cell_within}

-- ── Where a cell stands ──

-- a reached cell is one of the store's
pub reached_within : (store : StoreWords) → IsWellFormed store → (cell : ℕ) → IsReached store cell → cell < cell_count store.shape
reached_within store well cell reached =
    cell_within store.shape.nodes store.nodes 1 is_root well.nodes_fit 0 (omega arith) reached.slot (slot_offsets store.shape.nodes reached.slot reached.is_slot) cell
    (links_lead store.shape.nodes store.nodes 0 reached.slot cell reached.leads) (slot_length store.shape.nodes reached.slot reached.is_slot)

pub cell_is_reached : (store : StoreWords) → PathIsSlot store.shape → WholePathIsOffsets store.shape → IsWellFormed store → (at : Coord) (cell : ℕ) → cell_in store at ≡ Some cell → IsReached store cell
cell_is_reached store is_slot whole well at cell e = record {
  slot = offsets store.shape.nodes at;
  is_slot = offsets_are_slot store.shape is_slot whole well.accepted at;
  leads = (cell_parts store at cell e).1;
}

pub cell_small : (store : StoreWords) → PathIsSlot store.shape → WholePathIsOffsets store.shape → IsWellFormed store → (at : Coord) (cell : ℕ) → cell_in store at ≡ Some cell → cell < 2 ^ 32
cell_small store is_slot whole well at cell e =
    omega (arith, reached_within store well cell (cell_is_reached store is_slot whole well at cell e), well.few_cells)

-- the cell of a coordinate inside is the place to which its whole path leads
pub cell_by_path : (store : StoreWords) (at : Coord) (n : ℕ) (place : Option ℕ) → WholePathIsOffsets store.shape → is_inside (bounds_of_shape store.shape) at ≡ true → n ≡ length store.shape.nodes → place ≡ place_after active_below store.shape.nodes store.nodes 0 (path store.shape at n) → place ≡ cell_in store at
cell_by_path store at n place whole inside all is =
    let along : place ≡ cell_along store (offsets store.shape.nodes at) =
    is ∙ ap (λ k. cell_along store (path store.shape at k)) all ∙ ap (cell_along store) (whole at) in
    along ∙ sym (ap (λ b. cond b (cell_along store (offsets store.shape.nodes at)) None) inside)

pub cell_outside : (store : StoreWords) (at : Coord) → is_inside (bounds_of_shape store.shape) at ≡ false → cell_in store at ≡ None
cell_outside store at outside = ap (λ b. cond b (cell_along store (offsets store.shape.nodes at)) None) outside

-- ── A field's row ──

pub row_of_field : (store : StoreWords) → IsWellFormed store → (place : ℕ) (d : List ℕ) → place < length store.shape.fields → IsFieldRow store (get_or store.fields place d)
row_of_field store well place d field = well.rows_fit place d (omega (arith, well.field_count))

pub cell_in_row : (store : StoreWords) → IsWellFormed store → (place cell : ℕ) (d : List ℕ) → place < length store.shape.fields → IsReached store cell → cell < length (get_or store.fields place d)
cell_in_row store well place cell d field reached =
    omega (arith, (row_of_field store well place d field).cells, reached_within store well cell reached)

-- ── Setting a word ──

-- the store with one word of a field set
abbrev pub with_word : StoreWords → ℕ → ℕ → ℕ → StoreWords
with_word store place cell word = record store {
  fields = slice_set store.fields place (slice_set (slice_index_or store.fields place []) cell word);
}

row_set : (store : StoreWords) (row : List ℕ) (cell word : ℕ) → IsFieldRow store row → IsReached store cell → IsFieldRow store (slice_set row cell word)
row_set store row cell word fits reached = record {
  cells = length-set row cell word ∙ fits.cells;
  only_reached = λ other some. elim (cases_eq other cell) [
    | inl same ↦ subst (λ c. IsReached store c) (sym same) reached
    | inr elsewhere ↦ fits.only_reached other (λ none. some (get_or-set_other row cell other word 0 elsewhere ∙ none))
  ];
}

pub same_rows : (store : StoreWords) (fields : List (List ℕ)) (row : List ℕ) → IsFieldRow store row → IsFieldRow (record store { fields = fields }) row
same_rows store fields row fits = record {
  cells = fits.cells;
  only_reached = λ cell some. let was = fits.only_reached cell some in record { slot = was.slot; is_slot = was.is_slot; leads = was.leads };
}

pub set_well_formed : (store : StoreWords) (place cell word : ℕ) → IsWellFormed store → place < length store.shape.fields → IsReached store cell → IsWellFormed (with_word store place cell word)
set_well_formed store place cell word well field reached =
    let old : List ℕ = slice_index_or store.fields place [] in
    let fields : List (List ℕ) = slice_set store.fields place (slice_set old cell word) in
    let there : place < length store.fields = omega (arith, well.field_count) in
    record {
      accepted = well.accepted;
      nodes_fit = well.nodes_fit;
      within_caps = well.within_caps;
      numbers_parted = well.numbers_parted;
      few_words = well.few_words;
      few_cells = well.few_cells;
      field_count = length-set store.fields place (slice_set old cell word) ∙ well.field_count;
      rows_fit = λ k d below.
          let short : k < length store.fields = omega (arith, below, length-set store.fields place (slice_set old cell word)) in
          elim (cases_eq k place) [
            | inl same ↦
                let read : get_or fields k d ≡ slice_set old cell word = ap (λ i. get_or fields i d) same ∙ get_or-set_same store.fields place (slice_set old cell word) d there in
                subst (λ row. IsFieldRow (record store { fields = fields }) row) (sym read)
                (same_rows store fields (slice_set old cell word) (row_set store old cell word (row_of_field store well place [] field) reached))
            | inr other ↦
                let read : get_or fields k d ≡ get_or store.fields k d = get_or-set_other store.fields place k (slice_set old cell word) d other in
                subst (λ row. IsFieldRow (record store { fields = fields }) row) (sym read)
                (same_rows store fields (get_or store.fields k d) (well.rows_fit k d short))
          ];
    }

-- the word that was set, and those that weren't
pub word_set_same : (store : StoreWords) (place cell word : ℕ) → IsWellFormed store → place < length store.shape.fields → IsReached store cell → word_in (with_word store place cell word) place cell ≡ word
word_set_same store place cell word well field reached =
    let old : List ℕ = slice_index_or store.fields place [] in
    let there : place < length store.fields = omega (arith, well.field_count) in
    ap (λ row. slice_index row cell) (get_or-set_same store.fields place (slice_set old cell word) [] there)
    ∙ get_or-set_same old cell word 0 (cell_in_row store well place cell [] field reached)

pub word_set_other : (store : StoreWords) (place cell word p other : ℕ) → IsWellFormed store → place < length store.shape.fields → ¬ ((p ≡ place) × (other ≡ cell)) → word_in (with_word store place cell word) p other ≡ word_in store p other
word_set_other store place cell word p other well field apart =
    let old : List ℕ = slice_index_or store.fields place [] in
    let there : place < length store.fields = omega (arith, well.field_count) in
    elim (cases_eq p place) [
      | inl same ↦
          ap (λ i. word_in (with_word store place cell word) i other) same
          ∙ ap (λ row. slice_index row other) (get_or-set_same store.fields place (slice_set old cell word) [] there)
          ∙ get_or-set_other old cell other word 0 (λ e. apart (same, e))
          ∙ ap (λ i. word_in store i other) (sym same)
      | inr elsewhere ↦ ap (λ row. slice_index row other) (get_or-set_other store.fields place p (slice_set old cell word) [] elsewhere)
    ]

-- what the store stands for then
pub set_stands : (store : StoreWords) (place cell word : ℕ) → IsWellFormed store → place < length store.shape.fields → IsReached store cell → ((x y : Coord) (c : ℕ) → cell_in store x ≡ Some c → cell_in store y ≡ Some c → x ≡ y) → (flat now : FlatLayout) (at : Coord) → StandsFor store flat → cell_in store at ≡ Some cell → SetsValue store.shape flat now place at word → StandsFor (with_word store place cell word) now
set_stands store place cell word well field reached differ flat now at stands here sets = record {
  is_flat = sets.is_flat;
  live_slots = λ number slot is.
      let was : IsSlotOf store.shape number slot = record { first = is.first; within = is.within; has_activity = is.has_activity; is_slot = is.is_slot } in
      stands.live_slots number slot was ∙ ap (λ active. is_live store.shape active number slot) (sym sets.same_active);
  values = λ x other leads p within.
      elim (cases_eq p place) [
        | inl same ↦ elim (cases_eq other cell) [
          | inl one ↦
              let point : x ≡ at = differ x at cell (leads ∙ ap Some one) here in
              ap (λ i. word_in (with_word store place cell word) i other) same ∙ ap (word_in (with_word store place cell word) place) one
              ∙ word_set_same store place cell word well field reached ∙ sym sets.here
              ∙ ap (λ i. value_at store.shape now i at) (sym same) ∙ ap (value_at store.shape now p) (sym point)
          | inr two ↦
              word_set_other store place cell word p other well field (λ both. two both.1) ∙ stands.values x other leads p within
              ∙ sym (sets.elsewhere p x (λ both. two (same_Some other cell (sym leads ∙ ap (cell_in store) both.1 ∙ here))))
        ]
        | inr elsewhere ↦
            word_set_other store place cell word p other well field (λ both. elsewhere both.0) ∙ stands.values x other leads p within
            ∙ sym (sets.elsewhere p x (λ both. elsewhere both.0))
      ];
}

-- ── The words of a pointer node ──

pub pointer_within : (nodes : List NodeShape) (index : ℕ) → kind_has_cap (kind_or (slice_get nodes index)) ≡ true → index < length nodes
pointer_within [] index is = absurd (false≢true is)
pointer_within (node ∷ later) zero is = omega arith
pointer_within (node ∷ later) (suc index) is = omega (arith, pointer_within later index is)

-- ── What the code reads ──

pub none_outside : (store : StoreWords) (bounds : Bounds) (shape : Shape) (at : Coord) → bounds ≡ bounds_of_shape shape → shape ≡ store.shape → is_inside bounds at ≡ false → cell_in store at ≡ None
none_outside store bounds shape at same is outside =
    cell_outside store at (ap (λ b. is_inside b at) (sym (same ∙ ap bounds_of_shape is)) ∙ outside)

pub cell_inside : (store : StoreWords) (bounds : Bounds) (shape : Shape) (at : Coord) (n : ℕ) (place : Option ℕ) → WholePathIsOffsets store.shape → bounds ≡ bounds_of_shape shape → shape ≡ store.shape → is_inside bounds at ≡ true → n ≡ length shape.nodes → place ≡ place_after active_below store.shape.nodes store.nodes 0 (path store.shape at n) → place ≡ cell_in store at
cell_inside store bounds shape at n place whole same is inside all leads =
    cell_by_path store at n place whole (ap (λ b. is_inside b at) (sym (same ∙ ap bounds_of_shape is)) ∙ inside) (all ∙ ap (λ (s : Shape). length s.nodes) is) leads

pub row_holds : (store : StoreWords) (rows : List (List ℕ)) (row : List ℕ) (place cell : ℕ) → IsWellFormed store → rows ≡ store.fields → row ≡ get_or rows place row → place < length store.shape.fields → IsReached store cell → cell < length row
row_holds store rows row place cell well same is field reached =
    let here : row ≡ get_or store.fields place row = is ∙ ap (λ rs. get_or rs place row) same in
    subst (λ r. cell < length r) (sym here) (cell_in_row store well place cell row field reached)

pub row_reads : (store : StoreWords) (rows : List (List ℕ)) (row : List ℕ) (place cell : ℕ) → IsWellFormed store → rows ≡ store.fields → row ≡ get_or rows place row → place < length store.shape.fields → slice_index row cell ≡ word_in store place cell
row_reads store rows row place cell well same is field =
    let here : row ≡ get_or store.fields place row = is ∙ ap (λ rs. get_or rs place row) same in
    let there : place < length store.fields = omega (arith, well.field_count) in
    ap (λ r. slice_index r cell) (here ∙ get_or_default store.fields place row [] there)

pub node_within : (store : StoreWords) → IsWellFormed store → (number : ℕ) → kind_has_cap (kind_at store.shape.nodes number) ≡ true → number - 1 < length store.nodes
node_within store well number is =
    omega (arith, pointer_within store.shape.nodes (number - 1) is, as_many_words store.shape.nodes store.nodes 1 is_root well.nodes_fit)

pub row_written : (store : StoreWords) (shape : Shape) (nodes : List NodeWords) (rows : List (List ℕ)) (row after : List ℕ) (place cell word : ℕ) → IsWellFormed store → place < length store.shape.fields → (let whole : StoreWords = record { shape = shape; nodes = nodes; fields = rows } in whole ≡ store) → row ≡ get_or rows place row → after ≡ slice_set row cell word → let whole : StoreWords = record { shape = shape; nodes = nodes; fields = slice_set rows place after } in with_word store place cell word ≡ whole
row_written store shape nodes rows row after place cell word well field whole is set =
    let make : List (List ℕ) → StoreWords = λ fields. record { shape = shape; nodes = nodes; fields = fields } in
    let same : rows ≡ store.fields = ap (λ (s : StoreWords). s.fields) whole in
    let there : place < length rows = omega (arith, well.field_count, ap length same) in
    ap (λ s. with_word s place cell word) (sym whole)
    ∙ ap (λ new. make (slice_set rows place new)) (ap (λ r. slice_set r cell word) (sym (is ∙ get_or_default rows place row [] there)) ∙ sym set)
