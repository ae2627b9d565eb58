-- A field's row read and written whole.
use Rattle.std.proofs.Common.{◌≡◌, ◌≢◌, ℕ, zero, suc, ◌+◌, ◌-◌, ◌<◌, ◌≤◌, List, [], ◌∷◌, ◌++◌, length, take, drop, get_or, append_assoc, refl, sym, ap, ◌∙◌, subst, arith, inl, inr}
use Rattle.std.specs.Prelude.{Some, slice_index, slice_index_or, slice_set}
use Rattle.std.specs.List.{concat}
use Rattle.std.proofs.lemmas.Bool.{cases_eq, cases_lt}
use Rattle.std.proofs.lemmas.List.{get_or-set_same, get_or-set_other, get_or_default, length-set, set-append_right, length-take-le, drop_all, length-append, length-drop, take-append-drop, append-nil, take_all, take_more, drop_more}
use Rattle.std.proofs.lemmas.List.Folds.{concat-append}
use Rattle.std.proofs.lemmas.Slice.{drop-append-drop}
use Rattle.std.proofs.Math.Seq.{take-append_seam, drop-nil}
use Rattle.sg_coord.specs.declared.coord.Coord.{Coord}
use Rattle.sg_coord.specs.Laws.{InsideTest}
use Rattle.sg_layout.specs.declared.shape.Shape.{Shape}
use Rattle.sg_layout.specs.Axes.{bounds_of_shape}
use Rattle.sg_layout.specs.Live.{is_live}
use Rattle.sg_layout.specs.PathLaws.{SlotIsPath}
use Rattle.sg_layout.specs.Slots.{coordinate_of}
use Rattle.sg_flat.specs.declared.state.FlatLayout.{FlatLayout}
use Rattle.sg_flat.specs.State.{value_at}
use Rattle.sg_store.specs.declared.node.NodeWords.{NodeWords}
use Rattle.sg_store.specs.StoreWords.{StoreWords, word_in}
use Rattle.sg_store.specs.WellFormed.{cell_count, IsReached, IsFieldRow, IsWellFormed}
use Rattle.sg_store.specs.StandsFor.{IsSlotOf, StandsFor}
use Rattle.sg_store.specs.Walks.{cell_along, cell_in}
use Rattle.sg_store.specs.Rows.{IsFieldFront, put_over, SetsRow}
use Rattle.sg_store.proofs.ActiveCells.{cell_from_parts}
use Rattle.sg_store.proofs.CellWords.{row_of_field, same_rows}

-- ── Writing ──

-- the store with another row of a field
abbrev pub with_row : StoreWords → ℕ → List ℕ → StoreWords
with_row store place row = record store { fields = slice_set store.fields place row }

-- what the store stands for then
pub row_stands : (store : StoreWords) (place : ℕ) (row : List ℕ) → IsWellFormed store → place < length store.shape.fields → (flat now : FlatLayout) → StandsFor store flat → SetsRow store flat now place row → StandsFor (with_row store place row) now
row_stands store place row well field flat now stands sets = record {
  is_flat = sets.is_flat;
  live_slots = λ number slot is.
      let was : IsSlotOf store.shape number slot = record { first = is.first; within = is.within; has_activity = is.has_activity; is_slot = is.is_slot } in
      stands.live_slots number slot was ∙ ap (λ active. is_live store.shape active number slot) (sym sets.same_active);
  values = λ at cell leads p within.
      let there : place < length store.fields = omega (arith, well.field_count) in
      elim (cases_eq p place) [
        | inl same ↦
            ap (λ i. word_in (with_row store place row) i cell) same
            ∙ ap (λ r. slice_index r cell) (get_or-set_same store.fields place row [] there)
            ∙ sym (sets.here at cell leads) ∙ ap (λ i. value_at store.shape now i at) (sym same)
        | inr elsewhere ↦
            ap (λ r. slice_index r cell) (get_or-set_other store.fields place p row [] elsewhere)
            ∙ stands.values at cell leads p within ∙ sym (sets.elsewhere p at elsewhere)
      ];
}

-- ── As the code goes ──

-- a row that is read
pub row_is : (store : StoreWords) (rows : List (List ℕ)) (row : List ℕ) (place : ℕ) → IsWellFormed store → rows ≡ store.fields → row ≡ get_or rows place row → place < length store.shape.fields → row ≡ slice_index_or store.fields place []
row_is store rows row place well same is field =
    is ∙ ap (λ rs. get_or rs place row) same ∙ get_or_default store.fields place row [] (omega (arith, well.field_count))

pub row_put : (store : StoreWords) (shape : Shape) (nodes : List NodeWords) (rows : List (List ℕ)) (after words : List ℕ) (place : ℕ) → (let whole : StoreWords = record { shape = shape; nodes = nodes; fields = rows } in whole ≡ store) → after ≡ words → let whole : StoreWords = record { shape = shape; nodes = nodes; fields = slice_set rows place after } in with_row store place words ≡ whole
row_put store shape nodes rows after words place whole set =
    let make : List (List ℕ) → StoreWords = λ fields. record { shape = shape; nodes = nodes; fields = fields } in
    ap (λ s. with_row s place words) (sym whole) ∙ ap (λ new. make (slice_set rows place new)) (sym set)

-- ── A row in parts ──

-- words that are written from a cell on, one more
pub word_put : (old words row now : List ℕ) (from i cell d : ℕ) → i < length words → from + length words ≤ length old → cell ≡ from + i → row ≡ take from old ++ (take i words ++ drop (from + i) old) → now ≡ slice_set row cell (get_or words i d) → now ≡ take from old ++ (take (i + 1) words ++ drop (from + (i + 1)) old)
word_put old words row now from i cell d within fits at was is =
    let w : ℕ = get_or words i d in
    let front : length (take from old) ≡ from = length-take-le from old (omega (arith, within, fits)) in
    let some : length (take i words) ≡ i = length-take-le i words (omega (arith, within)) in
    let here : from + i < length old = omega (arith, within, fits) in
    let behind : from + i - from ≡ i = omega arith in
    let first : i - i ≡ 0 = omega arith in
    let next : from + i + 1 ≡ from + (i + 1) = omega arith in
    is ∙ ap (λ r. slice_set r cell w) was ∙ ap (λ n. slice_set (take from old ++ (take i words ++ drop (from + i) old)) n w) at
    ∙ set-append_right (take from old) (take i words ++ drop (from + i) old) from (from + i) w front (omega arith)
    ∙ ap (λ n. take from old ++ slice_set (take i words ++ drop (from + i) old) n w) behind
    ∙ ap (λ l. take from old ++ l)
    (set-append_right (take i words) (drop (from + i) old) i i w some (omega arith)
    ∙ ap (λ n. take i words ++ slice_set (drop (from + i) old) n w) first
    ∙ ap (λ l. take i words ++ slice_set l 0 w) (drop_more old (from + i) 0 here)
    ∙ sym (append_assoc (take i words) (w ∷ []) (drop (from + i + 1) old))
    ∙ ap (λ l. l ++ drop (from + i + 1) old) (sym (take_more words i d within))
    ∙ ap (λ n. take (i + 1) words ++ drop n old) next)

-- the parts up to one, and it
concat_more : (parts : List (List ℕ)) (i : ℕ) (part d : List ℕ) → i < length parts → part ≡ get_or parts i d → concat (take (i + 1) parts) ≡ concat (take i parts) ++ part
concat_more parts i part d within is =
    ap concat (take_more parts i d within) ∙ concat-append (take i parts) (get_or parts i d ∷ [])
    ∙ ap (λ l. concat (take i parts) ++ l) (append-nil (get_or parts i d) ∙ sym is)

-- a row whose first parts are written, and that is as long as all of them at least
pub record IsWritten (parts : List (List ℕ)) (i cell : ℕ) (row old : List ℕ) : Type 0 where
  pub all : length (concat parts) ≤ length old
  pub at : cell ≡ length (concat (take i parts))
  pub row_is : row ≡ concat (take i parts) ++ drop cell old

-- the next part has room in it
next_within : (parts : List (List ℕ)) (i cell : ℕ) (row old part d : List ℕ) → IsWritten parts i cell row old → i < length parts → part ≡ get_or parts i d → cell + length part ≤ length old
next_within parts i cell row old part d w within is =
    let more : length (concat (take (i + 1) parts)) ≡ length (concat (take i parts)) + length part =
    ap length (concat_more parts i part d within is) ∙ length-append (concat (take i parts)) part in
    let whole : length (concat (take (i + 1) parts)) + length (concat (drop (i + 1) parts)) ≡ length (concat parts) =
    sym (length-append (concat (take (i + 1) parts)) (concat (drop (i + 1) parts)))
    ∙ ap length (sym (concat-append (take (i + 1) parts) (drop (i + 1) parts)) ∙ ap concat (take-append-drop (i + 1) parts)) in
    omega (arith, more, whole, w.all, w.at)

row_long : (parts : List (List ℕ)) (i cell : ℕ) (row old : List ℕ) → IsWritten parts i cell row old → cell ≤ length old → length row ≡ length old
row_long parts i cell row old w low =
    let front : length (concat (take i parts) ++ drop cell old) ≡ length (concat (take i parts)) + length (drop cell old) = length-append (concat (take i parts)) (drop cell old) in
    let rest : length (drop cell old) ≡ length old - cell = length-drop cell old in
    ap length w.row_is ∙ omega (arith, front, rest, low, w.at)

pub part_fits : (parts : List (List ℕ)) (i cell : ℕ) (row old part d : List ℕ) → IsWritten parts i cell row old → i < length parts → part ≡ get_or parts i d → cell + length part ≤ length row
part_fits parts i cell row old part d w within is =
    let fits : cell + length part ≤ length old = next_within parts i cell row old part d w within is in
    omega (arith, fits, row_long parts i cell row old w (omega (arith, fits)))

-- and then it is written too
pub part_written : (parts : List (List ℕ)) (i cell end : ℕ) (row old part d now : List ℕ) → IsWritten parts i cell row old → i < length parts → part ≡ get_or parts i d → now ≡ take cell row ++ (part ++ drop (cell + length part) row) → end ≡ cell + length part → IsWritten parts (i + 1) end now old
part_written parts i cell end row old part d now w within is wrote ends =
    let more : concat (take (i + 1) parts) ≡ concat (take i parts) ++ part = concat_more parts i part d within is in
    let front : take cell row ≡ concat (take i parts) =
    ap (take cell) w.row_is ∙ ap (λ n. take n (concat (take i parts) ++ drop cell old)) w.at ∙ take-append_seam (concat (take i parts)) (drop cell old) in
    let rest : drop (cell + length part) row ≡ drop end old =
    ap (drop (cell + length part)) w.row_is ∙ drop-append-drop cell old (concat (take i parts)) (cell + length part) (omega arith) (sym w.at) ∙ ap (λ n. drop n old) (sym ends) in
    record {
      all = w.all;
      at = ends ∙ ap (λ n. n + length part) w.at ∙ sym (length-append (concat (take i parts)) part) ∙ ap length (sym more);
      row_is = wrote ∙ ap (λ l. l ++ (part ++ drop (cell + length part) row)) front ∙ ap (λ l. concat (take i parts) ++ (part ++ l)) rest
          ∙ sym (append_assoc (concat (take i parts)) part (drop end old)) ∙ ap (λ l. l ++ drop end old) (sym more);
    }

-- all parts are written
pub parts_written : (parts : List (List ℕ)) (i cell : ℕ) (row old : List ℕ) → IsWritten parts i cell row old → length parts ≤ i → row ≡ put_over (concat parts) old
parts_written parts i cell row old w all =
    let whole : take i parts ≡ parts = sym (append-nil (take i parts)) ∙ ap (λ (rest : List (List ℕ)). take i parts ++ rest) (sym (drop_all i parts all)) ∙ take-append-drop i parts in
    w.row_is ∙ ap (λ n. concat (take i parts) ++ drop n old) w.at ∙ ap (λ (ps : List (List ℕ)). concat ps ++ drop (length (concat ps)) old) whole

-- ── The front of a row ──

take_at : (n : ℕ) (row : List ℕ) (cell : ℕ) → cell < n → slice_index (take n row) cell ≡ slice_index row cell
take_at zero row cell below = absurd (omega (arith, below))
take_at (suc n) [] cell below = refl
take_at (suc n) (word ∷ row) zero below = refl
take_at (suc n) (word ∷ row) (suc cell) below = take_at n row cell (omega (arith, below))

take_past : (n : ℕ) (row : List ℕ) (cell : ℕ) → n ≤ cell → slice_index (take n row) cell ≡ 0
take_past zero row cell past = refl
take_past (suc n) [] cell past = refl
take_past (suc n) (word ∷ row) zero past = absurd (omega (arith, past))
take_past (suc n) (word ∷ row) (suc cell) past = take_past n row cell (omega (arith, past))

-- the words of a row up to a cell past which none is reached
pub front_of : (store : StoreWords) (row : List ℕ) (cells : ℕ) → IsFieldRow store row → cells ≤ cell_count store.shape → ((cell : ℕ) → IsReached store cell → cell < cells) → IsFieldFront store (take cells row)
front_of store row cells fits few all =
    let long : length (take cells row) ≡ cells = length-take-le cells row (omega (arith, few, fits.cells)) in
    record {
      cells = omega (arith, long, few);
      only_reached = λ cell some. elim (cases_lt cell cells) [
        | inl below ↦ fits.only_reached cell (λ none. some (take_at cells row cell below ∙ none))
        | inr past ↦ absurd (some (take_past cells row cell past))
      ];
      all_reached = λ cell reached. omega (arith, long, all cell reached);
    }

-- they are all that the row has
pub front_words : (store : StoreWords) (row : List ℕ) (cells : ℕ) → IsFieldRow store row → ((cell : ℕ) → IsReached store cell → cell < cells) → (cell : ℕ) → slice_index (take cells row) cell ≡ slice_index row cell
front_words store row cells fits all cell = elim (cases_lt cell cells) [
  | inl below ↦ take_at cells row cell below
  | inr past ↦ elim (cases_eq (slice_index row cell) 0) [
    | inl none ↦ take_past cells row cell past ∙ sym none
    | inr some ↦ absurd (omega (arith, past, all cell (fits.only_reached cell some)))
  ]
]

over_at : (words rest : List ℕ) (cell : ℕ) → cell < length words → slice_index (words ++ rest) cell ≡ slice_index words cell
over_at [] rest cell below = absurd (omega (arith, below))
over_at (word ∷ words) rest zero below = refl
over_at (word ∷ words) rest (suc cell) below = over_at words rest cell (omega (arith, below))

over_past : (words row : List ℕ) (cell : ℕ) → length words ≤ cell → slice_index (put_over words row) cell ≡ slice_index row cell
over_past [] row cell past = refl
over_past (word ∷ words) row zero past = absurd (omega (arith, past))
over_past (word ∷ words) [] (suc cell) past =
    ap (λ rest. slice_index (words ++ rest) cell) (drop-nil (length (word ∷ words)) ∙ sym (drop-nil (length words))) ∙ over_past words [] cell (omega (arith, past))
over_past (word ∷ words) (old ∷ row) (suc cell) past = over_past words row cell (omega (arith, past))

-- as many words as a row has take the place of all
pub over_whole : (words row : List ℕ) → length words ≡ length row → put_over words row ≡ words
over_whole words row same = ap (λ rest. words ++ rest) (drop_all (length words) row (omega (arith, same))) ∙ append-nil words

-- with other words in front a row is one again
over_row : (store : StoreWords) (words row : List ℕ) → IsFieldFront store words → IsFieldRow store row → IsFieldRow store (put_over words row)
over_row store words row front fits =
    let both : length (put_over words row) ≡ length words + length (drop (length words) row) = length-append words (drop (length words) row) in
    let rest : length (drop (length words) row) ≡ length row - length words = length-drop (length words) row in
    record {
      cells = omega (arith, both, rest, front.cells, fits.cells);
      only_reached = λ cell some. elim (cases_lt cell (length words)) [
        | inl below ↦ front.only_reached cell (λ none. some (over_at words (drop (length words) row) cell below ∙ none))
        | inr past ↦ fits.only_reached cell (λ none. some (over_past words row cell past ∙ none))
      ];
    }

row_well_formed : (store : StoreWords) (place : ℕ) (row : List ℕ) → IsWellFormed store → place < length store.shape.fields → IsFieldRow store row → IsWellFormed (with_row store place row)
row_well_formed store place row well field fits =
    let fields : List (List ℕ) = slice_set store.fields place row in
    let there : place < length store.fields = omega (arith, well.field_count) in
    record {
      accepted = well.accepted;
      nodes_fit = well.nodes_fit;
      within_caps = well.within_caps;
      numbers_parted = well.numbers_parted;
      few_words = well.few_words;
      few_cells = well.few_cells;
      field_count = length-set store.fields place row ∙ well.field_count;
      rows_fit = λ k d below.
          let short : k < length store.fields = omega (arith, below, length-set store.fields place row) in
          elim (cases_eq k place) [
            | inl same ↦
                let read : get_or fields k d ≡ row = ap (λ i. get_or fields i d) same ∙ get_or-set_same store.fields place row d there in
                subst (λ words. IsFieldRow (record store { fields = fields }) words) (sym read) (same_rows store fields row fits)
            | inr other ↦
                let read : get_or fields k d ≡ get_or store.fields k d = get_or-set_other store.fields place k row d other in
                subst (λ words. IsFieldRow (record store { fields = fields }) words) (sym read)
                (same_rows store fields (get_or store.fields k d) (well.rows_fit k d short))
          ];
    }

-- the store with other words in the front of a field's row
abbrev pub with_front : StoreWords → ℕ → List ℕ → StoreWords
with_front store place words = with_row store place (put_over words (slice_index_or store.fields place []))

pub front_well_formed : (store : StoreWords) (place : ℕ) (words : List ℕ) → IsWellFormed store → place < length store.shape.fields → IsFieldFront store words → IsWellFormed (with_front store place words)
front_well_formed store place words well field front =
    row_well_formed store place (put_over words (slice_index_or store.fields place [])) well field
    (over_row store words (slice_index_or store.fields place []) front (row_of_field store well place [] field))

pub front_stands : (store : StoreWords) (place : ℕ) (words : List ℕ) → IsWellFormed store → place < length store.shape.fields → ((at : Coord) (cell : ℕ) → cell_in store at ≡ Some cell → cell < length words) → (flat now : FlatLayout) → StandsFor store flat → SetsRow store flat now place words → StandsFor (with_front store place words) now
front_stands store place words well field within flat now stands sets =
    let row : List ℕ = slice_index_or store.fields place [] in
    row_stands store place (put_over words row) well field flat now stands (record {
      is_flat = sets.is_flat;
      same_active = sets.same_active;
      here = λ at cell leads. sets.here at cell leads ∙ sym (over_at words (drop (length words) row) cell (within at cell leads));
      elsewhere = sets.elsewhere;
    })

-- all words of a row
pub whole_front : (row front : List ℕ) (cells : ℕ) → front ≡ take cells row → cells ≡ length row → front ≡ row
whole_front row front cells is all = is ∙ take_all cells row (omega (arith, all))

-- the word of a cell that is that of no coordinate
pub idle_word : (store : StoreWords) → IsWellFormed store → InsideTest → SlotIsPath store.shape → (place cell : ℕ) → place < length store.shape.fields → ((at : Coord) → cell_in store at ≢ Some cell) → slice_index (slice_index_or store.fields place []) cell ≡ 0
idle_word store well inside is_path place cell field none = elim (cases_eq (slice_index (slice_index_or store.fields place []) cell) 0) [
  | inl idle ↦ idle
  | inr some ↦
      let reached = (row_of_field store well place [] field).only_reached cell some in
      let told = is_path well.accepted reached.slot reached.is_slot in
      let at : Coord = coordinate_of store.shape reached.slot in
      absurd (none at (cell_from_parts store at cell ((inside (bounds_of_shape store.shape) at).1 told.0) (ap (cell_along store) told.1 ∙ reached.leads)))
]
