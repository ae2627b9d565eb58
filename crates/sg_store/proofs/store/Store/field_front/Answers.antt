use Rattle.std.proofs.Common.{◌≡◌, List, [], ℕ, length, take, sym, ap, ◌∙◌, subst, arith}
use Rattle.std.specs.Prelude.{slice_index, slice_index_or}
use Rattle.sg_store.specs.StoreWords.{StoreWords}
use Rattle.sg_store.specs.WellFormed.{IsWellFormed}
use Rattle.sg_store.specs.Rows.{IsFieldFront}
use Rattle.sg_store.proofs.CellWords.{row_of_field}
use Rattle.sg_store.proofs.FieldRows as lemmas
use Rattle.sg_store.proofs.store.Store.field_front.Goals as goal

pub front-requires : goal.front-requires
front-requires c =
    let store : StoreWords = c.args.self.now in
    let well : IsWellFormed store = subst IsWellFormed c.self.view_is c.self.invariant in
    let rows = c.as_slice.ensures.value ∙ ap (λ (s : StoreWords). s.fields) c.self.view_is in
    let read = lemmas.row_is store c.as_slice.result.now c.index-as_slice-place.result c.args.place well rows c.index-as_slice-place.is c.requires.field in
    omega (arith, ap length read, (row_of_field store well c.args.place [] c.requires.field).cells, c.cells_in_use-cells.ensures.few)

pub returns-clause-front : goal.returns-clause-front
returns-clause-front c =
    let store : StoreWords = c.args.self.now in
    let well : IsWellFormed store = subst IsWellFormed c.self.view_is c.self.invariant in
    let cells : ℕ = c.cells_in_use-cells.result in
    let row : List ℕ = slice_index_or store.fields c.args.place [] in
    let rows = c.as_slice.ensures.value ∙ ap (λ (s : StoreWords). s.fields) c.self.view_is in
    let read = lemmas.row_is store c.as_slice.result.now c.index-as_slice-place.result c.args.place well rows c.index-as_slice-place.is c.requires.field in
    let same : c.in_ok-front.front ≡ take cells row = c.in_ok-front.ensures ∙ ap (take cells) read in
    subst (IsFieldFront store) (sym same)
    (lemmas.front_of store row cells (row_of_field store well c.args.place [] c.requires.field) c.cells_in_use-cells.ensures.few c.cells_in_use-cells.ensures.all)

pub returns-clause-words : goal.returns-clause-words
returns-clause-words c = λ cell.
    let store : StoreWords = c.args.self.now in
    let well : IsWellFormed store = subst IsWellFormed c.self.view_is c.self.invariant in
    let cells : ℕ = c.cells_in_use-cells.result in
    let row : List ℕ = slice_index_or store.fields c.args.place [] in
    let rows = c.as_slice.ensures.value ∙ ap (λ (s : StoreWords). s.fields) c.self.view_is in
    let read = lemmas.row_is store c.as_slice.result.now c.index-as_slice-place.result c.args.place well rows c.index-as_slice-place.is c.requires.field in
    let same : c.in_ok-front.front ≡ take cells row = c.in_ok-front.ensures ∙ ap (take cells) read in
    ap (λ (front : List ℕ). slice_index front cell) same
    ∙ lemmas.front_words store row cells (row_of_field store well c.args.place [] c.requires.field) c.cells_in_use-cells.ensures.all cell
