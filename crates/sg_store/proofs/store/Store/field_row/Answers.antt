use Rattle.std.proofs.Common.{◌≡◌, ℕ, List, [], sym, ap, ◌∙◌, subst}
use Rattle.std.specs.Prelude.{slice_index, slice_index_or}
use Rattle.sg_store.specs.StoreWords.{StoreWords}
use Rattle.sg_store.specs.WellFormed.{IsWellFormed, IsFieldRow}
use Rattle.sg_store.proofs.CellWords.{row_of_field}
use Rattle.sg_store.proofs.FieldRows as lemmas
use Rattle.sg_store.proofs.store.Store.field_row.Goals as goal

pub returns-clause-row : goal.returns-clause-row
returns-clause-row c =
    let store : StoreWords = c.args.self.now in
    let well : IsWellFormed store = subst IsWellFormed c.self.view_is c.self.invariant in
    let rows = c.as_slice.ensures.value ∙ ap (λ (s : StoreWords). s.fields) c.self.view_is in
    let read = lemmas.row_is store c.as_slice.result.now c.index-as_slice-place.result c.args.place well rows c.index-as_slice-place.is c.requires.field in
    let same : c.in_ok-front.front ≡ slice_index_or store.fields c.args.place [] = lemmas.whole_front c.index-as_slice-place.result c.in_ok-front.front c.len.result c.in_ok-front.ensures c.len.ensures ∙ read in
    subst (IsFieldRow store) (sym same) (row_of_field store well c.args.place [] c.requires.field)

pub returns-clause-words : goal.returns-clause-words
returns-clause-words c = λ cell.
    let store : StoreWords = c.args.self.now in
    let well : IsWellFormed store = subst IsWellFormed c.self.view_is c.self.invariant in
    let rows = c.as_slice.ensures.value ∙ ap (λ (s : StoreWords). s.fields) c.self.view_is in
    let read = lemmas.row_is store c.as_slice.result.now c.index-as_slice-place.result c.args.place well rows c.index-as_slice-place.is c.requires.field in
    let same : c.in_ok-front.front ≡ slice_index_or store.fields c.args.place [] = lemmas.whole_front c.index-as_slice-place.result c.in_ok-front.front c.len.result c.in_ok-front.ensures c.len.ensures ∙ read in
    ap (λ (row : List ℕ). slice_index row cell) same

pub returns-clause-idle : goal.returns-clause-idle
returns-clause-idle c = λ cell none.
    let store : StoreWords = c.args.self.now in
    let well : IsWellFormed store = subst IsWellFormed c.self.view_is c.self.invariant in
    let rows = c.as_slice.ensures.value ∙ ap (λ (s : StoreWords). s.fields) c.self.view_is in
    let read = lemmas.row_is store c.as_slice.result.now c.index-as_slice-place.result c.args.place well rows c.index-as_slice-place.is c.requires.field in
    let same : c.in_ok-front.front ≡ slice_index_or store.fields c.args.place [] = lemmas.whole_front c.index-as_slice-place.result c.in_ok-front.front c.len.result c.in_ok-front.ensures c.len.ensures ∙ read in
    ap (λ (row : List ℕ). slice_index row cell) same
    ∙ lemmas.idle_word store well c.numbering.ensures.inside_test (c.paths_tell.ensures.is_path store.shape) c.args.place cell c.requires.field none

pub returns-clause-stands : goal.returns-clause-stands
returns-clause-stands c = λ flat stands at cell leads.
    let store : StoreWords = c.args.self.now in
    let well : IsWellFormed store = subst IsWellFormed c.self.view_is c.self.invariant in
    let rows = c.as_slice.ensures.value ∙ ap (λ (s : StoreWords). s.fields) c.self.view_is in
    let read = lemmas.row_is store c.as_slice.result.now c.index-as_slice-place.result c.args.place well rows c.index-as_slice-place.is c.requires.field in
    let same : c.in_ok-front.front ≡ slice_index_or store.fields c.args.place [] = lemmas.whole_front c.index-as_slice-place.result c.in_ok-front.front c.len.result c.in_ok-front.ensures c.len.ensures ∙ read in
    ap (λ (row : List ℕ). slice_index row cell) same ∙ stands.values at cell leads c.args.place c.requires.field
