use Rattle.std.proofs.Common.{◌≡◌, [], length, sym, ap, ◌∙◌, subst}
use Rattle.std.specs.Prelude.{slice_index_or}
use Rattle.std.specs.List.{concat}
use Rattle.sg_store.specs.StoreWords.{StoreWords}
use Rattle.sg_store.specs.WellFormed.{IsWellFormed}
use Rattle.sg_store.specs.StandsFor.{StandsFor}
use Rattle.sg_store.proofs.CellWords.{row_of_field}
use Rattle.sg_store.proofs.FieldRows as lemmas
use Rattle.sg_store.proofs.store.Store.set_field_row.Goals as goal

pub returns-clause-set : goal.returns-clause-set
returns-clause-set c =
    let store : StoreWords = c.args.self.now in
    let well : IsWellFormed store = subst IsWellFormed c.self.view_is c.self.invariant in
    let row_at : c.index_mut-row.result.now ≡ slice_index_or store.fields c.args.place [] =
    lemmas.row_is store c.self.inside.fields.items c.index_mut-row.result.now c.args.place well (ap (λ (s : StoreWords). s.fields) c.self.view_is) c.index_mut-row.ensures.value c.requires.field in
    let long : length (concat c.args.parts.now) ≡ length c.index_mut-row.result.now =
    c.requires.row.cells ∙ sym (ap length row_at ∙ (row_of_field store well c.args.place [] c.requires.field).cells) in
    sym (lemmas.row_put store c.self.inside.layout c.self.inside.nodes.items c.self.inside.fields.items c.rewrite.new.row (concat c.args.parts.now) c.args.place c.self.view_is
    (c.rewrite.ensures ∙ lemmas.over_whole (concat c.args.parts.now) c.index_mut-row.result.now long))

pub returns-clause-stands : goal.returns-clause-stands
returns-clause-stands c = λ flat now stands sets.
    let store : StoreWords = c.args.self.now in
    let well : IsWellFormed store = subst IsWellFormed c.self.view_is c.self.invariant in
    let row_at : c.index_mut-row.result.now ≡ slice_index_or store.fields c.args.place [] =
    lemmas.row_is store c.self.inside.fields.items c.index_mut-row.result.now c.args.place well (ap (λ (s : StoreWords). s.fields) c.self.view_is) c.index_mut-row.ensures.value c.requires.field in
    let long : length (concat c.args.parts.now) ≡ length c.index_mut-row.result.now =
    c.requires.row.cells ∙ sym (ap length row_at ∙ (row_of_field store well c.args.place [] c.requires.field).cells) in
    subst (λ s. StandsFor s now)
    (lemmas.row_put store c.self.inside.layout c.self.inside.nodes.items c.self.inside.fields.items c.rewrite.new.row (concat c.args.parts.now) c.args.place c.self.view_is
    (c.rewrite.ensures ∙ lemmas.over_whole (concat c.args.parts.now) c.index_mut-row.result.now long))
    (lemmas.row_stands store c.args.place (concat c.args.parts.now) well c.requires.field flat now stands sets)
