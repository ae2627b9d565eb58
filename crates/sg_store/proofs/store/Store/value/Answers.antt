use Rattle.std.proofs.Common.{ap, ◌∙◌, subst}
use Rattle.sg_store.specs.StoreWords.{StoreWords}
use Rattle.sg_store.specs.WellFormed.{IsWellFormed}
use Rattle.sg_store.proofs.CellWords as lemmas
use Rattle.sg_store.proofs.store.Store.value.Goals as goal

pub returns-clause-value : goal.returns-clause-value
returns-clause-value c =
    let store : StoreWords = c.args.self.now in
    let well : IsWellFormed store = subst IsWellFormed c.self.view_is c.self.invariant in
    let rows = c.as_slice.ensures.value ∙ ap (λ (s : StoreWords). s.fields) c.self.view_is in
    c.get.ensures ∙ lemmas.row_reads store _ c.index-as_slice-place.result c.args.place c.args.cell well rows c.index-as_slice-place.is c.requires.field

pub returns-clause-stands : goal.returns-clause-stands
returns-clause-stands c = λ flat stands at leads.
    let store : StoreWords = c.args.self.now in
    let well : IsWellFormed store = subst IsWellFormed c.self.view_is c.self.invariant in
    let rows = c.as_slice.ensures.value ∙ ap (λ (s : StoreWords). s.fields) c.self.view_is in
    c.get.ensures ∙ lemmas.row_reads store _ c.index-as_slice-place.result c.args.place c.args.cell well rows c.index-as_slice-place.is c.requires.field
    ∙ stands.values at c.args.cell leads c.args.place c.requires.field
