use Rattle.std.proofs.Common.{ap, subst}
use Rattle.sg_store.specs.StoreWords.{StoreWords}
use Rattle.sg_store.specs.WellFormed.{IsWellFormed}
use Rattle.sg_store.specs.StandsFor.{StandsFor}
use Rattle.sg_store.proofs.CellWords as lemmas
use Rattle.sg_store.proofs.store.Store.set.Goals as goal

pub set-requires : goal.set-requires
set-requires c =
    let store : StoreWords = c.args.self.now in
    let well : IsWellFormed store = subst IsWellFormed c.self.view_is c.self.invariant in
    lemmas.row_holds store _ c.index_mut-row.result.now c.args.place c.args.cell well (ap (λ (s : StoreWords). s.fields) c.self.view_is) c.index_mut-row.ensures.value c.requires.field c.requires.cell

pub invariant_of-self : goal.invariant_of-self
invariant_of-self c =
    let store : StoreWords = c.args.self.now in
    let well : IsWellFormed store = subst IsWellFormed c.self.view_is c.self.invariant in
    let written = lemmas.row_written store c.self.inside.layout c.self.inside.nodes.items c.self.inside.fields.items c.index_mut-row.result.now c.set.new.self c.args.place c.args.cell c.args.word
    well c.requires.field c.self.view_is c.index_mut-row.ensures.value c.set.ensures in
    subst IsWellFormed written (lemmas.set_well_formed store c.args.place c.args.cell c.args.word well c.requires.field c.requires.cell)

pub returns-clause-stands : goal.returns-clause-stands
returns-clause-stands c = λ flat now at stands here sets.
    let store : StoreWords = c.args.self.now in
    let well : IsWellFormed store = subst IsWellFormed c.self.view_is c.self.invariant in
    let written = lemmas.row_written store c.self.inside.layout c.self.inside.nodes.items c.self.inside.fields.items c.index_mut-row.result.now c.set.new.self c.args.place c.args.cell c.args.word
    well c.requires.field c.self.view_is c.index_mut-row.ensures.value c.set.ensures in
    subst (λ s. StandsFor s now) written
    (lemmas.set_stands store c.args.place c.args.cell c.args.word well c.requires.field c.requires.cell (c.cells_are_active.ensures.differ store well) flat now at stands here sets)
