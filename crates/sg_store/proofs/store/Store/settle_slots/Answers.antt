use Rattle.std.proofs.Common.{◌-◌, ◌∙◌, sym}
use Rattle.std.proofs.lemmas.Option.{slice_get_within}
use Rattle.sg_store.specs.StoreWords.{StoreWords}
use Rattle.sg_store.proofs.AtNumber.{at_number}
use Rattle.sg_store.proofs.SlotsSettled as lemmas
use Rattle.sg_store.proofs.store.Store.settle_slots.Goals as goal

pub settle_links-requires-clause-there : goal.settle_links-requires-clause-there
settle_links-requires-clause-there c =
    let store : StoreWords = c.args.self.now in
    let at = at_number store c.layout.ensures.well_formed c.args.node c.requires.first (λ dense. cc (sym c.requires.pointer ∙ dense)) in
    slice_get_within store.nodes (c.args.node - 1) at.1 at.2.has

pub settle_links-requires-clause-can : goal.settle_links-requires-clause-can
settle_links-requires-clause-can c =
    let store : StoreWords = c.args.self.now in
    let at = at_number store c.layout.ensures.well_formed c.args.node c.requires.first (λ dense. cc (sym c.requires.pointer ∙ dense)) in
    lemmas.can_settle store c.args.node (c.args.node - 1) at.0 at.1 c.args.links.now c.args.taken.now at.2 (sym at.3 ∙ c.requires.pointer) c.requires.can c.requires.fits

pub returns-clause-keeps : goal.returns-clause-keeps
returns-clause-keeps c =
    let store : StoreWords = c.args.self.now in
    let at = at_number store c.layout.ensures.well_formed c.args.node c.requires.first (λ dense. cc (sym c.requires.pointer ∙ dense)) in
    lemmas.slots_keep store c.settle_links.new.self c.args.node (c.args.node - 1) at.0 at.1 c.args.links.now c.args.taken.now at.2 (sym at.3 ∙ c.requires.pointer) c.requires.can c.requires.fits c.settle_links.ensures

pub returns-clause-opened : goal.returns-clause-opened
returns-clause-opened c = λ wanted have new.
    let store : StoreWords = c.args.self.now in
    let at = at_number store c.layout.ensures.well_formed c.args.node c.requires.first (λ dense. cc (sym c.requires.pointer ∙ dense)) in
    lemmas.slots_open store c.settle_links.new.self c.args.node (c.args.node - 1) at.0 at.1 c.args.links.now c.args.taken.now wanted at.2 (c.paths_tell.ensures.is_slot store.shape)
    (sym at.3 ∙ c.requires.pointer) c.requires.can c.requires.fits c.settle_links.ensures have new
