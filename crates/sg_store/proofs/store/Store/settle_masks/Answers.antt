use Rattle.std.proofs.Common.{◌-◌, ◌∙◌, sym}
use Rattle.std.proofs.lemmas.Option.{slice_get_within}
use Rattle.sg_store.specs.StoreWords.{StoreWords}
use Rattle.sg_store.proofs.AtNumber.{at_number}
use Rattle.sg_store.proofs.BitsSettled as lemmas
use Rattle.sg_store.proofs.store.Store.settle_masks.Goals as goal

pub remask_node-requires-clause-there : goal.remask_node-requires-clause-there
remask_node-requires-clause-there c =
    let store : StoreWords = c.args.self.now in
    let at = at_number store c.layout.ensures.well_formed c.args.node c.requires.first (λ dense. cc (sym c.requires.masked ∙ dense)) in
    slice_get_within store.nodes (c.args.node - 1) at.1 at.2.has

pub remask_node-requires-clause-can : goal.remask_node-requires-clause-can
remask_node-requires-clause-can c =
    let store : StoreWords = c.args.self.now in
    let at = at_number store c.layout.ensures.well_formed c.args.node c.requires.first (λ dense. cc (sym c.requires.masked ∙ dense)) in
    lemmas.can_settle store c.args.node (c.args.node - 1) at.0 at.1 c.args.masks.now at.2 (sym at.3 ∙ c.requires.masked) c.requires.can

pub returns-clause-keeps : goal.returns-clause-keeps
returns-clause-keeps c =
    let store : StoreWords = c.args.self.now in
    let at = at_number store c.layout.ensures.well_formed c.args.node c.requires.first (λ dense. cc (sym c.requires.masked ∙ dense)) in
    lemmas.bits_keep store c.remask_node.new.self c.args.node (c.args.node - 1) at.0 at.1 c.args.masks.now at.2 (sym at.3 ∙ c.requires.masked) c.requires.can c.remask_node.ensures

pub returns-clause-opened : goal.returns-clause-opened
returns-clause-opened c = λ wanted have new.
    let store : StoreWords = c.args.self.now in
    let at = at_number store c.layout.ensures.well_formed c.args.node c.requires.first (λ dense. cc (sym c.requires.masked ∙ dense)) in
    lemmas.bits_open store c.remask_node.new.self c.args.node (c.args.node - 1) at.0 at.1 c.args.masks.now wanted at.2 (c.paths_tell.ensures.is_slot store.shape)
    (sym at.3 ∙ c.requires.masked) c.requires.can c.remask_node.ensures have new
