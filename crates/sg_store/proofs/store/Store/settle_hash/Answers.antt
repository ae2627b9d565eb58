use Rattle.std.proofs.Common.{◌∙◌, sym, arith}
use Rattle.std.proofs.lemmas.Option.{slice_get_within}
use Rattle.sg_store.specs.StoreWords.{StoreWords}
use Rattle.sg_store.proofs.AtNumber.{at_number}
use Rattle.sg_store.proofs.HashAt.{hash_node}
use Rattle.sg_store.proofs.HashSettled as lemmas
use Rattle.sg_store.proofs.store.Store.settle_hash.Goals as goal

pub settle_keys-requires-clause-there : goal.settle_keys-requires-clause-there
settle_keys-requires-clause-there c =
    let store : StoreWords = c.args.self.now in
    let at = at_number store c.layout.ensures.well_formed 1 (omega arith) (λ dense. cc (sym c.requires.hash ∙ dense)) in
    slice_get_within store.nodes 0 at.1 at.2.has

pub settle_keys-requires-clause-can : goal.settle_keys-requires-clause-can
settle_keys-requires-clause-can c =
    let store : StoreWords = c.args.self.now in
    let at = at_number store c.layout.ensures.well_formed 1 (omega arith) (λ dense. cc (sym c.requires.hash ∙ dense)) in
    lemmas.can_settle store 0 at.0 at.1 c.args.keys.now c.args.links.now c.args.taken.now at.2 (sym at.3 ∙ c.requires.hash) c.requires.can c.requires.fits

pub returns-clause-keeps : goal.returns-clause-keeps
returns-clause-keeps c =
    let store : StoreWords = c.args.self.now in
    let at = at_number store c.layout.ensures.well_formed 1 (omega arith) (λ dense. cc (sym c.requires.hash ∙ dense)) in
    lemmas.hash_keeps store c.settle_keys.new.self 0 at.0 at.1 c.args.keys.now c.args.links.now c.args.taken.now at.2 (sym at.3 ∙ c.requires.hash) c.requires.can c.requires.fits c.settle_keys.ensures

pub returns-clause-opened : goal.returns-clause-opened
returns-clause-opened c = λ wanted have new.
    let store : StoreWords = c.args.self.now in
    let at = at_number store c.layout.ensures.well_formed 1 (omega arith) (λ dense. cc (sym c.requires.hash ∙ dense)) in
    let own = hash_node store 0 at.0 at.1 c.layout.ensures.well_formed at.2.at at.2.has (sym at.3 ∙ c.requires.hash) in
    lemmas.hash_opens store c.settle_keys.new.self 0 at.0 at.1 c.args.keys.now c.args.links.now c.args.taken.now wanted _ own.0 own.1 at.2 (c.paths_tell.ensures.is_slot store.shape)
    (sym at.3 ∙ c.requires.hash) c.requires.can c.requires.fits c.settle_keys.ensures have new
