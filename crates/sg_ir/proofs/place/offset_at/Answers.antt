use Rattle.std.proofs.Common.{◌<◌, [], All, length, sym, subst}
use Rattle.std.proofs.lemmas.Result.{IfOk-weaker}
use Rattle.sg_ir.proofs.Extending.{rest-whole, all_rest, all_named}
use Rattle.sg_ir.proofs.Walking.{offset-first}
use Rattle.sg_ir.proofs.AddingPlaces.{offset-added-first}
use Rattle.sg_ir.proofs.place.offset_at.Goals as goal

pub offset_from-requires-clause-high : goal.offset_from-requires-clause-high
offset_from-requires-clause-high c = (c.in_ok-high.ensures.computes []).named

pub offset_from-requires-clause-named : goal.offset_from-requires-clause-named
offset_from-requires-clause-named c =
    let index = c.args.index.now in
    let rest = c.digit.new.names in
    subst (All (λ r. r < length rest.regs)) (sym (rest-whole index)) (all_rest (λ r. r < length rest.regs) index (all_named c.args.names.now rest index (c.in_ok-high.ensures.computes []).extends.grows c.requires.named))

pub returns-clause-computes : goal.returns-clause-computes
returns-clause-computes c =
    IfOk-weaker c.offset_from.result _ _ (λ to rest shapes. offset-first shapes c.args.node.now c.args.later.now c.args.index.now c.in_ok-high.high to _ _ _ _ _ _ c.requires.some_axes c.requires.named (c.in_ok-high.ensures.computes shapes) (rest shapes)) c.offset_from.ensures.computes

pub returns-clause-typed : goal.returns-clause-typed
returns-clause-typed c =
    IfOk-weaker c.offset_from.result _ _ (λ to rest shapes. offset-added-first shapes c.args.index.now c.in_ok-high.high to _ _ _ _ _ _ c.requires.some_axes c.requires.named (c.in_ok-high.ensures.typed shapes) (rest shapes)) c.offset_from.ensures.typed
