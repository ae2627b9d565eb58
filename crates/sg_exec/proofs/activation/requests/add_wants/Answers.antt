use Rattle.std.proofs.Common.{ap, ◌∙◌, ◌++◌, List, take, drop, arith}
use Rattle.std.proofs.lemmas.List.{take_all}
use Rattle.sg_coord.specs.Bounds.{bounds_of}
use Rattle.sg_flat.specs.declared.effects.Write.{Write}
use Rattle.sg_exec.specs.steps.Turning.{wanted_of}
use Rattle.sg_exec.proofs.Turning.{inside_more, on_err, wanted_parts}
use Rattle.sg_exec.proofs.activation.requests.add_wants.Goals as goal

pub returns-clause-inside : goal.returns-clause-inside
returns-clause-inside c = λ all.
    inside_more (bounds_of c.args.extents.now) c.args.layout c.args.writes.now c.args.into.now.items c.loop-write.into.items c.numbering.ensures.inside_test
    (c.loop-write.invariant ∙ ap (λ (ws : List Write). c.args.into.now.items ++ wanted_of (bounds_of c.args.extents.now) c.args.layout ws) (take_all c.loop-write.write-index c.args.writes.now (omega arith))) all

pub returns-in_err-push-clause-front : goal.returns-in_err-push-clause-front
returns-in_err-push-clause-front c =
    let bounds = bounds_of c.args.extents.now in
    let layout = c.args.layout in
    let writes = c.args.writes.now in
    let k = c.loop-write.write-index in
    on_err c.from_residual.result
    (wanted_of bounds layout (take k writes), wanted_of bounds layout (drop k writes), c.in_err-push.ensures.items ∙ c.loop-write.invariant, wanted_parts bounds layout k writes)
