use Rattle.std.proofs.Common.{◌∙◌, ap, arith}
use Rattle.sg_layout.specs.Axes.{extent_in}
use Rattle.sg_ir.proofs.Walkable.{extent-further}
use Rattle.sg_ir.proofs.place.extent_over.Goals as goal

pub overflow_mul-extent : goal.overflow_mul-extent
overflow_mul-extent c =
    let kept = c.loop-node.invariant in
    let most = kept.2 in
    let next =
    extent-further c.args.nodes.now c.args.axis c.loop-node.node-index c.loop-node.extent c.extent_in-extent.result c.node-item.result
    c.loop-node-test.true c.node-item.is (c.extent_in-extent.ensures.value ∙ ap (λ sizes. extent_in sizes c.args.axis) c.as_slice.ensures) kept.1 kept.0 in
    omega (arith, next.3)
