use Rattle.std.proofs.Common.{◌∙◌, ap}
use Rattle.sg_layout.specs.Axes.{extent_in}
use Rattle.sg_layout.proofs.Extending.{over_long}
use Rattle.sg_layout.proofs.axes.extent_over.Goals as goal

pub returns-then-extent-gt-MOST_EXTENT : goal.returns-then-extent-gt-MOST_EXTENT
returns-then-extent-gt-MOST_EXTENT c =
    let kept = c.loop-node.invariant in
    over_long c.args.nodes.now c.args.axis c.loop-node.node-index c.loop-node.extent c.extent_in-extent.result c.node-item.result
    c.loop-node-test.true c.node-item.is (c.extent_in-extent.ensures.value ∙ ap (λ sizes. extent_in sizes c.args.axis) c.as_slice.ensures) kept.0 kept.1 c.if-extent-gt-MOST_EXTENT.true
