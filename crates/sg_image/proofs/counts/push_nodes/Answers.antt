use Rattle.std.proofs.Common.{◌<◌, length, ap, ◌∙◌, arith}
use Rattle.sg_layout.specs.declared.shape.Shape.{Shape}
use Rattle.sg_image.proofs.Counting.{nodes_next}
use Rattle.sg_image.proofs.counts.push_nodes.Goals as goal

pub loop-index-preserved : goal.loop-index-preserved
loop-index-preserved c flat stands =
    let many = c.nodes-index-end.ensures.value ∙ ap (λ (s : Shape). length s.nodes) c.layout.ensures.layout in
    let below : c.loop-index.index < length c.args.store.now.shape.nodes = omega arith in
    nodes_next c.args.store.now.shape flat.active c.args.store.now.shape.nodes c.loop-index.index _ _ _ below (c.in_ok-push_node.ensures flat stands) (c.loop-index.invariant flat stands)
