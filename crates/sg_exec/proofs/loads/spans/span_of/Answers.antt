use Rattle.std.proofs.Common.{◌≡◌, List, ap, sym, ◌∙◌}
use Rattle.sg_layout.specs.declared.shape.Size.{Size}
use Rattle.sg_layout.specs.Axes.{extent_in}
use Rattle.sg_exec.proofs.Sides.{span_at_three, span_at_two}
use Rattle.sg_exec.proofs.loads.spans.span_of.Goals as goal

pub returns-then-axes-ge3-clause-span : goal.returns-then-axes-ge3-clause-span
returns-then-axes-ge3-clause-span c =
    span_at_three c.args.node.now c.args.axes c.extent_in-c.result c.if-axes-ge3.true
    (c.extent_in-c.ensures.value ∙ ap (λ (sizes : List Size). extent_in sizes 3) c.as_slice-sizes.ensures)

pub returns-then-axes-ge2-clause-span : goal.returns-then-axes-ge2-clause-span
returns-then-axes-ge2-clause-span c =
    let is : c.extent_in-c.result ≡ extent_in c.args.node.now.sizes 3 = c.extent_in-c.ensures.value ∙ ap (λ (sizes : List Size). extent_in sizes 3) c.as_slice-sizes.ensures in
    span_at_two c.args.node.now c.args.axes c.extent_in-b.result c.if-axes-ge3.false c.if-axes-ge2.true (sym is ∙ c.if-c-ne1.false)
    (c.extent_in-b.ensures.value ∙ ap (λ (sizes : List Size). extent_in sizes 2) c.as_slice-sizes.ensures)
