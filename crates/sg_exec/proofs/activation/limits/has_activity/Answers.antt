use Rattle.std.proofs.Common.{◌≡◌, true, sym, ap, ◌∙◌}
use Rattle.sg_layout.specs.declared.shape.Shape.{Shape}
use Rattle.sg_layout.specs.Axes.{bounds_of_shape}
use Rattle.sg_layout.specs.Rules.{all_dense}
use Rattle.sg_exec.proofs.Limited.{dense_cells, from_not}
use Rattle.sg_exec.proofs.activation.limits.has_activity.Goals as goal

pub returns : goal.returns
returns c = λ sparse.
    let store = c.args.store.now in
    let dense : all_dense store.shape.nodes ≡ true =
    sym (c.is_dense.ensures ∙ ap (λ (shape : Shape). all_dense shape.nodes) (c.shape.ensures.value ∙ c.layout.ensures.layout)) ∙ from_not c.is_dense.result sparse in
    dense_cells store (c.dense_is_full.ensures store.shape) (c.cells_are_active.ensures.active store) c.layout.ensures.well_formed (c.points_in_order.ensures.inside (bounds_of_shape store.shape))
    c.numbering.ensures.inside_test dense
