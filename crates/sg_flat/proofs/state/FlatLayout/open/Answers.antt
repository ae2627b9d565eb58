use Rattle.std.proofs.Common.{◌∙◌, ap, [], map}
use Rattle.sg_layout.specs.declared.shape.Shape.{Shape}
use Rattle.sg_flat.proofs.FlatLayouts.{opening_is_flat}
use Rattle.sg_flat.proofs.state.FlatLayout.open.Goals as goal

pub returns-clause-flat : goal.returns-clause-flat
returns-clause-flat c =
    let shape = c.args.layout.now in
    opening_is_flat shape c.in_ok-active.active c.in_ok-fields.fields (c.closure_closes.ensures.closed shape) c.in_ok-active.ensures
    (c.in_ok-fields.ensures ∙ ap (map (λ _. [])) (c.as_slice.ensures ∙ ap (λ (s : Shape). s.fields) c.shape.ensures.value))
