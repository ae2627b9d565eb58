use Rattle.std.proofs.Common.{◌≡◌, ap, ◌∙◌, length}
use Rattle.sg_layout.specs.declared.shape.Shape.{Shape}
use Rattle.sg_exec.proofs.lanes.row_values.cells_in.Goals as goal

pub returns : goal.returns
returns c = record {
  last = c.if-node-nodes.false ∙ c.nodes.ensures.value ∙ ap (λ (s : Shape). length s.nodes) c.layout.ensures.layout;
  cells = c.field_cells.ensures;
}
