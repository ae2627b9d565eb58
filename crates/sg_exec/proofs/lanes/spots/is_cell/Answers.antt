use Rattle.std.proofs.Common.{length, ap, arith}
use Rattle.std.proofs.lemmas.Bool.{eq-eqb}
use Rattle.sg_layout.specs.declared.shape.Shape.{Shape}
use Rattle.sg_exec.proofs.lanes.spots.is_cell.Goals as goal

pub returns : goal.returns
returns c = λ path leads whole. (
  eq-eqb c.args.spot.node c.nodes.result (omega (arith, leads.node, whole, c.nodes.ensures.value, ap (λ (s : Shape). length s.nodes) c.layout.ensures.layout)),
  c.layout.ensures.well_formed,
)
