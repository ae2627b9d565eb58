use Rattle.std.proofs.Common.{ap, ◌∙◌, arith}
use Rattle.sg_coord.specs.Bounds.{Bounds}
use Rattle.sg_coord.specs.Coord.{row_of}
use Rattle.sg_layout.specs.steps.Measuring.{parts_in}
use Rattle.sg_layout.proofs.Measured.{offset_here}
use Rattle.sg_layout.proofs.layout.Layout.offset.Goals as goal

pub returns-clause-value : goal.returns-clause-value
returns-clause-value c =
    c.offset.ensures.value
    ∙ ap (λ (m : Bounds × Bounds). row_of m.0 (parts_in m.0 m.1 c.args.at)) c.measures_at.ensures.value
    ∙ offset_here c.args.self.now.nodes c.args.node c.args.at c.requires.there

pub returns-clause-below : goal.returns-clause-below
returns-clause-below c = omega (arith, c.offset.ensures.below, c.measures_at.ensures.size)
