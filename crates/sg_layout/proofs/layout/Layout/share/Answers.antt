use Rattle.std.proofs.Common.{ap, ◌∙◌, arith}
use Rattle.sg_coord.specs.Bounds.{Bounds, bounds_of}
use Rattle.sg_layout.specs.declared.shape.Shape.{Shape}
use Rattle.sg_layout.specs.steps.Measuring.{share_in}
use Rattle.sg_layout.proofs.Measured.{share_here}
use Rattle.sg_layout.proofs.layout.Layout.share.Goals as goal

pub share-requires : goal.share-requires
share-requires c = omega (arith, c.requires.below, c.measures_at.ensures.size)

pub returns : goal.returns
returns c =
    c.share.ensures
    ∙ ap (λ (shape : Shape). share_in shape.axes (bounds_of c.measures_at.result.own) (bounds_of c.measures_at.result.below) c.args.offset) c.self.view_is
    ∙ ap (λ (m : Bounds × Bounds). share_in c.args.self.now.axes m.0 m.1 c.args.offset) c.measures_at.ensures.value
    ∙ share_here c.args.self.now.axes c.args.self.now.nodes c.args.node c.args.offset c.requires.there
