use Rattle.std.proofs.Common.{ap, ◌∙◌}
use Rattle.std.proofs.lemmas.Result.{IfOk-weaker}
use Rattle.sg_layout.specs.Axes.{extent_in}
use Rattle.sg_simplify.specs.steps.Made.{given_in}
use Rattle.sg_simplify.proofs.Descending.{wide-later, part-goes}
use Rattle.sg_simplify.proofs.made.Made.part.Goals as goal

pub extent_over-div-requires-clause-small : goal.extent_over-div-requires-clause-small
extent_over-div-requires-clause-small c = (wide-later c.args.node.now c.args.later.now c.requires.wide).small c.args.axis c.requires.first

pub returns : goal.returns
returns c =
    IfOk-weaker c.taken.result _ _
    (λ to goes. part-goes (given_in c.args.given.now) c.args.node.now c.args.later.now c.args.axis c.args.from c.extent_over-div.result c.extent_in-size.result to c.new.result c.args.self.now c.taken.new.self c.args.out.now c.taken.new.out
    c.extent_over-div.ensures (c.extent_in-size.ensures.value ∙ ap (λ sizes. extent_in sizes c.args.axis) c.as_slice.ensures) c.new.ensures goes) c.taken.ensures
