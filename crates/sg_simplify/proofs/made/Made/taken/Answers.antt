use Rattle.std.proofs.Common.{sym, ◌∙◌}
use Rattle.std.proofs.lemmas.Result.{IfOk-weaker}
use Rattle.sg_simplify.specs.steps.Made.{given_in}
use Rattle.sg_simplify.proofs.Taking.{operand-goes, plainest-goes}
use Rattle.sg_simplify.proofs.made.Made.taken.Goals as goal

pub returns-in-Some : goal.returns-in-Some
returns-in-Some c =
    operand-goes (given_in c.args.given.now) c.args.ty c.args.op c.args.index c.in-Some.again c.args.self.now c.args.out.now (sym c.operand_again.ensures ∙ c.in-Some.is)

pub returns : goal.returns
returns c =
    IfOk-weaker c.looked_up.result _ _
    (λ to goes. plainest-goes (given_in c.args.given.now) c.args.ty c.args.op c.args.index to c.args.self.now c.looked_up.new.self c.args.out.now c.looked_up.new.out (sym c.operand_again.ensures ∙ c.in_default.is)
    c.plainest.result c.plainest.ensures.plain goes) c.looked_up.ensures
