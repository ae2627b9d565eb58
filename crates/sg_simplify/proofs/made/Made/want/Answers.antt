use Rattle.sg_simplify.specs.steps.Made.{given_in}
use Rattle.sg_simplify.proofs.Acting.{want-goes}
use Rattle.sg_simplify.proofs.made.Made.want.Goals as goal

pub returns : goal.returns
returns c =
    want-goes (given_in c.args.given.now) c.args.self.now c.args.out.now c.push.new.self c.args.layout c.args.index.now c.args.stmt c.in_ok-index.index c.in_ok-index.ensures c.in_ok-push.ensures.ok
