use Rattle.sg_simplify.specs.steps.Made.{given_in}
use Rattle.sg_simplify.proofs.Acting.{set-goes}
use Rattle.sg_simplify.proofs.made.Made.set.Goals as goal

pub returns : goal.returns
returns c = set-goes (given_in c.args.given.now) c.args.self.now c.args.out.now c.push.new.self c.args.var c.args.from c.name-from.result c.name-from.ensures c.in_ok-push.ensures.ok
