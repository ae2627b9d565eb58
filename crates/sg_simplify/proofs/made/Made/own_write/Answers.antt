use Rattle.sg_simplify.specs.steps.Made.{given_in}
use Rattle.sg_simplify.proofs.Acting.{write-goes}
use Rattle.sg_simplify.proofs.made.Made.own_write.Goals as goal

pub returns : goal.returns
returns c =
    write-goes (given_in c.args.given.now) c.args.self.now c.args.out.now c.push.new.self c.args.layout c.args.field c.args.from c.args.stmt c.name-from.result c.name-from.ensures c.in_ok-push.ensures.ok
