use Rattle.std.proofs.Common.{sym}
use Rattle.sg_exec.proofs.Following.{last_inside}
use Rattle.sg_exec.proofs.activation.first_pass.is_within.Goals as goal

pub returns-then-is_last : goal.returns-then-is_last
returns-then-is_last c = sym (last_inside c.args.stores.now.list c.args.layout c.args.at c.args.last.now c.requires.last (c.is_last.ensures c.if-is_last.true))
