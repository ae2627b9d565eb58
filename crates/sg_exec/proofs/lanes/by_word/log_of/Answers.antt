use Rattle.std.proofs.Common.{arith}
use Rattle.sg_exec.proofs.ByWord.{log_few, next_is}
use Rattle.sg_exec.proofs.lanes.by_word.log_of.Goals as goal

pub returns-clause-log : goal.returns-clause-log
returns-clause-log c = log_few c.ilog2.result c.args.number c.ilog2.ensures.bound c.ilog2.ensures.power_le c.requires.few

pub returns-clause-high : goal.returns-clause-high
returns-clause-high c = omega (arith, c.ilog2.ensures.next_power_gt, next_is c.ilog2.result)
