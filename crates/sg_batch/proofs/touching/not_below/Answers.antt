use Rattle.std.proofs.Common.{arith}
use Rattle.sg_batch.proofs.Finding.{next_below, next_itself}
use Rattle.sg_batch.proofs.touching.not_below.Goals as goal

pub returns-then-number-from : goal.returns-then-number-from
returns-then-number-from c = next_below c.args.layout c.args.from (omega (arith, c.from-number.ensures))

pub returns-else-number-from : goal.returns-else-number-from
returns-else-number-from c = next_itself c.args.layout c.args.from (omega (arith, c.from-number.ensures))
