use Rattle.sg_batch.proofs.Alone.{both_alone, not_alone}
use Rattle.sg_batch.proofs.touching.independent.Goals as goal

pub returns-then-left_alone : goal.returns-then-left_alone
returns-then-left_alone c = both_alone c.args.one.now c.args.other.now c.left_alone.result c.left_alone-then-left_alone.result c.left_alone.ensures c.left_alone-then-left_alone.ensures c.if-left_alone.true

pub returns-else-left_alone : goal.returns-else-left_alone
returns-else-left_alone c = not_alone c.args.one.now c.args.other.now c.left_alone.result c.left_alone.ensures c.if-left_alone.false
