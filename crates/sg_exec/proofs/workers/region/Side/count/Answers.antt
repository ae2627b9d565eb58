use Rattle.std.proofs.Common.{arith}
use Rattle.std.proofs.lemmas.Int.{ints}
use Rattle.sg_exec.proofs.BoxPoints.{count_some}
use Rattle.sg_exec.proofs.workers.region.Side.count.Goals as goal

pub returns-else-hi-lo : goal.returns-else-hi-lo
returns-else-hi-lo c = omega (arith, ints, count_some c.args.self.used c.args.self.lo c.args.self.hi (cc) (omega (arith, ints)))
