use Rattle.std.proofs.Common.{length}
use Rattle.sg_accum.proofs.halves.+begun_through.Given as goal

abbrev pub decreases-begun_through : goal.decreases-begun_through
decreases-begun_through l = length l.values.now
