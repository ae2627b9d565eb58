use Rattle.std.proofs.Common.{length}
use Rattle.sg_explain.proofs.scope.nearest_constant.Given as goal

abbrev pub decreases-loop-rest : goal.decreases-loop-rest
decreases-loop-rest l = length l.rest
