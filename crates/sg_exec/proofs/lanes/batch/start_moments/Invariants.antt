use Rattle.sg_exec.proofs.Starting.{Starting}
use Rattle.sg_exec.proofs.lanes.batch.start_moments.Given as goal

abbrev pub invariant-loop-k : goal.invariant-loop-k
invariant-loop-k l = Starting l.points l.k l.fn.moments l.moments
