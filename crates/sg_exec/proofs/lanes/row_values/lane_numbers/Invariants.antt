use Rattle.sg_exec.proofs.EachLane.{EachBefore}
use Rattle.sg_exec.proofs.lanes.row_values.lane_numbers.Given as goal

abbrev pub invariant-loop-k : goal.invariant-loop-k
invariant-loop-k l = EachBefore (λ k. k) l.k l.lanes
