use Rattle.std.proofs.Common.{get_or}
use Rattle.sg_words.specs.Words.{applied}
use Rattle.sg_exec.proofs.EachLane.{EachBefore}
use Rattle.sg_exec.proofs.lanes.operators.lane_by_lane.Given as goal

abbrev pub invariant-loop-k : goal.invariant-loop-k
invariant-loop-k l = EachBefore (λ k. applied l.fn.op l.fn.ty (get_or l.fn.a k 0) (get_or l.fn.b k 0)) l.k l.words
