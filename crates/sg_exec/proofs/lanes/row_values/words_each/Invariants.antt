use Rattle.std.proofs.Common.{get_or}
use Rattle.sg_exec.proofs.EachLane.{EachBefore}
use Rattle.sg_exec.proofs.lanes.row_values.words_each.Given as goal

abbrev pub invariant-loop-k : goal.invariant-loop-k
invariant-loop-k l = EachBefore (λ k. get_or l.words (get_or l.fn.numbers k 0) 0) l.k l.lanes
