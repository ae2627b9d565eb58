use Rattle.std.proofs.Common.{ℕ, ◌/◌, ◌%◌, get_or}
use Rattle.sg_exec.proofs.EachLane.{EachBefore}
use Rattle.sg_exec.proofs.lanes.operators.digits_of.Given as goal

abbrev pub invariant-loop-k : goal.invariant-loop-k
invariant-loop-k l = EachBefore (λ k. get_or l.fn.a k 0 / l.fn.div % l.fn.size) l.k l.words
