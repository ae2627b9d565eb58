use Rattle.std.proofs.Common.{◌≤◌, length}
use Rattle.sg_explain.proofs.sentences.first_missing.Given as goal

abbrev pub invariant-loop-rest : goal.invariant-loop-rest
invariant-loop-rest l = length l.rest ≤ length l.wants

abbrev pub decreases-loop-rest : goal.decreases-loop-rest
decreases-loop-rest l = length l.rest
