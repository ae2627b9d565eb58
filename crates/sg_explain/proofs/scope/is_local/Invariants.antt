use Rattle.std.proofs.Common.{◌≤◌, length}
use Rattle.sg_explain.proofs.scope.is_local.Given as goal

abbrev pub invariant-loop-rest : goal.invariant-loop-rest
invariant-loop-rest l = length l.rest ≤ length l.front

abbrev pub decreases-loop-rest : goal.decreases-loop-rest
decreases-loop-rest l = length l.rest
