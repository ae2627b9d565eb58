use Rattle.std.proofs.Common.{◌+◌, ◌-◌, ◌*◌}
use Rattle.sg_exec.proofs.activation.first_pass.+fn-no_want_outside-join+arg2+fn-no_want_outside-join+arg3+no_want_outside.Given as goal

abbrev pub decreases-join+arg2 : goal.decreases-join+arg2
decreases-join+arg2 g l = 2 * (l.workers - l.half) + 1

abbrev pub decreases-join+arg3 : goal.decreases-join+arg3
decreases-join+arg3 g l = 2 * l.half + 1

abbrev pub decreases-no_want_outside : goal.decreases-no_want_outside
decreases-no_want_outside g l = 2 * l.workers
