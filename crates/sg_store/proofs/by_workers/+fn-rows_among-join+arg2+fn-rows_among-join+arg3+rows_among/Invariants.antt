use Rattle.std.proofs.Common.{◌+◌, ◌-◌, ◌*◌}
use Rattle.sg_store.proofs.by_workers.+fn-rows_among-join+arg2+fn-rows_among-join+arg3+rows_among.Given as goal

abbrev pub decreases-join+arg2 : goal.decreases-join+arg2
decreases-join+arg2 g l = 2 * (l.workers - l.half) + 1

abbrev pub decreases-join+arg3 : goal.decreases-join+arg3
decreases-join+arg3 g l = 2 * l.half + 1

abbrev pub decreases-rows_among : goal.decreases-rows_among
decreases-rows_among g l = 2 * l.workers
