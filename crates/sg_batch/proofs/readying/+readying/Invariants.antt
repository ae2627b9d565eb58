use Rattle.std.proofs.Common.{◌+◌, ◌-◌, ◌*◌}
use Rattle.sg_batch.proofs.readying.+readying.Given as goal

abbrev pub decreases-ready_from : goal.decreases-ready_from
decreases-ready_from g l = 3 * (l.place.members - l.place.at) + 2

abbrev pub decreases-ready_beside : goal.decreases-ready_beside
decreases-ready_beside g l = 3 * (l.place.members - l.place.at) + 1

abbrev pub decreases-ready_beside-join+arg3 : goal.decreases-ready_beside-join+arg3
decreases-ready_beside-join+arg3 g l = 3 * (l.members - l.at)
