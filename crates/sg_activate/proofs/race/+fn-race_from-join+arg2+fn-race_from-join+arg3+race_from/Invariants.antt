use Rattle.std.proofs.Common.{◌+◌, ◌*◌}
use Rattle.sg_activate.proofs.race.+fn-race_from-join+arg2+fn-race_from-join+arg3+race_from.Given as goal

abbrev pub decreases-join+arg2 : goal.decreases-join+arg2
decreases-join+arg2 g l = 2 * l.first.count + 1

abbrev pub decreases-join+arg3 : goal.decreases-join+arg3
decreases-join+arg3 g l = 2 * l.second.count + 1

abbrev pub decreases-race_from : goal.decreases-race_from
decreases-race_from g l = 2 * l.team.count
