use Rattle.std.proofs.Common.{◌+◌, ◌-◌, ◌*◌}
use Rattle.sg_activate.proofs.gates.+fn-pass_slices-join+arg2+fn-pass_slices-join+arg3+pass_slices.Given as goal

abbrev pub decreases-join+arg2 : goal.decreases-join+arg2
decreases-join+arg2 g l = 2 * (l.count - l.half) + 1

abbrev pub decreases-join+arg3 : goal.decreases-join+arg3
decreases-join+arg3 g l = 2 * l.half + 1

abbrev pub decreases-pass_slices : goal.decreases-pass_slices
decreases-pass_slices g l = 2 * l.count
