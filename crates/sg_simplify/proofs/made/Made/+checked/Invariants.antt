use Rattle.std.proofs.Common.{length}
use Rattle.sg_simplify.proofs.made.Made.+checked.Given as goal

abbrev pub decreases-checked : goal.decreases-checked
decreases-checked l = length l.extents.now
