use Rattle.std.proofs.Common.{length}
use Rattle.sg_simplify.proofs.made.Made.+joined.Given as goal

abbrev pub decreases-joined : goal.decreases-joined
decreases-joined l = length l.index.now
