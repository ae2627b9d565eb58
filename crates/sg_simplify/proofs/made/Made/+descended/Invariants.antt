use Rattle.std.proofs.Common.{length}
use Rattle.sg_simplify.proofs.made.Made.+descended.Given as goal

abbrev pub decreases-descended : goal.decreases-descended
decreases-descended l = length l.nodes.now
