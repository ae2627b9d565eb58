use Rattle.std.proofs.Common.{length}
use Rattle.sg_simplify.proofs.made.+span_among.Given as goal

abbrev pub decreases-span_among : goal.decreases-span_among
decreases-span_among l = length l.loops.now
