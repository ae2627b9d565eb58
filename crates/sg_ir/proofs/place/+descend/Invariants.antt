use Rattle.std.proofs.Common.{length}
use Rattle.sg_ir.proofs.place.+descend.Given as goal

abbrev pub decreases-descend : goal.decreases-descend
decreases-descend l = length l.nodes.now
