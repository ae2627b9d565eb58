use Rattle.std.proofs.Common.{length}
use Rattle.sg_ir.proofs.place.+offset_from.Given as goal

abbrev pub decreases-offset_from : goal.decreases-offset_from
decreases-offset_from l = length l.index.now
