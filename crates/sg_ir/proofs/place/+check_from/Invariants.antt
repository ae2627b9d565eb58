use Rattle.std.proofs.Common.{length}
use Rattle.sg_ir.proofs.place.+check_from.Given as goal

abbrev pub decreases-check_from : goal.decreases-check_from
decreases-check_from l = length l.index.now
