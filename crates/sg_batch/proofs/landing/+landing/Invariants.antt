use Rattle.std.proofs.Common.{length}
use Rattle.sg_batch.proofs.landing.+landing.Given as goal

abbrev pub decreases-land_all : goal.decreases-land_all
decreases-land_all l = length l.group.now
