use Rattle.std.proofs.Common.{length}
use Rattle.sg_exec.proofs.results.commit.+land_lists.Given as goal

abbrev pub decreases-land_lists : goal.decreases-land_lists
decreases-land_lists l = length l.lists.now
