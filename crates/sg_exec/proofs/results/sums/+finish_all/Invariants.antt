use Rattle.std.proofs.Common.{length}
use Rattle.sg_exec.proofs.results.sums.+finish_all.Given as goal

abbrev pub decreases-finish_all : goal.decreases-finish_all
decreases-finish_all g l = length l.accumulated.items
