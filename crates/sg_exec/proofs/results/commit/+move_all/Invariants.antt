use Rattle.std.proofs.Common.{length}
use Rattle.sg_exec.proofs.results.commit.+move_all.Given as goal

abbrev pub decreases-move_all : goal.decreases-move_all
decreases-move_all l = length l.list
