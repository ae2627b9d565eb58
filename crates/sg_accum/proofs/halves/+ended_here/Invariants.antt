use Rattle.std.proofs.Common.{length}
use Rattle.sg_accum.proofs.halves.+ended_here.Given as goal

abbrev pub decreases-ended_here : goal.decreases-ended_here
decreases-ended_here l = length l.parts.items
