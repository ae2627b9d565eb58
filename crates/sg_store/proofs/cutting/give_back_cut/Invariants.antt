use Rattle.std.proofs.Common.{◌-◌, ◌≤◌, length}
use Rattle.sg_store.specs.steps.Cuts.{IsCutThrough}
use Rattle.sg_store.proofs.cutting.give_back_cut.Given as goal

abbrev pub invariant-loop-next : goal.invariant-loop-next
invariant-loop-next l = IsCutThrough l.old l.new l.slot l.fn.pool l.pool × (l.slot ≤ length l.old)

abbrev pub decreases-loop-next : goal.decreases-loop-next
decreases-loop-next l = length l.old - l.slot
