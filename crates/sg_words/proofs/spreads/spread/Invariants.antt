use Rattle.std.proofs.Common.{◌+◌, length}
use Rattle.sg_words.specs.Spread.{bears_mark}
use Rattle.sg_words.specs.steps.SpreadSteps.{links_waiting}
use Rattle.sg_words.proofs.Spreading.{IsSpreading}
use Rattle.sg_words.proofs.spreads.spread.Given as goal

abbrev pub invariant-loop-place : goal.invariant-loop-place
invariant-loop-place l = IsSpreading l.links l.start l.marks l.work

abbrev pub decreases-loop-place : goal.decreases-loop-place
decreases-loop-place l = links_waiting (bears_mark l.marks) 0 l.targets.items + length l.work
