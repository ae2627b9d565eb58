use Rattle.std.proofs.Common.{length}
use Rattle.sg_dynamic.specs.Chunks.{lengths_from}
use Rattle.sg_dynamic.specs.steps.Growing.{FitSoFar}
use Rattle.sg_dynamic.proofs.chunks.fit_front.Given as goal

abbrev pub invariant-loop-head : goal.invariant-loop-head
invariant-loop-head l = FitSoFar l.fn.chains l.chains l.pool (lengths_from l.front (length l.fn.chains.lists)) l.chunk l.head
