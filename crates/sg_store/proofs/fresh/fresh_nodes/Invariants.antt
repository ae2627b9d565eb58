use Rattle.std.proofs.Common.{drop}
use Rattle.sg_store.specs.steps.Fresh.{IsFreshSoFar}
use Rattle.sg_store.proofs.fresh.fresh_nodes.Given as goal

abbrev pub invariant-loop-index : goal.invariant-loop-index
invariant-loop-index l = IsFreshSoFar l.node-items (drop l.index l.node-items) l.words.items l.places
