use Rattle.sg_journal.proofs.PlacingLoops.{ArePlacedSoFar}
use Rattle.sg_journal.proofs.placing.store_links.Given as goal

abbrev pub invariant-loop-index : goal.invariant-loop-index
invariant-loop-index l = ArePlacedSoFar l.store l.index l.nodes
