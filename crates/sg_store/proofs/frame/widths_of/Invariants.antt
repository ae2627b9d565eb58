use Rattle.sg_store.proofs.Widths.{AreFirst}
use Rattle.sg_store.proofs.frame.widths_of.Given as goal

abbrev pub invariant-loop-index : goal.invariant-loop-index
invariant-loop-index l = AreFirst l.layout.nodes l.index l.before l.widths
