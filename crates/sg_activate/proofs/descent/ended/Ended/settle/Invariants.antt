use Rattle.sg_activate.specs.steps.DescentEnds.{GoesOn}
use Rattle.sg_activate.proofs.descent.ended.Ended.settle.Given as goal

abbrev pub invariant-loop-index : goal.invariant-loop-index
invariant-loop-index l = GoesOn l.self.start l.self.base l.self.levels l.self.links l.self.masks l.initial.store 0 l.store l.index
