use Rattle.std.proofs.Common.{take}
use Rattle.sg_store.specs.steps.AtNode.{AreNumbers}
use Rattle.sg_store.proofs.store.Store.numbers.Given as goal

abbrev pub invariant-loop-at : goal.invariant-loop-at
invariant-loop-at l = AreNumbers l.self l.index (take l.at-index l.wanted) l.slots
