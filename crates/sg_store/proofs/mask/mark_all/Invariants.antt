use Rattle.std.proofs.Common.{take}
use Rattle.sg_store.specs.steps.Marking.{IsMarked}
use Rattle.sg_store.proofs.mask.mark_all.Given as goal

abbrev pub invariant-loop-number : goal.invariant-loop-number
invariant-loop-number l = IsMarked l.fn.masks l.masks (take l.number-index l.numbers)
