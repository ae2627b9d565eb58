use Rattle.std.proofs.Common.{take}
use Rattle.sg_store.specs.steps.Raising.{RiseByMany}
use Rattle.sg_store.proofs.dynamic.raise_all.Given as goal

abbrev pub invariant-loop-slot : goal.invariant-loop-slot
invariant-loop-slot l = RiseByMany l.fn.lengths l.lengths l.size (take l.slot-index l.slots)
