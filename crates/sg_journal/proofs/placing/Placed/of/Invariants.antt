use Rattle.std.proofs.Common.{take}
use Rattle.sg_journal.specs.Placing.{ArePlaced}
use Rattle.sg_journal.proofs.placing.Placed.of.Given as goal

abbrev pub invariant-loop-store : goal.invariant-loop-store
invariant-loop-store l = ArePlaced (take l.store-index l.store-items) l.layouts
