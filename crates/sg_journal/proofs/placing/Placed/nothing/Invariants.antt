use Rattle.std.proofs.Common.{◌≡◌, map, take}
use Rattle.sg_journal.specs.Placing.{nothing_in}
use Rattle.sg_journal.proofs.placing.Placed.nothing.Given as goal

abbrev pub invariant-loop-layout : goal.invariant-loop-layout
invariant-loop-layout l = l.empty ≡ map nothing_in (take l.layout-index l.layout-items)
