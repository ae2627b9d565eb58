use Rattle.std.proofs.Common.{take}
use Rattle.sg_flat.specs.State.{opening}
use Rattle.sg_exec.specs.Standing.{StandForState}
use Rattle.sg_session.proofs.opening.opening_stores.Given as goal

abbrev pub invariant-loop-layout : goal.invariant-loop-layout
invariant-loop-layout l = StandForState (take l.layout-index l.layout-items) l.list (opening (take l.layout-index l.layout-items))
