use Rattle.std.proofs.Common.{◌-◌}
use Rattle.sg_batch.proofs.Alone.{AloneBelow}
use Rattle.sg_batch.proofs.touching.left_alone.Given as goal

abbrev pub invariant-loop-layout : goal.invariant-loop-layout
invariant-loop-layout l = AloneBelow l.one l.other l.from

abbrev pub decreases-loop-layout : goal.decreases-loop-layout
decreases-loop-layout l = 4294967296 - l.from
