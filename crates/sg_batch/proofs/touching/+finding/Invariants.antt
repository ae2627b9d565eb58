use Rattle.std.proofs.Common.{take}
use Rattle.std.specs.List.{flat_map}
use Rattle.sg_ir.specs.Touches.{written_by}
use Rattle.sg_batch.specs.steps.Next.{IsNext}
use Rattle.sg_batch.proofs.touching.+finding.Given as goal

abbrev pub invariant-next_in-loop-inst : goal.invariant-next_in-loop-inst
invariant-next_in-loop-inst l = IsNext (flat_map written_by (take l.inst-index l.block)) l.from l.least
