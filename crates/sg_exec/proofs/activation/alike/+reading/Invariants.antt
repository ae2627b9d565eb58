use Rattle.std.specs.Prelude.{drop}
use Rattle.sg_exec.specs.steps.Alike.{BlockIsAlike}
use Rattle.sg_exec.proofs.activation.alike.+reading.Given as goal

abbrev pub invariant-block_reads_point-loop-inst : goal.invariant-block_reads_point-loop-inst
invariant-block_reads_point-loop-inst l = BlockIsAlike (drop l.inst-index l.block) → BlockIsAlike l.block
