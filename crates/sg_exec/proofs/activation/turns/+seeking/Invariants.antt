use Rattle.std.specs.Prelude.{drop}
use Rattle.sg_exec.specs.steps.Turning.{BlockSeeksNone}
use Rattle.sg_exec.proofs.activation.turns.+seeking.Given as goal

abbrev pub invariant-block_seeks-loop-inst : goal.invariant-block_seeks-loop-inst
invariant-block_seeks-loop-inst l = BlockSeeksNone (drop l.inst-index l.block) → BlockSeeksNone l.block
