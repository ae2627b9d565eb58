use Rattle.std.specs.Prelude.{drop}
use Rattle.sg_exec.specs.steps.Turning.{BlockWantsNone}
use Rattle.sg_exec.proofs.activation.turns.+wanting.Given as goal

abbrev pub invariant-block_wants-loop-inst : goal.invariant-block_wants-loop-inst
invariant-block_wants-loop-inst l = BlockWantsNone l.layout (drop l.inst-index l.block) → BlockWantsNone l.layout l.block
