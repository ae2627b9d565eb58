use Rattle.std.specs.Prelude.{drop}
use Rattle.sg_exec.specs.steps.Limiting.{BlockIsLimited}
use Rattle.sg_exec.proofs.activation.limits.+straying.Given as goal

abbrev pub invariant-block_strays-loop-inst : goal.invariant-block_strays-loop-inst
invariant-block_strays-loop-inst l = BlockIsLimited l.stores.list l.limits (drop l.inst-index l.block) → BlockIsLimited l.stores.list l.limits l.block
