use Rattle.std.proofs.Common.{◌≡◌, take, Some}
use Rattle.sg_ir.specs.WellTyped.{settings}
use Rattle.sg_ir.specs.steps.Targets.{ascends}
use Rattle.sg_ir.proofs.settings.+ascend.Given as goal

abbrev pub invariant-ascend-loop-inst : goal.invariant-ascend-loop-inst
invariant-ascend-loop-inst l = ascends l.fn.from (settings (take l.inst-index l.block)) ≡ Some l.next
