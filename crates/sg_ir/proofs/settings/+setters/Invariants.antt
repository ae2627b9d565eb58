use Rattle.std.proofs.Common.{◌≡◌, take}
use Rattle.sg_ir.specs.WellTyped.{settings}
use Rattle.sg_ir.specs.steps.Targets.{set_times}
use Rattle.sg_ir.proofs.settings.+setters.Given as goal

abbrev pub invariant-setters-loop-inst : goal.invariant-setters-loop-inst
invariant-setters-loop-inst l = l.count ≡ set_times l.what (settings (take l.inst-index l.block))
