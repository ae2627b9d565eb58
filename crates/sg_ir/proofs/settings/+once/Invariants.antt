use Rattle.std.proofs.Common.{◌≡◌, take, true}
use Rattle.std.specs.List.{list_all}
use Rattle.sg_ir.specs.WellTyped.{settings}
use Rattle.sg_ir.specs.steps.Targets.{inst_once}
use Rattle.sg_ir.proofs.settings.+once.Given as goal

abbrev pub invariant-are_once-loop-inst : goal.invariant-are_once-loop-inst
invariant-are_once-loop-inst l = list_all (inst_once (settings l.whole)) (take l.inst-index l.block) ≡ true
