use Rattle.std.proofs.Common.{◌≡◌, ◌-◌, false, length, drop}
use Rattle.std.specs.List.{list_any}
use Rattle.sg_ir.specs.steps.Targets.{leaves}
use Rattle.sg_ir.proofs.before.last_setter.Given as goal

abbrev pub invariant-loop-back : goal.invariant-loop-back
invariant-loop-back l = list_any (leaves l.what) (drop (length l.done - l.back) l.done) ≡ false
