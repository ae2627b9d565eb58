use Rattle.std.proofs.Common.{◌≡◌, Some, sym, ◌∙◌}
use Rattle.sg_ir.specs.WellTyped.{settings}
use Rattle.sg_ir.specs.steps.Targets.{ascends}
use Rattle.sg_ir.proofs.Counting.{once-settings}
use Rattle.sg_ir.proofs.Once.{ascends-once, once-is}
use Rattle.sg_ir.proofs.typing.sets_once.Goals as goal

pub returns-in-Some : goal.returns-in-Some
returns-in-Some c =
    let e : ascends (record { reg = 0; place = 0 }) (settings c.args.body.now) ≡ Some c.in-Some._end = c.in-Some.ensures in
    ascends-once (settings c.args.body.now) (record { reg = 0; place = 0 }) c.in-Some._end e

pub returns-in-None : goal.returns-in-None
returns-in-None c = c.are_once.ensures ∙ sym (once-settings (settings c.args.body.now) c.args.body.now) ∙ once-is (settings c.args.body.now)
