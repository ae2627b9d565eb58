use Rattle.std.proofs.Common.{sym, ◌∙◌}
use Rattle.sg_exec.proofs.LatestWrites.{latest_own}
use Rattle.sg_exec.proofs.lanes.written.Written.push.Goals as goal

pub invariant_of-self-in-Ok : goal.invariant_of-self-in-Ok
invariant_of-self-in-Ok c =
    latest_own c.self.inside.own.items c.remember.new.own.items c.self.inside.list.items c.push.new.self.items c.args.write c.self.invariant
    (sym c.is_own.ensures ∙ c.if-is_own.true) c.in-Ok.ensures.ok c.in_ok-push.ensures.items
