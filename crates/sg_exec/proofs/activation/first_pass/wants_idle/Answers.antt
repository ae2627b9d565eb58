use Rattle.sg_exec.proofs.Idle.{idle_tells}
use Rattle.sg_exec.proofs.activation.first_pass.wants_idle.Goals as goal

pub returns : goal.returns
returns c = λ starts.
    idle_tells c.args.stores.now.list c.in_ok-limits.limits c.in-Some.most c.args.block.now c.args.points.now (c.starts_limited.ensures starts) (c.block_strays.ensures c.if-block_strays.false) c.in-Some.ensures
