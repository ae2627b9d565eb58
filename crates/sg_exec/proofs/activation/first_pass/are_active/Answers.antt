use Rattle.std.proofs.Common.{arith}
use Rattle.sg_exec.proofs.Turning.{active_more, active_all}
use Rattle.sg_exec.proofs.activation.first_pass.are_active.Goals as goal

pub loop-write-preserved : goal.loop-write-preserved
loop-write-preserved c = record {
  last = c.is_active.ensures.last;
  all = active_more c.args.stores.now.list c.args.writes.now c.loop-write.write-index _ (omega arith) c.loop-write.invariant.all (c.is_active.ensures.active c.if-not-is_active.false);
}

pub returns-clause-active : goal.returns-clause-active
returns-clause-active c = λ all. active_all c.args.stores.now.list c.args.writes.now c.loop-write.write-index (omega arith) c.loop-write.invariant.all
