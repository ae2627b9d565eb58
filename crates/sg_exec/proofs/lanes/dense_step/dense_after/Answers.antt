use Rattle.std.proofs.Common.{sym, arith}
use Rattle.sg_exec.proofs.DenseSteps.{dense_step}
use Rattle.sg_exec.proofs.lanes.dense_step.dense_after.Goals as goal

pub returns-in-Some : goal.returns-in-Some
returns-in-Some c = dense_step c.args.view.now c.args.one c.args.node c.in-Some.store.now c.size_after.result (omega (arith, c.if-one-eq0.false)) (sym c.in-Some.ensures.value) c.size_after.ensures
