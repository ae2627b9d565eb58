use Rattle.std.proofs.Common.{arith}
use Rattle.sg_exec.proofs.HeadRows.{runs_next}
use Rattle.sg_exec.proofs.RowsLand.{landed_nothing, landed_next}
use Rattle.sg_exec.proofs.loads.landing_runs.land_runs.Goals as goal

pub loop-run-init : goal.loop-run-init
loop-run-init c = landed_nothing c.args.store.now c.args.layout

pub loop-run-preserved : goal.loop-run-preserved
loop-run-preserved c =
    landed_next c.args.store.now c.loop-run.store c.land_run.new.store c.args.layout _ _ _ (runs_next c.args.layout c.args.place c.args.runs.now c.loop-run.run-index _ (omega arith))
    c.loop-run.invariant (c.land_run.ensures c.if-not-land_run.false)
