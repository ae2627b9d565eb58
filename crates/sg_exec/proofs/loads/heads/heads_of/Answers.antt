use Rattle.std.proofs.Common.{arith}
use Rattle.sg_exec.specs.Runs.{writes_of_runs}
use Rattle.sg_exec.proofs.HeadRows.{runs_have}
use Rattle.sg_exec.proofs.loads.heads.heads_of.Goals as goal

pub loop-run-preserved : goal.loop-run-preserved
loop-run-preserved c =
    c.in_ok-add_heads.ensures (writes_of_runs c.args.layout c.args.place c.args.runs.now)
    (λ k below. runs_have c.args.layout c.args.place c.args.runs.now c.loop-run.run-index _ k (omega arith) below) c.loop-run.invariant
