use Rattle.std.proofs.Common.{map}
use Rattle.std.specs.List.{range_with_len}
use Rattle.sg_exec.specs.Runs.{run_write}
use Rattle.sg_exec.specs.steps.Blocks.{MayBeBlock, RowsLanded}
use Rattle.sg_exec.proofs.loads.landing_runs.land_run.Given as goal

abbrev pub invariant-loop-k : goal.invariant-loop-k
invariant-loop-k l = record {
  landed : RowsLanded l.fn.store l.store l.layout (map (run_write l.layout l.place l.fn.run) (range_with_len 0 l.k));
  block : MayBeBlock l.store l.fn.run l.block;
}
