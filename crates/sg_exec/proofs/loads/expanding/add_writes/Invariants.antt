use Rattle.std.proofs.Common.{◌≡◌, ◌++◌, map}
use Rattle.std.specs.List.{range_with_len}
use Rattle.sg_exec.specs.Runs.{run_write}
use Rattle.sg_exec.proofs.loads.expanding.add_writes.Given as goal

abbrev pub invariant-loop-k : goal.invariant-loop-k
invariant-loop-k l = l.writes ≡ l.fn.writes ++ map (run_write l.layout l.place l.fn.run) (range_with_len 0 l.k)
