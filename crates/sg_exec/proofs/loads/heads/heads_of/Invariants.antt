use Rattle.std.specs.Prelude.{All, Contains}
use Rattle.sg_exec.specs.Runs.{writes_of_runs}
use Rattle.sg_exec.proofs.loads.heads.heads_of.Given as goal

abbrev pub invariant-loop-run : goal.invariant-loop-run
invariant-loop-run l = All (Contains (writes_of_runs l.layout l.place l.runs)) l.heads
