use Rattle.std.proofs.Common.{◌≡◌, take}
use Rattle.sg_exec.specs.Runs.{writes_of_runs}
use Rattle.sg_exec.proofs.loads.expanding.writes_of_runs.Given as goal

abbrev pub invariant-loop-run : goal.invariant-loop-run
invariant-loop-run l = l.writes ≡ writes_of_runs l.layout l.place (take l.run-index l.runs)
