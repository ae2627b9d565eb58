use Rattle.std.proofs.Common.{◌≡◌, map, take}
use Rattle.std.specs.List.{All}
use Rattle.sg_exec.specs.Runs.{IsShortRun}
use Rattle.sg_session.specs.steps.LongRuns.{row_run}
use Rattle.sg_session.proofs.grids.row_runs.Given as goal

abbrev pub invariant-loop-run : goal.invariant-loop-run
invariant-loop-run l = record {
  runs : l.long ≡ map row_run (take l.run-index l.runs);
  short : All IsShortRun l.long;
}
