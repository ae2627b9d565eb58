use Rattle.std.proofs.Common.{◌≡◌, map, take}
use Rattle.sg_grid.specs.Runs.{rows_of_runs}
use Rattle.sg_session.specs.Commands.{row_write}
use Rattle.sg_session.proofs.grids.writes_of.Given as goal

abbrev pub invariant-loop-run : goal.invariant-loop-run
invariant-loop-run l = l.writes ≡ map (row_write l.at.layout l.at.place) (rows_of_runs (take l.run-index l.runs))
