use Rattle.std.proofs.Common.{◌≡◌, ◌++◌, map}
use Rattle.std.specs.List.{range_with_len}
use Rattle.sg_grid.specs.declared.grid.GridRow.{GridRow}
use Rattle.sg_grid.specs.Runs.{along}
use Rattle.sg_session.specs.Commands.{row_write}
use Rattle.sg_session.proofs.grids.push_run.Given as goal

abbrev pub invariant-loop-k : goal.invariant-loop-k
invariant-loop-k l =
    l.writes ≡ l.initial.writes ++ map (row_write l.at.layout l.at.place) (map (λ k. let row : GridRow = record { at = along k l.fn.run.at; word = l.fn.run.word } in row) (range_with_len 0 l.k))
