-- Runs of a grid as runs of rows that are loaded.
use Rattle.sg_grid.specs.declared.grid.GridRun.{GridRun}
use Rattle.sg_exec.specs.declared.loads.row_run.RowRun.{RowRun}

abbrev pub row_run : GridRun → RowRun
row_run run = record { at = run.at; len = run.len; word = run.word }
