use Rattle.std.proofs.Common.{◌≡◌}
use Rattle.std.specs.Prelude.{drop}
use Rattle.sg_snapshot.specs.Parts.{are_rows}
use Rattle.sg_snapshot.proofs.reading.are_rows.Given as goal

abbrev pub invariant-loop-row : goal.invariant-loop-row
invariant-loop-row l = are_rows l.least l.volume (drop l.row-index l.rows) ≡ are_rows 0 l.volume l.rows
