use Rattle.std.proofs.Common.{◌≡◌, ◌+◌, ◌-◌, ◌≤◌, ◌^◌}
use Rattle.std.specs.List.{All}
use Rattle.sg_coord.specs.Bounds.{bounds_of}
use Rattle.sg_grid.specs.Reading.{IsRunInside, first_start, runs_from}
use Rattle.sg_grid.specs.steps.Finding.{with_runs}
use Rattle.sg_grid.proofs.reading.runs_from.Given as goal

abbrev pub invariant-loop-turn : goal.invariant-loop-turn
invariant-loop-turn l = record {
  few : l.start.rows ≤ 2 ^ 20;
  line : l.start.line ≡ l._turn + 2;
  inside : All (IsRunInside (bounds_of l.extents)) l.runs;
  read : with_runs l.runs (runs_from l.version (bounds_of l.extents) l.ty (l.count - l._turn) l.start l.left)
      ≡ runs_from l.version (bounds_of l.extents) l.ty l.count first_start l.bytes;
}
