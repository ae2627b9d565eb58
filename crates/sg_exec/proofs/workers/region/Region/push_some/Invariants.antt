use Rattle.std.proofs.Common.{◌≡◌, ◌++◌, ◌+◌, map}
use Rattle.std.specs.List.{range_with_len}
use Rattle.sg_exec.specs.steps.Boxes.{AreAlong, region_point}
use Rattle.sg_exec.proofs.workers.region.Region.push_some.Given as goal

abbrev pub invariant-loop-number : goal.invariant-loop-number
invariant-loop-number l = record {
  row : l.row.items ≡ l.fn.row.items ++ map (region_point l.self) (range_with_len l.first l._number);
  far : AreAlong l.self (l.first + l._number) l.along;
}
