use Rattle.std.proofs.Common.{◌≡◌, drop}
use Rattle.std.specs.List.{list_all}
use Rattle.sg_admit.specs.Bounds.{is_constant_range}
use Rattle.sg_admit.proofs.bounds.are_constant.Given as goal

abbrev pub invariant-loop-range : goal.invariant-loop-range
invariant-loop-range l = list_all is_constant_range (drop l.range-index l.ranges) ≡ list_all is_constant_range l.ranges
