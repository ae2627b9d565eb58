use Rattle.std.proofs.Common.{◌≡◌, drop}
use Rattle.std.specs.List.{list_all}
use Rattle.sg_admit.specs.steps.Reading.{may_ask, is_askable_range}
use Rattle.sg_admit.proofs.asks.are_good_ranges.Given as goal

abbrev pub invariant-loop-range : goal.invariant-loop-range
invariant-loop-range l =
    list_all (is_askable_range (may_ask l.any l.ways)) (drop l.range-index l.ranges) ≡ list_all (is_askable_range (may_ask l.any l.ways)) l.ranges
