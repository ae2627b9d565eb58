use Rattle.std.proofs.Common.{◌≡◌, drop}
use Rattle.std.specs.List.{list_all}
use Rattle.sg_types.specs.Statements.{counts_range}
use Rattle.sg_types.specs.steps.Views.{known_view}
use Rattle.sg_types.proofs.known.Known.counts_ranges.Given as goal

abbrev pub invariant-loop-range : goal.invariant-loop-range
invariant-loop-range l = list_all (counts_range (known_view l.self)) (drop l.range-index l.ranges) ≡ list_all (counts_range (known_view l.self)) l.ranges
