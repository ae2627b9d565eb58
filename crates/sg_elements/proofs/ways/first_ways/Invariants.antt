use Rattle.std.proofs.Common.{◌≡◌, map}
use Rattle.std.specs.List.{range_with_len}
use Rattle.sg_elements.specs.steps.Levels.{way_of}
use Rattle.sg_elements.proofs.ways.first_ways.Given as goal

abbrev pub invariant-loop-offset : goal.invariant-loop-offset
invariant-loop-offset l = l.ways ≡ map (way_of l.layout l.node) (range_with_len 0 l.offset)
