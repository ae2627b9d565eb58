use Rattle.std.proofs.Common.{◌≡◌, ◌+◌, ◌≤◌, ◌++◌, map, drop, length}
use Rattle.sg_layout.specs.steps.Measuring.{AreMeasurable, measure_of, measures_in}
use Rattle.sg_layout.proofs.axes.measures_of.Given as goal

abbrev pub invariant-loop-index : goal.invariant-loop-index
invariant-loop-index l =
    (map measure_of l.measures ++ measures_in (drop l.index l.nodes) ≡ measures_in l.nodes)
    × AreMeasurable l.shape.axes (l.index + 1) (drop l.index l.nodes) × (length l.nodes ≤ 6)
