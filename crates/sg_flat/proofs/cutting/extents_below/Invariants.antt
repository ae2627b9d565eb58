use Rattle.std.proofs.Common.{◌≡◌, drop}
use Rattle.sg_coord.specs.Bounds.{bounds_of}
use Rattle.sg_flat.specs.steps.Blocks.{bounds_over}
use Rattle.sg_flat.proofs.cutting.extents_below.Given as goal

abbrev pub invariant-loop-node : goal.invariant-loop-node
invariant-loop-node l = bounds_of l.extents ≡ bounds_over l.layout.axes (drop l.node-index l.layout.nodes)
