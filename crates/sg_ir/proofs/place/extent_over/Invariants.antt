use Rattle.std.proofs.Common.{◌≡◌, ◌*◌, ◌≤◌, ◌^◌, true, drop}
use Rattle.std.specs.List.{list_all}
use Rattle.sg_layout.specs.Axes.{extent_over}
use Rattle.sg_layout.specs.Rules.{has_good_extents}
use Rattle.sg_ir.proofs.place.extent_over.Given as goal

abbrev pub invariant-loop-node : goal.invariant-loop-node
invariant-loop-node l =
    (l.extent * extent_over (drop l.node-index l.nodes) l.axis ≡ extent_over l.nodes l.axis)
    × (list_all has_good_extents (drop l.node-index l.nodes) ≡ true) × (extent_over l.nodes l.axis ≤ 2 ^ 15)
