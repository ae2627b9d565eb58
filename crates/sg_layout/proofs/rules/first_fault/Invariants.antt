use Rattle.std.proofs.Common.{◌≡◌, ◌≤◌, ◌+◌, drop, length}
use Rattle.sg_layout.specs.Rules.{first_node_fault}
use Rattle.sg_layout.proofs.rules.first_fault.Given as goal

abbrev pub invariant-loop-index : goal.invariant-loop-index
invariant-loop-index l = (first_node_fault l.axes (l.index + 1) (drop l.index l.nodes) ≡ first_node_fault l.axes 1 l.nodes) × (length l.nodes ≤ 6)
