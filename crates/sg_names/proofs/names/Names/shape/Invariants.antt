use Rattle.std.proofs.Common.{◌≡◌, map, take}
use Rattle.sg_names.specs.Shapes.{node_shape}
use Rattle.sg_names.proofs.names.Names.shape.Given as goal

abbrev pub invariant-loop-node : goal.invariant-loop-node
invariant-loop-node l = l.nodes ≡ map (node_shape l.self l.decl.axes) (take l.node-index l.node-items)
