use Rattle.std.proofs.Common.{◌≡◌, map, take}
use Rattle.sg_names.specs.Shapes.{axis_size}
use Rattle.sg_names.proofs.names.Names.sizes.Given as goal

abbrev pub invariant-loop-axis : goal.invariant-loop-axis
invariant-loop-axis l = l.sizes ≡ map (axis_size l.self l.axes) (take l.axis-index l.named)
