use Rattle.std.proofs.Common.{arith}
use Rattle.sg_exec.proofs.CellsNear.{found_after}
use Rattle.sg_exec.proofs.lanes.near.cell_after.Goals as goal

pub returns : goal.returns
returns c = λ stores layout it. found_after stores layout c.args.near c.args.at c.distance-far.result it (omega (arith, c.if-far-lt1.false)) (omega (arith, c.if-far-left.false)) (c.distance-far.ensures (omega (arith, c.if-far-lt1.false)))
