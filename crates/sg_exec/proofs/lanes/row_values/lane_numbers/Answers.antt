use Rattle.std.proofs.Common.{refl, arith}
use Rattle.sg_exec.proofs.EachLane.{are_none, are_more}
use Rattle.sg_exec.proofs.lanes.row_values.lane_numbers.Goals as goal

pub loop-k-init : goal.loop-k-init
loop-k-init c = are_none _ _ refl

pub loop-k-preserved : goal.loop-k-preserved
loop-k-preserved c = are_more _ c.loop-k.k c.loop-k.lanes c.loop-k.k (omega arith) c.loop-k.invariant refl

pub returns : goal.returns
returns c = λ k small. c.loop-k.invariant.each k (omega (arith, small))
