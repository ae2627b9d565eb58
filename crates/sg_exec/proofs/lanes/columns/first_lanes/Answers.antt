use Rattle.std.proofs.Common.{◌≡◌, ℕ, ◌<◌, refl, ap, arith}
use Rattle.std.specs.Prelude.{not, ◌==◌}
use Rattle.sg_exec.proofs.EachLane.{are_none, are_more}
use Rattle.sg_exec.proofs.lanes.columns.first_lanes.Goals as goal

pub loop-k-init : goal.loop-k-init
loop-k-init c = are_none _ _ refl

pub loop-k-preserved : goal.loop-k-preserved
loop-k-preserved c = are_more (λ k word. word ≡ 1) c.loop-k.k c.loop-k.lanes 1 (omega arith) c.loop-k.invariant refl

pub returns : goal.returns
returns c = λ k below. ap (λ (x : ℕ). not (x == 0)) (c.loop-k.invariant.each k (omega (arith, below)))
