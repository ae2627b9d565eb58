use Rattle.std.proofs.Common.{arith}
use Rattle.sg_exec.proofs.loads.heads.add_heads.Goals as goal

pub loop-k-preserved : goal.loop-k-preserved
loop-k-preserved c = λ rows each all.
    c.in_ok-next.ensures rows (each c.loop-k.k (omega (arith, c.loop-k.auto.k-end, c.loop-k-test.true))) (c.loop-k.invariant rows each all)
