use Rattle.std.proofs.Common.{eqb, ap, ◌∙◌, w32}
use Rattle.std.specs.Prelude.{replicate}
use Rattle.std.proofs.lemmas.Simd.{tops_compared}
use lib.Lanes.{sel_l}
use Rattle.sg_exec.proofs.EachLane.{chosen}
use Rattle.sg_exec.proofs.lanes.operators.eq.Goals as goal

pub returns : goal.returns
returns c = ap (λ ms. sel_l ms (replicate 32 1) (replicate 32 0)) (tops_compared w32 eqb c.args.a c.args.b) ∙ chosen eqb 1 0 32 c.args.a c.args.b c.fits-a.0 c.fits-b.0
