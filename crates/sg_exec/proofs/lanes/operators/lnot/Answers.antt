use Rattle.std.proofs.Common.{eqb, cond, ℕ, List, Bool, ap, ◌∙◌, w32}
use Rattle.std.specs.Prelude.{replicate}
use Rattle.std.proofs.lemmas.Simd.{tops_compared, zip2_splat, length-replicate}
use lib.Lanes.{sel_l}
use Rattle.sg_exec.proofs.EachLane.{chosen}
use Rattle.sg_exec.proofs.lanes.operators.lnot.Goals as goal

pub returns : goal.returns
returns c = ap (λ (ms : List Bool). sel_l {A = ℕ} ms (replicate 32 1) (replicate 32 0)) (tops_compared w32 eqb c.args.a (replicate 32 0)) ∙ chosen eqb 1 0 32 c.args.a (replicate 32 0) c.fits-a.0 (length-replicate {A = ℕ} 32 0)
    ∙ zip2_splat (λ (x y : ℕ). cond (eqb x y) 1 0) c.args.a 32 0 c.fits-a.0
