use Rattle.std.proofs.Common.{eqb, cond, ℕ, List, Bool, ap, ◌∙◌, w32}
use Rattle.std.specs.Prelude.{replicate}
use Rattle.std.proofs.lemmas.Simd.{tops_compared}
use lib.Lanes.{sel_l}
use Rattle.sg_words.specs.Words.{applied}
use Rattle.sg_words.specs.declared.operators.BinOp.TheVariants as bin
use Rattle.sg_exec.proofs.EachLane.{chosen, zip_so, ne_is}
use Rattle.sg_exec.proofs.lanes.operators.ne.Goals as goal

pub returns : goal.returns
returns c = ap (λ (ms : List Bool). sel_l {A = ℕ} ms (replicate 32 0) (replicate 32 1)) (tops_compared w32 eqb c.args.a c.args.b) ∙ chosen eqb 0 1 32 c.args.a c.args.b c.fits-a.0 c.fits-b.0
    ∙ zip_so (λ (x y : ℕ). cond (eqb x y) 0 1) (applied bin.Ne c.args.ty) (λ a b p q. ne_is c.args.ty a b) c.args.a c.args.b c.fits-a.1 c.fits-b.1
