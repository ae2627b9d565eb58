use Rattle.std.proofs.Common.{ltb, cond, ℕ, List, Bool, ap, ap₂, ◌∙◌, arith, w32}
use Rattle.std.proofs.lemmas.Simd.{tops_compared}
use lib.Lanes.{zip2, sel_l}
use Rattle.sg_words.specs.Words.{applied, rank_of}
use Rattle.sg_words.specs.declared.operators.BinOp.TheVariants as bin
use Rattle.sg_exec.proofs.EachLane.{zip_maps, zip_so, picked_other, max_is}
use Rattle.sg_exec.proofs.lanes.operators.max.Goals as goal

pub returns : goal.returns
returns c =
    ap (λ (ms : List Bool). sel_l {A = ℕ} ms c.args.a c.args.b) (tops_compared w32 ltb c.ranks.result c.ranks-2.result ∙ ap₂ (λ (xs ys : List ℕ). zip2 ltb xs ys) c.ranks.ensures c.ranks-2.ensures ∙ zip_maps ltb (rank_of c.args.ty) c.args.b c.args.a)
    ∙ picked_other (λ (x y : ℕ). ltb (rank_of c.args.ty x) (rank_of c.args.ty y)) c.args.a c.args.b (omega (arith, c.fits-a.0, c.fits-b.0))
    ∙ zip_so (λ (x y : ℕ). cond (ltb (rank_of c.args.ty y) (rank_of c.args.ty x)) x y) (applied bin.Max c.args.ty) (λ a b p q. max_is c.args.ty a b p q) c.args.a c.args.b c.fits-a.1 c.fits-b.1
