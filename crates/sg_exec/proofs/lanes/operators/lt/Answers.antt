use Rattle.std.proofs.Common.{ltb, ℕ, List, ap, ap₂, ◌∙◌}
use lib.Lanes.{zip2}
use Rattle.sg_words.specs.Words.{applied, rank_of, flag}
use Rattle.sg_words.specs.declared.operators.BinOp.TheVariants as bin
use Rattle.sg_exec.proofs.EachLane.{zip_maps, zip_so, less_is}
use Rattle.sg_exec.proofs.lanes.operators.lt.Goals as goal

pub returns : goal.returns
returns c =
    c.less.ensures ∙ ap₂ (λ (xs ys : List ℕ). zip2 (λ (x y : ℕ). flag (ltb x y)) xs ys) c.ranks.ensures c.ranks-2.ensures
    ∙ zip_maps (λ (x y : ℕ). flag (ltb x y)) (rank_of c.args.ty) c.args.a c.args.b
    ∙ zip_so (λ (x y : ℕ). flag (ltb (rank_of c.args.ty x) (rank_of c.args.ty y))) (applied bin.Lt c.args.ty) (λ a b p q. ap flag (less_is c.args.ty a b p q)) c.args.a c.args.b c.fits-a.1 c.fits-b.1
