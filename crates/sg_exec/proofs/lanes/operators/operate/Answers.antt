use Rattle.std.proofs.Common.{ℕ, List, get_or, ap, ◌∙◌, arith}
use Rattle.std.proofs.lemmas.Simd.{get_or-zip2}
use Rattle.sg_words.specs.Words.{applied}
use Rattle.sg_exec.proofs.lanes.operators.operate.Goals as goal

pub returns : goal.returns
returns c = λ k small.
    ap (λ (words : List ℕ). get_or words k 0) c.zipped.ensures
    ∙ get_or-zip2 (applied c.args.op c.args.ty) c.args.a c.args.b k 0 0 0 (omega (arith, small, c.fits-a.0)) (omega (arith, small, c.fits-b.0))
