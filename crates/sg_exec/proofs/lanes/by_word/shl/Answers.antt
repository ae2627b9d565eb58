use Rattle.std.proofs.Common.{◌∙◌, arith}
use Rattle.sg_words.specs.declared.operators.BinOp.TheVariants as bin
use Rattle.sg_words.specs.Words.{applied}
use Rattle.sg_exec.proofs.ByWord.{zip_word}
use Rattle.sg_exec.proofs.lanes.by_word.shl.Goals as goal

pub returns : goal.returns
returns c =
    c.raised_by.ensures
    ∙ zip_word (applied bin.Shl c.args.ty) c.first_lane-word.result c.args.a c.args.b (omega (arith, c.fits-a.0, c.fits-b.0)) (λ k below. c.are_all.ensures c.if-not-are_all.false k (omega (arith, below, c.fits-b.0)))
