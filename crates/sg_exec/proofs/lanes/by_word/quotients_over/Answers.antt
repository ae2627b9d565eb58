use Rattle.std.proofs.Common.{ℕ, refl, arith}
use Rattle.sg_words.specs.declared.operators.BinOp.TheVariants as bin
use Rattle.sg_words.specs.declared.operators.Ty.TheVariants as ty
use Rattle.sg_words.specs.Words.{applied}
use Rattle.sg_exec.proofs.EachLane.{are_none, are_more}
use Rattle.sg_exec.proofs.ByWord.{each_of_one}
use Rattle.sg_exec.proofs.lanes.by_word.quotients_over.Goals as goal

pub loop-k-init : goal.loop-k-init
loop-k-init c = are_none _ _ refl

pub loop-k-preserved : goal.loop-k-preserved
loop-k-preserved c = are_more _ c.loop-k.k c.loop-k.words c.quotient_word.result (omega arith) c.loop-k.invariant c.quotient_word.ensures

pub returns : goal.returns
returns c = each_of_one (λ (x : ℕ). applied bin.Div ty.I32 x c.args.div) c.args.a c.loop-k.words c.loop-k.k c.fits-a.0 (omega arith) c.loop-k.invariant
