use Rattle.std.proofs.Common.{ℕ, refl, arith}
use Rattle.sg_words.specs.Words.{applied}
use Rattle.sg_exec.proofs.EachLane.{are_none, are_more}
use Rattle.sg_exec.proofs.ByWord.{each_of_one}
use Rattle.sg_exec.proofs.lanes.by_word.each_by.Goals as goal

pub loop-k-init : goal.loop-k-init
loop-k-init c = are_none _ _ refl

pub loop-k-preserved : goal.loop-k-preserved
loop-k-preserved c = are_more _ c.loop-k.k c.loop-k.words c.apply.result (omega arith) c.loop-k.invariant c.apply.ensures

pub returns : goal.returns
returns c = each_of_one (λ (x : ℕ). applied c.args.op c.args.ty x c.args.word) c.args.a c.loop-k.words c.loop-k.k c.fits-a.0 (omega arith) c.loop-k.invariant
