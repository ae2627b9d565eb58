use Rattle.std.proofs.Common.{get_or}
use Rattle.sg_words.specs.declared.operators.BinOp.TheVariants as bin
use Rattle.sg_words.specs.declared.operators.Ty.TheVariants as ty
use Rattle.sg_words.specs.Words.{applied}
use Rattle.sg_exec.proofs.EachLane.{EachBefore}
use Rattle.sg_exec.proofs.lanes.by_word.quotients_over.Given as goal

abbrev pub invariant-loop-k : goal.invariant-loop-k
invariant-loop-k l = EachBefore (λ k. applied bin.Div ty.I32 (get_or l.fn.a k 0) l.fn.div) l.k l.words
