use Rattle.std.proofs.Common.{get_or}
use Rattle.sg_words.specs.Words.{applied}
use Rattle.sg_exec.proofs.EachLane.{EachBefore}
use Rattle.sg_exec.proofs.lanes.by_word.each_by.Given as goal

abbrev pub invariant-loop-k : goal.invariant-loop-k
invariant-loop-k l = EachBefore (λ k. applied l.fn.op l.fn.ty (get_or l.fn.a k 0) l.fn.word) l.k l.words
