use Rattle.std.proofs.Common.{get_or}
use Rattle.sg_words.specs.Words.{mulq_of}
use Rattle.sg_exec.proofs.EachLane.{EachBefore}
use Rattle.sg_exec.proofs.lanes.operators.products_by.Given as goal

abbrev pub invariant-loop-k : goal.invariant-loop-k
invariant-loop-k l = EachBefore (λ k. mulq_of (get_or l.fn.a k 0) (get_or l.fn.b k 0) l.fn.s) l.k l.words
