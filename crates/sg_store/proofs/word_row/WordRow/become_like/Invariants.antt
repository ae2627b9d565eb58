use Rattle.std.proofs.Common.{length}
use Rattle.sg_store.proofs.LikeRows.{IsLike}
use Rattle.sg_store.proofs.word_row.WordRow.become_like.Given as goal

abbrev pub invariant-loop-slot : goal.invariant-loop-slot
invariant-loop-slot l = IsLike l.word-items l.self (length l.fn.self) l.slot
