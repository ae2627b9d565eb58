use Rattle.std.proofs.Common.{◌≡◌, ◌+◌, ◌++◌, take, drop}
use Rattle.sg_store.proofs.rows.write.Given as goal

abbrev pub invariant-loop-word : goal.invariant-loop-word
invariant-loop-word l = (l.cell ≡ l.from + l.word-index) × (l.row ≡ take l.from l.fn.row ++ (take l.word-index l.words ++ drop (l.from + l.word-index) l.fn.row))
