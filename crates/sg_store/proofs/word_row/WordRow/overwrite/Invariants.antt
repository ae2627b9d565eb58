use Rattle.std.proofs.Common.{◌≡◌, ◌++◌, take, drop}
use Rattle.sg_store.proofs.word_row.WordRow.overwrite.Given as goal

abbrev pub invariant-loop-slot : goal.invariant-loop-slot
invariant-loop-slot l = l.self ≡ take l.slot l.values ++ drop l.slot l.fn.self
