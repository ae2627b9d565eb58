use Rattle.std.proofs.Common.{◌≡◌, ◌++◌, take}
use Rattle.sg_words.proofs.spreads.add_all.Given as goal

abbrev pub invariant-loop-place : goal.invariant-loop-place
invariant-loop-place l = l.work ≡ l.fn.work ++ take l.place-index l.more
