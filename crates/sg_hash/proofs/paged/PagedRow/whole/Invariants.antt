use Rattle.std.proofs.Common.{◌≡◌, take}
use Rattle.sg_hash.proofs.paged.PagedRow.whole.Given as goal

abbrev pub invariant-loop-place : goal.invariant-loop-place
invariant-loop-place l = l.words.items ≡ take l.place l.self
