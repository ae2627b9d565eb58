use Rattle.std.proofs.Common.{◌≡◌, ◌++◌, take, drop}
use Rattle.sg_hash.proofs.paged.PagedRow.overwrite.Given as goal

abbrev pub invariant-loop-place : goal.invariant-loop-place
invariant-loop-place l = l.self ≡ take l.place l.values ++ drop l.place l.fn.self
