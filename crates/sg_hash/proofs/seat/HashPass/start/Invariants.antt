use Rattle.std.proofs.Common.{◌≡◌, ◌++◌, take}
use Rattle.sg_hash.proofs.seat.HashPass.start.Given as goal

abbrev pub invariant-loop-i : goal.invariant-loop-i
invariant-loop-i l = l.words ≡ l.fn.links ++ take l.i l.fn.keys
