use Rattle.std.proofs.Common.{◌≡◌, ◌++◌, drop}
use Rattle.sg_words.specs.Stocks.{taken_of}
use Rattle.sg_words.proofs.links.taken_numbers.Given as goal

abbrev pub invariant-loop-i : goal.invariant-loop-i
invariant-loop-i l = l.taken ++ taken_of (drop l.i l.old) (drop l.i l.new) ≡ taken_of l.old l.new
