use Rattle.std.proofs.Common.{◌≡◌, map, drop, None}
use Rattle.sg_convert.specs.Advising.{best_of}
use Rattle.sg_convert.specs.Advised.{counted}
use Rattle.sg_convert.proofs.advising.best_of.Given as goal

abbrev pub invariant-loop-count : goal.invariant-loop-count
invariant-loop-count l = best_of l.best (map counted (drop l.count-index l.counts)) ≡ best_of None (map counted l.counts)
