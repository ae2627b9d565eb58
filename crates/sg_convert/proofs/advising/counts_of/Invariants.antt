use Rattle.std.proofs.Common.{◌≡◌, ◌++◌, map, drop}
use Rattle.sg_convert.specs.Advising.{counts_from}
use Rattle.sg_convert.specs.Advised.{counted}
use Rattle.sg_convert.proofs.advising.counts_of.Given as goal

abbrev pub invariant-loop-number : goal.invariant-loop-number
invariant-loop-number l = map counted l.counts ++ counts_from l.one l.kept l.number (drop l.number l.layouts) ≡ counts_from l.one l.kept 0 l.layouts
