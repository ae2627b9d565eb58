use Rattle.std.proofs.Common.{◌≡◌, ◌++◌, map, drop}
use Rattle.sg_convert.specs.Advised.{counted}
use Rattle.sparsegrid.specs.Advice.{count_lines}
use Rattle.sparsegrid.proofs.advice.push_counts.Given as goal

abbrev pub invariant-loop-count : goal.invariant-loop-count
invariant-loop-count l = l.text.items ++ count_lines l.compiled.names l.number (map counted (drop l.count-index l.counts))
    ≡ l.fn.text.items ++ count_lines l.compiled.names l.number (map counted l.counts)
