use Rattle.std.proofs.Common.{◌≡◌, length, map}
use Rattle.sparsegrid.specs.Words.{value_beside}
use Rattle.sparsegrid.proofs.words.number_beside.Given as goal

abbrev pub invariant-loop-table : goal.invariant-loop-table
invariant-loop-table l = value_beside (map (λ row. (row.0.now, row.1)) l.table) l.text ≡ value_beside (map (λ row. (row.0.now, row.1)) l.initial.table) l.text

abbrev pub decreases-loop-table : goal.decreases-loop-table
decreases-loop-table l = length l.table
