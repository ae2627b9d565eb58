use Rattle.std.proofs.Common.{◌≡◌, length, map, string_bytes}
use Rattle.sparsegrid.specs.steps.Splitting as steps
use Rattle.sparsegrid.proofs.splitting.has_dash_for_from.Given as goal

abbrev pub invariant-loop-left : goal.invariant-loop-left
invariant-loop-left l = steps.has_dash_for_from (map string_bytes l.left) ≡ steps.has_dash_for_from (map string_bytes l.words)

abbrev pub decreases-loop-left : goal.decreases-loop-left
decreases-loop-left l = length l.left
