use Rattle.std.proofs.Common.{◌≡◌, suc, ◌≤◌, drop}
use Rattle.sg_activate.specs.Descending.{last_from}
use Rattle.sg_activate.proofs.descent.start.last_of.Given as goal

abbrev pub invariant-loop-index : goal.invariant-loop-index
invariant-loop-index l = (last_from (suc l.index) (drop l.index l.nodes) l.last ≡ last_from 1 l.nodes 0) × (l.last ≤ l.index)
