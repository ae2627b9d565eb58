use Rattle.std.proofs.Common.{◌-◌, ◌≤◌, length}
use Rattle.sg_store.specs.steps.KeptTables.{IsKeptSoFar}
use Rattle.sg_store.proofs.kept_table.kept_table.Given as goal

abbrev pub invariant-loop-next : goal.invariant-loop-next
invariant-loop-next l = IsKeptSoFar l.keys l.links l.row l.kept l.beside l.place × (l.place ≤ length l.keys)

abbrev pub decreases-loop-next : goal.decreases-loop-next
decreases-loop-next l = length l.keys - l.place
