use Rattle.sg_audit.specs.steps.Building.{IsBuilt}
use Rattle.sg_audit.proofs.Built.{IsOwnTable}
use Rattle.sg_audit.proofs.tables.LayoutTables.make.Given as goal

abbrev pub invariant-loop-index : goal.invariant-loop-index
invariant-loop-index l = IsBuilt (IsOwnTable l.rooms) l.rooms l.index l.nodes.items
