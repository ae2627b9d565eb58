use Rattle.sg_audit.specs.steps.Building.{IsBuilt}
use Rattle.sg_audit.specs.steps.Making.{MakesTables}
use Rattle.sg_audit.proofs.tables.Tables.make.Given as goal

abbrev pub invariant-loop-index : goal.invariant-loop-index
invariant-loop-index l = IsBuilt MakesTables l.list l.index l.tables.items
