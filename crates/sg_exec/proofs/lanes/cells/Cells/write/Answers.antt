use Rattle.std.proofs.Common.{sym, subst}
use Rattle.std.specs.Prelude.{IfSome}
use Rattle.sg_exec.specs.steps.Machines.{CellsMade, IsCellOf}
use Rattle.sg_exec.proofs.LatestWrites.{cells_after}
use Rattle.sg_exec.proofs.lanes.cells.Cells.write.Goals as goal

pub invariant_of-self : goal.invariant_of-self
invariant_of-self c = record {
  own = c.self.invariant.own;
  cells = cells_after c.self.inside.view c.self.inside.written _ c.args.write c.push.result c.self.invariant.cells
      (subst (λ (made : CellsMade). IfSome c.args.write.cell (IsCellOf made.stores c.args.write.layout)) (sym c.self.view_is) c.requires.cell) c.push.ensures.ok c.push.ensures.err;
}
