use Rattle.std.proofs.Common.{◌≡◌, sym, subst}
use Rattle.std.specs.Prelude.{IfSome, Some}
use Rattle.sg_exec.specs.steps.Machines.{CellsMade, cell_there, IsCellOf}
use Rattle.sg_exec.proofs.lanes.cells.Cells.keep.Goals as goal

pub invariant_of-self : goal.invariant_of-self
invariant_of-self c = record {
  own = c.remember.ensures c.self.inside.view c.self.inside.at c.self.invariant.own (record {
    is = subst (λ (made : CellsMade). c.args.cell ≡ cell_there made.stores c.args.layout (Some made.at)) (sym c.self.view_is) c.requires.own;
    reached = subst (λ (made : CellsMade). IfSome c.args.cell (IsCellOf made.stores c.args.layout)) (sym c.self.view_is) c.requires.reached;
  });
  cells = c.self.invariant.cells;
}
