use Rattle.sg_exec.proofs.lanes.cells.Cells.own_cell.Goals as goal

pub invariant_of-self : goal.invariant_of-self
invariant_of-self c = record {
  own = c.remember.ensures c.self.inside.view c.self.inside.at c.self.invariant.own (record { is = c.cell_of-cell.ensures.cell; reached = c.cell_of-cell.ensures.reached });
  cells = c.self.invariant.cells;
}
