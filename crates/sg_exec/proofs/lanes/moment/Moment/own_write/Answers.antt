use Rattle.std.proofs.Common.{ℕ, ◌++◌, ◌∷◌, [], ap, sym, refl, ◌∙◌, subst}
use Rattle.std.specs.Prelude.{Option, IfSome}
use Rattle.sg_flat.specs.declared.effects.Way.TheVariants.{Own}
use Rattle.sg_exec.specs.declared.lanes.cell_write.CellWrite.{CellWrite}
use Rattle.sg_exec.specs.steps.Machines.{CellsMade, IsCellOf}
use Rattle.sg_exec.proofs.lanes.moment.Moment.own_write.Goals as goal

pub write-requires : goal.write-requires
write-requires c = record {
  cell = subst (λ (made : CellsMade). IfSome c.own_cell-cell.result (IsCellOf made.stores c.args.layout)) (sym c.own_cell-cell.ensures.stays) c.own_cell-cell.ensures.reached;
}

pub returns-in-Ok : goal.returns-in-Ok
returns-in-Ok c =
    let write : Option ℕ → CellWrite = λ cell. record { layout = c.args.layout; place = c.args.field; cell = cell; way = Own; value = c.args.value } in
    record {
      stores = c.write.ensures.stores ∙ ap (λ (made : CellsMade). made.stores) c.own_cell-cell.ensures.stays;
      made = λ told. record {
        cells = c.in-Ok.ensures.ok ∙ ap (λ (made : CellsMade). record made { writes = made.writes ++ write c.own_cell-cell.result ∷ [] }) c.own_cell-cell.ensures.stays
            ∙ ap (λ (cell : Option ℕ). record c.args.self.now.cells { writes = c.args.self.now.cells.writes ++ write cell ∷ [] }) c.own_cell-cell.ensures.cell;
        wants = refl;
      };
    }

pub returns-in-Err-clause-stores : goal.returns-in-Err-clause-stores
returns-in-Err-clause-stores c = c.write.ensures.stores ∙ ap (λ (made : CellsMade). made.stores) c.own_cell-cell.ensures.stays
