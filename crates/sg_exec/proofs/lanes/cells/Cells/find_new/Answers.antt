use Rattle.std.proofs.Common.{◌≡◌, ℕ, sym, ap, subst}
use Rattle.sg_coord.specs.declared.coord.Coord.{Coord}
use Rattle.sg_exec.specs.steps.Machines.{CellsMade}
use Rattle.sg_exec.specs.steps.Nearby.{IsFound}
use Rattle.sg_exec.proofs.lanes.cells.Cells.find_new.Goals as goal

pub keep-requires : goal.keep-requires
keep-requires c =
    let made : CellsMade = c.args.self.now in
    let found : IsFound made.stores c.args.layout made.at c.in-Some.cell =
    subst (λ (at : Coord). IsFound made.stores c.args.layout at c.in-Some.cell) (ap (λ (it : CellsMade). it.at) c.self.view_is) (c.in-Some.ensures made.stores c.args.layout c.requires.near) in
    record { own = sym found.is; reached = found.of }
