use Rattle.std.proofs.Common.{sym, ap, ◌∙◌, subst}
use Rattle.std.specs.Prelude.{Option, slice_get}
use Rattle.sg_exec.specs.declared.lanes.held.Held.{Held}
use Rattle.sg_exec.specs.Standing.{shapes_of}
use Rattle.sg_exec.specs.steps.Machines.{PlaceRows, HoldsPlace, LeadsTo}
use Rattle.sg_exec.proofs.Reading.{cell_live, cell_dead}
use Rattle.sg_exec.proofs.lanes.places.Places.cell.Goals as goal

pub returns-in-Some-clause-cell : goal.returns-in-Some-clause-cell
returns-in-Some-clause-cell c = λ there holds at is.
    let leads : LeadsTo c.args.self.now.stores c.in-Some.held there = subst (λ (held : Option Held). HoldsPlace c.args.self.now.stores held there) (sym c.in-Some.ensures.value) holds in
    cell_live c.args.self.now.stores c.args.layout at there c.in-Some.held leads.store c.cell_held.result leads leads.there is
    (λ same store found. c.cell_held.ensures.cell same store (ap (λ (rows : PlaceRows). slice_get rows.stores c.args.layout) c.self.view_is ∙ found))

pub returns-in-None-clause-cell : goal.returns-in-None-clause-cell
returns-in-None-clause-cell c = λ there holds at is.
    cell_dead c.args.self.now.stores c.args.layout at there (c.places_tell.ensures (shapes_of c.args.self.now.stores) c.args.layout at)
    (subst (λ (held : Option Held). HoldsPlace c.args.self.now.stores held there) (sym c.in-None.ensures.value) holds) is
