use Rattle.std.proofs.Common.{◌≡◌, sym, ◌∙◌}
use Rattle.sg_exec.proofs.CellsNear.{near_there}
use Rattle.sg_exec.proofs.Reading.{cell_at_store}
use Rattle.sg_exec.proofs.lanes.near.near_of.Goals as goal

pub near_in-requires : goal.near_in-requires
near_in-requires c = record { cell = c.requires.cell ∙ cell_at_store c.args.view.now c.args.layout c.in-Some.store.now c.args.at (sym c.in-Some.ensures.value) }

pub returns-in-Some : goal.returns-in-Some
returns-in-Some c = near_there c.args.view.now c.args.layout c.in-Some.store.now c.near_in.result (sym c.in-Some.ensures.value) c.near_in.ensures
