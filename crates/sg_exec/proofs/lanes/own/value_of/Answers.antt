use Rattle.std.proofs.Common.{sym}
use Rattle.sg_exec.proofs.Reading.{value_of_cell, reached_in}
use Rattle.sg_exec.proofs.StoreLists.{value_nowhere}
use Rattle.sg_exec.proofs.lanes.own.value_of.Goals as goal

pub value_in-requires : goal.value_in-requires
value_in-requires c = record { cell = reached_in c.args.view.now c.args.layout c.in-Some.store.now c.args.cell (sym c.in-Some.ensures) c.requires.cell }

pub returns-in-Some : goal.returns-in-Some
returns-in-Some c = λ state all at has.
    value_of_cell c.args.view.now state c.args.layout c.args.place at c.in-Some.store.now c.args.cell c.value_in.result all (sym c.in-Some.ensures) has c.value_in.ensures

pub returns-in-None : goal.returns-in-None
returns-in-None c = λ state all at has. sym (value_nowhere c.args.view.now state c.args.layout c.args.place at (sym c.in-None.ensures))
