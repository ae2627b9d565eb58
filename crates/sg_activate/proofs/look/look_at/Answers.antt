use Rattle.std.proofs.Common.{inl, sym, ap, ◌∙◌}
use Rattle.std.specs.Prelude.{Some, is_some}
use Rattle.sg_store.specs.Walks.{cell_in}
use Rattle.sg_activate.proofs.Looking.{looked, looked_known, looked_new, no_cell}
use Rattle.sg_activate.proofs.look.look_at.Goals as goal

pub returns-clause-grew : goal.returns-clause-grew
returns-clause-grew c = looked c.args.notes.now c.add.new.self (Some c.args.at) c.args.at c.found_at.result c.add.result c.requires.axes c.found_at.ensures c.add.ensures.grew

pub returns-then-is_last-clause-new : goal.returns-then-is_last-clause-new
returns-then-is_last-clause-new c = λ at has. inl has

pub returns-then-is_some-clause-new : goal.returns-then-is_some-clause-new
returns-then-is_some-clause-new c = λ at has. inl has

pub returns-clause-new : goal.returns-clause-new
returns-clause-new c =
    let none = no_cell (cell_in c.args.store.now c.args.at) (ap is_some (sym c.cell_of.ensures.value) ∙ sym c.is_some.ensures ∙ c.if-is_some.false) in
    looked_new c.args.store.now c.args.notes.now c.add.new.self c.args.at c.add.result none (returns-clause-grew c)

pub returns-clause-known : goal.returns-clause-known
returns-clause-known c = looked_known c.args.store.now c.args.notes.now.axes c.add.new.self c.args.at c.found_at.result c.add.result c.requires.axes c.found_at.ensures c.add.ensures.has
