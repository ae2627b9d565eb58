use Rattle.std.proofs.Common.{map, inl, sym, ◌∙◌}
use Rattle.sg_exec.specs.Running.{turn_of}
use Rattle.sg_exec.specs.declared.activation.turns.Turns.TheVariants.{Rows}
use Rattle.sg_exec.proofs.Turning.{all_told, are_meant, stands_seen}
use Rattle.sg_exec.proofs.activation.activate.activated_for_rows.Goals as goal

pub returns-in-Some-clause-ran : goal.returns-in-Some-clause-ran
returns-in-Some-clause-ran g c = λ state all.
    inl (sym c.in-Some.ensures)

pub returns-clause-ran : goal.returns-clause-ran
returns-clause-ran g c = λ state all.
    let stores = c.args.stores.now.list in
    let turns = map turn_of c.args.rows.now in
    all_told _ stores turns c.activated_copies.result
    (sym c.first_outside.ensures ∙ c.in_default.is)
    (c.activated_copies.ensures.reached _ (are_meant stores state (Rows c.args.rows) (stands_seen stores state all) tt))
