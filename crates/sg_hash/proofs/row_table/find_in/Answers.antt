use Rattle.std.proofs.Common.{◌-◌, Some, sym, ap, ◌∙◌}
use Rattle.sg_hash.proofs.Uses.{beside_none, beside_at, stands_once}
use Rattle.sg_hash.proofs.row_table.find_in.Goals as goal

pub returns-in-Some-clause-number : goal.returns-in-Some-clause-number
returns-in-Some-clause-number c =
    let found = c.in-Some.ensures in
    ap (λ w. Some (w - 1)) c.get.ensures
    ∙ sym (beside_at c.args.keys.now c.args.links.now c.args.key c.in-Some.place c.requires.links.many found.0 found.1
    (λ q there holds. stands_once c.args.keys.now c.requires.table c.args.key q c.in-Some.place there found.0 holds found.1))

pub returns-in-None-clause-number : goal.returns-in-None-clause-number
returns-in-None-clause-number c = sym (beside_none c.args.keys.now c.args.links.now c.args.key c.in-None.ensures)
