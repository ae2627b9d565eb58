use Rattle.std.proofs.Common.{◌-◌, Some, sym, ap, ◌∙◌}
use Rattle.sg_hash.proofs.Uses.{beside_at, beside_none, stands_once}
use Rattle.sg_store.proofs.node.beside.Goals as goal

pub returns-in-Some : goal.returns-in-Some
returns-in-Some c =
    let found = c.in-Some.ensures in
    ap (λ w. Some (w - 1)) c.get.ensures
    ∙ sym (beside_at c.args.keys.now c.args.links.now c.args.slot c.in-Some.place c.requires.links_beside.many found.0 found.1
    (λ q there holds. stands_once c.args.keys.now c.requires.table c.args.slot q c.in-Some.place there found.0 holds found.1))

pub returns-in-None : goal.returns-in-None
returns-in-None c = sym (beside_none c.args.keys.now c.args.links.now c.args.slot c.in-None.ensures)
