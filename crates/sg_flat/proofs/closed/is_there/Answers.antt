use Rattle.std.proofs.Common.{sym, ◌∙◌}
use Rattle.sg_flat.proofs.Neighbours.{found_is_there}
use Rattle.sg_flat.proofs.closed.is_there.Goals as goal

pub returns : goal.returns
returns c =
    let found = found_is_there c.args.rows.now c.args.row c.binary_search.result c.requires.rising c.binary_search.ensures.position in
    (λ is. found.0 (sym c.is_ok.ensures.value ∙ is), λ has. c.is_ok.ensures.value ∙ found.1 has)
