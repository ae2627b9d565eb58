use Rattle.sg_explain.proofs.FrontLemmas.{syntax_at}
use Rattle.sg_explain.proofs.fronts.syntax_place.Goals as goal

pub returns : goal.returns
returns c =
    syntax_at c.first_fault_is_named.ensures c.args.bytes.now c.args.list.now c.args.number c.item_begin-least.result c.in_ok-last.last c.stop_place.result
    c.item_begin-least.ensures.count c.in_ok-last.ensures.above c.in_ok-last.ensures.fronts c.stop_place.ensures
