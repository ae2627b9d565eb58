use Rattle.std.proofs.Common.{Bool, ◌&&◌, refl, sym, ap, ◌∙◌}
use Rattle.std.specs.List.{list_all}
use Rattle.sg_admit.specs.Rules.{has_good_asks}
use Rattle.sg_admit.specs.steps.Reading.{may_ask}
use Rattle.sg_admit.proofs.Asked.{read_asks, asked_good_is}
use Rattle.sg_admit.proofs.asks.+asks.Goals as goal

pub good_asks-returns-in-Read : goal.good_asks-returns-in-Read
good_asks-returns-in-Read t c =
    let good = may_ask c.args.any c.args.ways.now in
    c.all_good_asks.ensures
    ∙ (ap (list_all (has_good_asks good)) c.as_slice.ensures
    ∙ sym (read_asks good c.args.expr.now c.in-Read._layout c.in-Read._place c.in-Read.index c.in-Read.is))

pub good_asks-returns-then-may_ask : goal.good_asks-returns-then-may_ask
good_asks-returns-then-may_ask t c =
    let good = may_ask c.args.any c.args.ways.now in
    sym (asked_good_is good c.args.expr.now c.in-Active.layout c.in-Active.index c.as_slice-then-may_ask.result.now c.in-Active.is c.as_slice-then-may_ask.ensures
    c.may_ask.result c.all_good_asks-then-may_ask.result c.may_ask.ensures c.all_good_asks-then-may_ask.ensures
    ∙ ap (λ (b : Bool). b && c.all_good_asks-then-may_ask.result) c.if-may_ask.true)

pub good_asks-returns-else-may_ask : goal.good_asks-returns-else-may_ask
good_asks-returns-else-may_ask t c =
    let good = may_ask c.args.any c.args.ways.now in
    let rest = list_all (has_good_asks good) c.in-Active.index in
    (c.if-may_ask.false ∙ sym (ap (λ (b : Bool). b && rest) c.if-may_ask.false))
    ∙ sym (asked_good_is good c.args.expr.now c.in-Active.layout c.in-Active.index c.in-Active.index c.in-Active.is refl
    c.may_ask.result rest c.may_ask.ensures refl)
