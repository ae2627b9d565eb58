use Rattle.std.proofs.Common.{◌≡◌, drop}
use Rattle.std.specs.List.{list_all}
use Rattle.sg_admit.specs.Rules.{has_good_asks}
use Rattle.sg_admit.specs.steps.Reading.{may_ask}
use Rattle.sg_admit.proofs.asks.+asks.Given as goal

abbrev pub invariant-all_good_asks-loop-expr : goal.invariant-all_good_asks-loop-expr
invariant-all_good_asks-loop-expr l =
    list_all (has_good_asks (may_ask l.any l.ways)) (drop l.expr-index l.exprs) ≡ list_all (has_good_asks (may_ask l.any l.ways)) l.exprs
