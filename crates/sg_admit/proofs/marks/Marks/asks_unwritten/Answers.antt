use Rattle.std.proofs.Common.{true, List, ap, ◌∙◌}
use Rattle.sg_admit.specs.declared.ways.FieldWay.{FieldWay}
use Rattle.sg_admit.specs.Rules.{has_good_asks}
use Rattle.sg_admit.specs.steps.Reading.{may_ask}
use Rattle.sg_admit.proofs.marks.Marks.asks_unwritten.Goals as goal

pub returns : goal.returns
returns c = c.good_asks.ensures ∙ ap (λ (ways : List FieldWay). has_good_asks (may_ask true ways) c.args.expr.now) c.as_slice.ensures
