use Rattle.std.proofs.Common.{true, List, ap, ◌∙◌}
use Rattle.sg_admit.specs.declared.ways.FieldWay.{FieldWay}
use Rattle.sg_admit.specs.steps.Reading.{may_ask, is_askable_range}
use Rattle.sg_admit.proofs.marks.Marks.is_askable_range.Goals as goal

pub returns : goal.returns
returns c = c.is_good_range.ensures ∙ ap (λ (ways : List FieldWay). is_askable_range (may_ask true ways) c.args.range.now) c.as_slice.ensures
