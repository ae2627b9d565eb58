use Rattle.std.proofs.Common.{true, List, ap, ◌∙◌}
use Rattle.std.specs.List.{list_all}
use Rattle.sg_admit.specs.declared.ways.FieldWay.{FieldWay}
use Rattle.sg_admit.specs.steps.Reading.{may_ask, is_askable_range}
use Rattle.sg_admit.proofs.marks.Marks.are_askable_ranges.Goals as goal

pub returns : goal.returns
returns c = c.are_good_ranges.ensures ∙ ap (λ (ways : List FieldWay). list_all (is_askable_range (may_ask true ways)) c.args.ranges.now) c.as_slice.ensures
