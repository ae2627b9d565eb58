use Rattle.std.proofs.Common.{◌∙◌}
use Rattle.sg_layout.proofs.layout.Layout.size.Goals as goal

pub returns-clause-value : goal.returns-clause-value
returns-clause-value c = c.size.ensures ∙ c.measures_at.ensures.size
