use Rattle.std.proofs.Common.{ℕ, List, ap, ◌∙◌}
use Rattle.sg_exec.specs.steps.Rows.{is_on}
use Rattle.sg_exec.proofs.lanes.columns.where_set.Goals as goal

pub returns : goal.returns
returns c = λ k. ap (λ (lanes : List ℕ). is_on lanes k) c.with_lanes.ensures ∙ c.set_lanes.ensures k
