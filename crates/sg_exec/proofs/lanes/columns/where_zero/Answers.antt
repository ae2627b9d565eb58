use Rattle.std.proofs.Common.{ℕ, List, ap, ◌∙◌}
use Rattle.sg_exec.specs.steps.Rows.{is_on}
use Rattle.sg_exec.proofs.lanes.columns.where_zero.Goals as goal

pub returns : goal.returns
returns c = λ k. ap (λ (lanes : List ℕ). is_on lanes k) c.with_lanes.ensures ∙ c.zero_lanes.ensures k
