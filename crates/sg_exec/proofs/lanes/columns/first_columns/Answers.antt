use Rattle.std.proofs.Common.{ℕ, List, sym, subst}
use Rattle.sg_exec.specs.steps.Rows.{On}
use Rattle.sg_exec.proofs.lanes.columns.first_columns.Goals as goal

pub returns : goal.returns
returns c = λ k below. subst (λ (lanes : List ℕ). On lanes k) (sym c.with_lanes.ensures) (c.first_lanes.ensures k below)
