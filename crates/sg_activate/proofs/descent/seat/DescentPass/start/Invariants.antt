use Rattle.std.proofs.Common.{◌≡◌, ◌+◌, ◌≤◌, length}
use Rattle.sg_activate.specs.Descending.{open_before}
use Rattle.sg_activate.specs.steps.DescentPlans.{IsPlanOf}
use Rattle.sg_activate.proofs.descent.seat.DescentPass.start.Given as goal

abbrev pub invariant-loop-index : goal.invariant-loop-index
invariant-loop-index l = IsPlanOf l.store l.plan × (l.index ≡ open_before l.store.shape + length l.plan.levels) × (l.index ≤ l.last)
