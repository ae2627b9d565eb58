use Rattle.std.proofs.Common.{drop, length}
use Rattle.sg_links.specs.steps.Rows.{IsPath, list_at}
use Rattle.sg_links.proofs.order.walk_to.Given as goal

abbrev pub invariant-loop-step : goal.invariant-loop-step
invariant-loop-step l = IsPath l.next l.number (drop l._step (list_at l.next l.heads l.head)) (length l.next)
