use Rattle.std.proofs.Common.{◌≡◌, length}
use Rattle.sparsegrid.proofs.GroupFront.{FrontAt}
use Rattle.sparsegrid.proofs.group.runs_at.Given as goal

abbrev pub invariant-loop-task : goal.invariant-loop-task
invariant-loop-task l = record {
  many : length l.order.items ≡ l.task-index;
  front : FrontAt l.tasks l.most l.order.items l.task-index;
}
