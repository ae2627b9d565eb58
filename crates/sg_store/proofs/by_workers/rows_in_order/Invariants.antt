use Rattle.std.proofs.Common.{◌≡◌, ◌-◌}
use Rattle.sg_store.specs.steps.RowsMade.{rows_from}
use Rattle.sg_store.proofs.by_workers.rows_in_order.Given as goal

abbrev pub invariant-loop-place : goal.invariant-loop-place
invariant-loop-place l = l.made.items ≡ rows_from l.rows l.cells l.from (l.place - l.from)
