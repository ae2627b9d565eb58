use Rattle.std.proofs.Common.{◌≡◌}
use Rattle.sg_exec.specs.steps.Rows.{On}
use Rattle.sg_exec.specs.steps.Accessing.{IsOwnValue}
use Rattle.sg_exec.proofs.EachLane.{AreBefore}
use Rattle.sg_exec.proofs.lanes.memory.put_own_values.Given as goal

abbrev pub invariant-loop-k : goal.invariant-loop-k
invariant-loop-k l = record {
  same : l.moments ≡ l.fn.moments;
  words : AreBefore (λ k word. On l.fn.columns.on k → IsOwnValue l.fn.places.stores l.fn.moments l.fn.layout l.fn.field k word) l.k l.words;
}
