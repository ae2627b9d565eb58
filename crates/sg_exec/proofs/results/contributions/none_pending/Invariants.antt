use Rattle.std.proofs.Common.{take}
use Rattle.sg_exec.specs.steps.Pending.{NonePending}
use Rattle.sg_exec.proofs.results.contributions.none_pending.Given as goal

abbrev pub invariant-loop-field : goal.invariant-loop-field
invariant-loop-field l = NonePending (take l._field-index l.accumulated) l.pending.items
