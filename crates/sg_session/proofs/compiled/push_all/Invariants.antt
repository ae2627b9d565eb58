use Rattle.std.proofs.Common.{◌≡◌, ◌++◌, take}
use Rattle.sg_session.proofs.compiled.push_all.Given as goal

abbrev pub invariant-loop-task : goal.invariant-loop-task
invariant-loop-task l = l.tasks ≡ l.initial.tasks ++ take l.task-index l.more
