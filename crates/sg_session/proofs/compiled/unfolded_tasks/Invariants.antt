use Rattle.std.proofs.Common.{◌≡◌, take}
use Rattle.sg_session.specs.Compiled.{unfolded_tasks}
use Rattle.sg_session.proofs.compiled.unfolded_tasks.Given as goal

abbrev pub invariant-loop-stage : goal.invariant-loop-stage
invariant-loop-stage l = l.tasks ≡ unfolded_tasks (take l.stage-index l.commands)
