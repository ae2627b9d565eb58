use Rattle.std.proofs.Common.{◌≡◌, ◌++◌, drop}
use Rattle.sg_session.specs.Tasks as spec
use Rattle.sg_session.proofs.stages.body_tasks.Given as goal

abbrev pub invariant-loop-command : goal.invariant-loop-command
invariant-loop-command l = l.tasks ++ spec.body_tasks l.names (drop l.command-index l.body) ≡ spec.body_tasks l.names l.body
