use Rattle.std.proofs.Common.{◌≡◌, map, drop}
use Rattle.std.specs.Prelude.{find}
use Rattle.sg_session.specs.Bindings.{binding_read}
use Rattle.sparsegrid.specs.Meaning as spec
use Rattle.sparsegrid.proofs.unbound.first_unbound.Given as goal

abbrev pub invariant-loop-task : goal.invariant-loop-task
invariant-loop-task l = find (spec.is_unbound l.compiled.names (map binding_read l.binds.list)) (drop l.task-index l.tasks) ≡ find (spec.is_unbound l.compiled.names (map binding_read l.binds.list)) l.tasks
