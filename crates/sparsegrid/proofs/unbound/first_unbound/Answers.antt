use Rattle.std.proofs.Common.{map, sym, ◌∙◌}
use Rattle.sg_session.specs.Bindings.{binding_read}
use Rattle.sparsegrid.specs.Meaning as spec
use Rattle.sparsegrid.proofs.Bound.{unbound_here, bound_here}
use Rattle.sparsegrid.proofs.unbound.first_unbound.Goals as goal

pub returns-then-is_unbound : goal.returns-then-is_unbound
returns-then-is_unbound c =
    sym (unbound_here (spec.is_unbound c.args.compiled.now.names (map binding_read c.args.binds.now.list)) c.args.tasks.now c.loop-task.task-index _ c.loop-task-test.true (sym c.is_unbound.ensures ∙ c.if-is_unbound.true)) ∙ c.loop-task.invariant

pub loop-task-preserved : goal.loop-task-preserved
loop-task-preserved c =
    bound_here (spec.is_unbound c.args.compiled.now.names (map binding_read c.args.binds.now.list)) c.args.tasks.now c.loop-task.task-index _ c.loop-task-test.true (sym c.is_unbound.ensures ∙ c.if-is_unbound.false) ∙ c.loop-task.invariant
