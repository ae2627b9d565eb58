use Rattle.std.proofs.Common.{ap, ◌∙◌, subst}
use Rattle.sg_session.specs.Compiled.{CompiledProgram, IsCompiled}
use Rattle.sg_session.proofs.Kept.{tasks_there}
use Rattle.sg_session.proofs.compiled.Compiled.tasks.Goals as goal

pub returns-clause-there : goal.returns-clause-there
returns-clause-there c =
    tasks_there c.args.self.now c.as_slice.result.now c.unfolded_tasks.result (subst IsCompiled c.self.view_is c.self.invariant)
    (c.as_slice.ensures ∙ ap (λ (p : CompiledProgram). p.commands) c.self.view_is) c.unfolded_tasks.ensures
