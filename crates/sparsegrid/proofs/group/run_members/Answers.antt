use Rattle.std.proofs.Common.{ap, ◌∙◌}
use Rattle.sg_session.specs.Compiled.{CompiledProgram}
use Rattle.sparsegrid.proofs.GroupRuns.{there_over, apart_over, answer_over, flat_over, runnable_over}
use Rattle.sparsegrid.proofs.group.run_members.Goals as goal

pub run_batch-requires-clause-there : goal.run_batch-requires-clause-there
run_batch-requires-clause-there g c = λ lifetimes outlive.
    there_over c.compiled.inside.layouts.list c.args.compiled.now.layouts c.as_slice-kernels.result.now c.args.compiled.now.kernels
    (ap (λ (p : CompiledProgram). p.layouts) c.compiled.view_is) (c.as_slice-kernels.ensures ∙ ap (λ (p : CompiledProgram). p.kernels) c.compiled.view_is) c.args.group.now c.requires.there

pub run_batch-requires-clause-runnable : goal.run_batch-requires-clause-runnable
run_batch-requires-clause-runnable g c = λ lifetimes outlive.
    runnable_over c.compiled.inside.layouts.list c.compiled.inside.kernels c.as_slice-kernels.result.now c.args.group.now c.as_slice-kernels.ensures c.compiled.invariant.kernels

pub run_batch-requires-clause-apart : goal.run_batch-requires-clause-apart
run_batch-requires-clause-apart g c = λ lifetimes outlive.
    apart_over c.compiled.inside.layouts.list c.args.compiled.now.layouts c.as_slice-kernels.result.now c.args.compiled.now.kernels
    (ap (λ (p : CompiledProgram). p.layouts) c.compiled.view_is) (c.as_slice-kernels.ensures ∙ ap (λ (p : CompiledProgram). p.kernels) c.compiled.view_is) c.args.group.now c.requires.apart

pub returns-clause-answer : goal.returns-clause-answer
returns-clause-answer g c =
    answer_over c.compiled.inside.layouts.list c.args.compiled.now.layouts c.as_slice-kernels.result.now c.args.compiled.now.kernels
    (ap (λ (p : CompiledProgram). p.layouts) c.compiled.view_is) (c.as_slice-kernels.ensures ∙ ap (λ (p : CompiledProgram). p.kernels) c.compiled.view_is) c.args.group.now
    c.args.stores.now.list c.run_batch.new.stores.list c.run_batch.result c.run_batch.ensures.answer

pub returns-clause-flat : goal.returns-clause-flat
returns-clause-flat g c =
    flat_over c.compiled.inside.layouts.list c.args.compiled.now.layouts c.as_slice-kernels.result.now c.args.compiled.now.kernels
    (ap (λ (p : CompiledProgram). p.layouts) c.compiled.view_is) (c.as_slice-kernels.ensures ∙ ap (λ (p : CompiledProgram). p.kernels) c.compiled.view_is) c.args.group.now
    c.args.stores.now.list c.run_batch.result c.run_batch.ensures.flat
