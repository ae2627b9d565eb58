use Rattle.std.proofs.Common.{◌<◌, List, length, sym, ap, ◌∙◌, subst}
use Rattle.sg_ir.specs.declared.code.KernelCode.{KernelCode}
use Rattle.sg_exec.specs.Running.{IsRunnable}
use Rattle.sg_session.specs.Compiled.{CompiledProgram}
use Rattle.sg_session.proofs.Lists.{at_place, all_at}
use Rattle.sg_session.proofs.Performing.{run_done_over, run_refused_over, run_stands}
use Rattle.sg_session.proofs.perform.run.Goals as goal

pub run_kernel-requires-clause-runnable : goal.run_kernel-requires-clause-runnable
run_kernel-requires-clause-runnable g c = λ lifetimes outlive.
    let kernels = c.compiled.inside.kernels in
    let below = subst (λ (xs : List KernelCode). c.args.kernel < length xs) (sym (ap (λ (p : CompiledProgram). p.kernels) c.compiled.view_is)) c.requires.there in
    let there = at_place kernels c.as_slice.result.now c.args.kernel c.index-as_slice-kernel.result c.as_slice.ensures below c.index-as_slice-kernel.is in
    all_at (IsRunnable c.compiled.inside.layouts.list) kernels c.args.kernel c.index-as_slice-kernel.result there c.compiled.invariant.kernels

pub returns-in-Ok-clause-performed : goal.returns-in-Ok-clause-performed
returns-in-Ok-clause-performed g c =
    let compiled = c.args.compiled.now in
    let there = at_place compiled.kernels c.as_slice.result.now c.args.kernel c.index-as_slice-kernel.result (c.as_slice.ensures ∙ ap (λ (p : CompiledProgram). p.kernels) c.compiled.view_is) c.requires.there c.index-as_slice-kernel.is in
    run_done_over compiled.layouts c.compiled.inside.layouts.list compiled.kernels c.args.kernel c.index-as_slice-kernel.result c.args.stores.now.list c.run_kernel.new.stores.list
    (ap (λ (p : CompiledProgram). p.layouts) c.compiled.view_is) there c.no_text.result.bytes c.no_text.ensures c.in-Ok.ensures.answer

pub returns-in-Err-Refused-clause-performed : goal.returns-in-Err-Refused-clause-performed
returns-in-Err-Refused-clause-performed g c =
    let compiled = c.args.compiled.now in
    let there = at_place compiled.kernels c.as_slice.result.now c.args.kernel c.index-as_slice-kernel.result (c.as_slice.ensures ∙ ap (λ (p : CompiledProgram). p.kernels) c.compiled.view_is) c.requires.there c.index-as_slice-kernel.is in
    rw c.in-Err-Refused.field-0-is
    (run_refused_over compiled.layouts c.compiled.inside.layouts.list compiled.kernels c.args.kernel c.index-as_slice-kernel.result c.args.stores.now.list c.run_kernel.new.stores.list
    (ap (λ (p : CompiledProgram). p.layouts) c.compiled.view_is) there c.in-Err-Refused.fault (rw c.in-Err-Refused.field-0-is at c.in-Err-Refused.ensures.answer))

pub returns-in-Ok-clause-stand : goal.returns-in-Ok-clause-stand
returns-in-Ok-clause-stand g c =
    run_stands c.args.compiled.now.layouts c.compiled.inside.layouts.list c.index-as_slice-kernel.result c.args.stores.now.list c.run_kernel.new.stores.list
    (ap (λ (p : CompiledProgram). p.layouts) c.compiled.view_is) c.in-Ok.ensures.answer
