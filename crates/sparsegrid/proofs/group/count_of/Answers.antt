use Rattle.std.proofs.Common.{◌<◌, ◌∙◌, List, length, ap, sym, subst, arith}
use Rattle.std.specs.Prelude.{All}
use Rattle.sg_ir.specs.declared.code.KernelCode.{KernelCode}
use Rattle.sg_batch.specs.Independent.{IsLongestFront}
use Rattle.sg_batch.proofs.Uses.{longest_none}
use Rattle.sg_session.specs.Compiled.{CompiledProgram}
use Rattle.sparsegrid.proofs.group.count_of.Goals as goal

pub group_of-requires-clause-there : goal.group_of-requires-clause-there
group_of-requires-clause-there c =
    subst (λ (kernels : List KernelCode). All (λ number. number < length kernels) c.args.order.now) (sym (c.as_slice.ensures ∙ ap (λ (p : CompiledProgram). p.kernels) c.compiled.view_is)) c.requires.there

pub returns-then-order-eq0 : goal.returns-then-order-eq0
returns-then-order-eq0 c = longest_none c.args.compiled.now.kernels c.args.order.now c.args.most (omega arith)

pub returns : goal.returns
returns c =
    subst (λ (kernels : List KernelCode). IsLongestFront kernels c.args.order.now c.args.most c.group_of.result) (c.as_slice.ensures ∙ ap (λ (p : CompiledProgram). p.kernels) c.compiled.view_is) c.group_of.ensures
