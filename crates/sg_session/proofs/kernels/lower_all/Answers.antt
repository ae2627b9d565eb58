use Rattle.std.proofs.Common.{refl}
use Rattle.sg_session.specs.steps.Kernels.{IsLowerable}
use Rattle.sg_session.proofs.Lists.{at_place, all_at}
use Rattle.sg_session.proofs.Coded.{coded_next}
use Rattle.sg_session.proofs.kernels.lower_all.Goals as goal

pub code_of-requires : goal.code_of-requires
code_of-requires c =
    all_at (IsLowerable c.args.layouts.now.list) c.args.kernels.now c.loop-kernel.kernel-index c.kernel-item.result
    (at_place c.args.kernels.now c.args.kernels.now c.loop-kernel.kernel-index c.kernel-item.result refl c.loop-kernel-test.true c.kernel-item.is) c.requires

pub loop-kernel-preserved : goal.loop-kernel-preserved
loop-kernel-preserved c =
    coded_next c.args.layouts.now.list c.args.kernels.now c.loop-kernel.kernel-index c.kernel-item.result c.loop-kernel.codes c.push.new.self c.in_ok-code_of.field-0
    c.loop-kernel-test.true c.kernel-item.is c.in_ok-push.ensures.ok c.loop-kernel.invariant c.in_ok-code_of.ensures
