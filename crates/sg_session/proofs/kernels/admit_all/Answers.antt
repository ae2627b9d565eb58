use Rattle.std.proofs.Common.{List, length, ap, ◌∙◌, sym, subst, arith}
use Rattle.std.specs.List.{AllByRecursion}
use Rattle.sg_types.specs.declared.typed.TypedKernel.{TypedKernel}
use Rattle.sg_session.specs.Compiling.{admitted_kernels}
use Rattle.sg_session.specs.steps.Following.{behind_front}
use Rattle.sg_session.specs.steps.Kernels.{IsReady}
use Rattle.sg_session.proofs.Lists.{taken_first}
use Rattle.sg_session.proofs.Behind.{admitted_step, admitted_refused}
use Rattle.sg_session.proofs.kernels.admit_all.Goals as goal

pub admit-requires-clause-typed : goal.admit-requires-clause-typed
admit-requires-clause-typed c =
    let split = taken_first c.loop-number.left c.remove-kernel.new.self c.remove-kernel.result c.remove-kernel.ensures.item c.remove-kernel.ensures.rest in
    (subst (λ (ks : List TypedKernel). AllByRecursion (IsReady c.args.layouts.now.list) ks) split c.loop-number.invariant.ready).0.typed

pub returns-in-Err-Refused : goal.returns-in-Err-Refused
returns-in-Err-Refused c =
    let split = taken_first c.loop-number.left c.remove-kernel.new.self c.remove-kernel.result c.remove-kernel.ensures.item c.remove-kernel.ensures.rest in
    rw c.in-Err-Refused.field-0-is
    (sym c.loop-number.invariant.rest ∙ ap (λ (ks : List TypedKernel). behind_front c.loop-number.admitted (admitted_kernels c.loop-number.number ks)) split
    ∙ admitted_refused c.loop-number.admitted c.loop-number.number c.remove-kernel.result c.remove-kernel.new.self c.in-Err-Refused.fault (rw c.in-Err-Refused.field-0-is at c.in-Err-Refused.ensures))

pub loop-number-preserved : goal.loop-number-preserved
loop-number-preserved c =
    let split = taken_first c.loop-number.left c.remove-kernel.new.self c.remove-kernel.result c.remove-kernel.ensures.item c.remove-kernel.ensures.rest in
    let ready = subst (λ (ks : List TypedKernel). AllByRecursion (IsReady c.args.layouts.now.list) ks) split c.loop-number.invariant.ready in
    let many = ap length split in
    record {
      rest = admitted_step c.loop-number.admitted c.push.new.self c.loop-number.number c.loop-number.left c.remove-kernel.new.self c.remove-kernel.result c.in-Ok.kernel (admitted_kernels 0 c.args.kernels)
          split c.in-Ok.ensures c.in_ok-push-in-Ok.ensures.ok c.loop-number.invariant.rest;
      ready = ready.1;
      count = omega arith;
      few = c.loop-number.invariant.few;
    }
