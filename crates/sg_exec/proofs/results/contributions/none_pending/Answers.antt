use Rattle.std.proofs.Common.{◌+◌, List, Option, take, subst, sym, arith}
use Rattle.std.proofs.lemmas.List.{take_all}
use Rattle.sg_exec.specs.declared.results.shared.Accumulated.{Accumulated}
use Rattle.sg_exec.specs.declared.results.shared.Pending.{Pending}
use Rattle.sg_exec.specs.steps.Pending.{NonePending}
use Rattle.sg_exec.proofs.Taking.{none_first, none_more}
use Rattle.sg_exec.proofs.results.contributions.none_pending.Goals as goal

pub loop-field-init : goal.loop-field-init
loop-field-init c =
    subst (λ (items : List (Option Pending)). NonePending (take 0 c.args.accumulated.now) items) (sym c.new-pending.ensures.items) (none_first c.args.accumulated.now)

pub loop-field-preserved : goal.loop-field-preserved
loop-field-preserved c =
    subst (λ (items : List (Option Pending)). NonePending (take (c.loop-field._field-index + 1) c.args.accumulated.now) items) (sym c.in_ok-push.ensures.items)
    (none_more c.args.accumulated.now c.loop-field._field-index c.loop-field.pending.items (omega arith) c.loop-field.invariant)

pub returns : goal.returns
returns c = subst (λ (fields : List Accumulated). NonePending fields c.loop-field.pending.items) (take_all c.loop-field._field-index c.args.accumulated.now (omega arith)) c.loop-field.invariant
