use Rattle.std.proofs.Common.{◌+◌, List, ℕ, length, ap, ◌∙◌, sym, subst, arith}
use Rattle.std.proofs.lemmas.List.{length-append}
use Rattle.sparsegrid.proofs.GroupFront.{FrontAt, front_first, front_next, front_full, front_other, front_end}
use Rattle.sparsegrid.proofs.group.runs_at.Goals as goal

pub loop-task-init : goal.loop-task-init
loop-task-init c = record {
  many = ap length c.new-order.ensures.items;
  front = front_first c.args.tasks.now c.args.most c.new-order.result.items c.new-order.ensures.items;
}

pub loop-task-preserved : goal.loop-task-preserved
loop-task-preserved c =
    let long = ap length c.in_ok-add_number.ensures ∙ length-append c.loop-task.order.items _ in
    record {
      many = omega (arith, long, c.loop-task.invariant.many);
      front = subst (λ (order : List ℕ). FrontAt c.args.tasks.now c.args.most order (c.loop-task.task-index + 1)) (sym c.in_ok-add_number.ensures)
          (front_next c.args.tasks.now c.args.most c.loop-task.order.items _ c.loop-task.task-index _ c.loop-task-test.true c.in-Run.is (omega (arith, c.loop-task.invariant.many)) c.loop-task.invariant.front);
    }

pub returns-in_default : goal.returns-in_default
returns-in_default c = front_other c.args.tasks.now c.args.most c.loop-task.order.items c.loop-task.task-index _ c.loop-task-test.true c.in_default.not-Run c.loop-task.invariant.front

pub returns-then-most-len : goal.returns-then-most-len
returns-then-most-len c = front_full c.args.tasks.now c.args.most c.loop-task.order.items c.loop-task.task-index (omega (arith, c.loop-task.invariant.many)) c.loop-task.invariant.front

pub returns : goal.returns
returns c = front_end c.args.tasks.now c.args.most c.loop-task.order.items c.loop-task.task-index (omega arith) c.loop-task.invariant.front
