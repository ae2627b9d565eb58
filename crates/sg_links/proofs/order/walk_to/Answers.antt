use Rattle.std.proofs.Common.{arith, sym, ap, ◌∙◌, ◌≡◌, ◌+◌, subst, get_or, drop, length}
use Rattle.sg_links.specs.steps.Rows.{list_at, IsPath}
use Rattle.sg_links.proofs.Changes.{walk_at, walk_step, walk_below}
use Rattle.sg_links.proofs.Orders.{seen_of, kept_so}
use Rattle.sg_links.proofs.order.walk_to.Goals as goal

pub get-number-requires-in-loop-step : goal.get-number-requires-in-loop-step
get-number-requires-in-loop-step c =
    walk_below (seen_of c.args.next.now c.args.heads.now) _ _ c.args.head _ _ (kept_so _ _ c.requires.linked) (omega (arith, c.requires.linked.as_many)) c.loop-step.invariant (omega arith)

pub loop-step-preserved : goal.loop-step-preserved
loop-step-preserved c =
    let list = list_at c.args.next.now c.args.heads.now c.args.head in
    subst (λ n. IsPath c.args.next.now n (drop (c.loop-step._step + 1) list) (length c.args.next.now)) (sym (c.get-number-in-loop-step.ensures 0))
    (walk_step _ c.loop-step.number list _ c.loop-step._step c.loop-step.invariant (omega arith))

pub returns : goal.returns
returns c =
    let all : c.loop-step._step ≡ c.args.place = omega arith in
    let list = list_at c.args.next.now c.args.heads.now c.args.head in
    walk_at c.args.next.now c.loop-step.number list _ c.loop-step._step c.loop-step.invariant (omega arith) ∙ ap (λ k. get_or list k 0) all
