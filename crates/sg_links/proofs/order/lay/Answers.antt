use Rattle.std.proofs.Common.{arith, ◌+◌, sym, ap, ◌∙◌, subst, ℕ, List, get_or, drop}
use Rattle.std.proofs.lemmas.List.{length-set}
use Rattle.std.specs.Prelude.{length}
use Rattle.sg_links.specs.steps.Rows.{no_head, list_at, IsPath}
use Rattle.sg_links.proofs.Changes.{long_is, walk_at, walk_step, walk_below}
use Rattle.sg_links.proofs.Orders.{seen_of, kept_so, laid_more, front_more}
use Rattle.sg_links.proofs.order.lay.Goals as goal

pub get-number-requires : goal.get-number-requires
get-number-requires c =
    let kept = kept_so c.args.next.now c.args.heads.now c.requires.linked in
    let long = long_is (seen_of c.args.next.now c.args.heads.now) _ _ c.args.head _ kept (omega (arith, c.requires.linked.as_many)) (c.get-list.ensures no_head) in
    walk_below (seen_of c.args.next.now c.args.heads.now) _ _ c.args.head _ _ kept (omega (arith, c.requires.linked.as_many)) c.loop-step.invariant.path (omega arith)

pub loop-step-preserved : goal.loop-step-preserved
loop-step-preserved c =
    let kept = kept_so c.args.next.now c.args.heads.now c.requires.linked in
    let list = list_at c.args.next.now c.args.heads.now c.args.head in
    let long = long_is (seen_of c.args.next.now c.args.heads.now) _ _ c.args.head _ kept (omega (arith, c.requires.linked.as_many)) (c.get-list.ensures no_head) in
    let at = walk_at c.args.next.now c.loop-step.number list _ c.loop-step.step c.loop-step.invariant.path (omega arith) in
    let moved = c.set.ensures in
    record {
      path = subst (λ n. IsPath c.args.next.now n (drop (c.loop-step.step + 1) list) (length c.args.next.now)) (sym (c.get-number.ensures 0))
          (walk_step c.args.next.now c.loop-step.number list _ c.loop-step.step c.loop-step.invariant.path (omega arith));
      laid = λ k below. ap (λ (xs : List ℕ). get_or xs (c.args.start + k) 0) moved ∙ laid_more list c.loop-step.order c.args.start c.loop-step.step c.loop-step.number c.loop-step.invariant.laid at (omega (arith, c.loop-step.invariant.long)) k below;
      front = λ k below. ap (λ (xs : List ℕ). get_or xs k 0) moved ∙ front_more c.args.order.now c.loop-step.order c.args.start (c.args.start + c.loop-step.step) c.loop-step.number c.loop-step.invariant.front (omega arith) k below;
      long = ap length moved ∙ length-set c.loop-step.order (c.args.start + c.loop-step.step) c.loop-step.number ∙ c.loop-step.invariant.long;
    }
