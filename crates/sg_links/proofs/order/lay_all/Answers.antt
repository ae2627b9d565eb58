use Rattle.std.proofs.Common.{arith, ◌+◌, ap, ◌∙◌, ℕ, length}
use Rattle.sg_links.specs.steps.Rows.{no_head}
use Rattle.std.proofs.lemmas.List.{length-set}
use Rattle.sg_links.specs.Heads.{lists_of}
use Rattle.sg_links.proofs.Changes.{long_is}
use Rattle.sg_links.proofs.Orders.{seen_of, kept_so, laid_list, room_for, sum_more, all_laid}
use Rattle.sg_links.proofs.order.lay_all.Goals as goal

pub lay-requires-clause-room : goal.lay-requires-clause-room
lay-requires-clause-room c =
    let room = room_for c.args.next.now c.args.heads.now c.loop-head.head c.requires.linked (omega (arith, c.loop-head-test.true, c.heads_used-head-end.ensures.few)) in
    omega (arith, c.loop-head.invariant.sum, c.loop-head.invariant.order)

pub overflow_add-end : goal.overflow_add-end
overflow_add-end c =
    let linked = c.requires.linked in
    let room = room_for c.args.next.now c.args.heads.now c.loop-head.head linked (omega (arith, c.loop-head-test.true, c.heads_used-head-end.ensures.few)) in
    let long = long_is (seen_of c.args.next.now c.args.heads.now) _ _ c.loop-head.head _ (kept_so _ _ linked) (omega (arith, linked.as_many)) (c.get-end.ensures no_head) in
    omega (arith, c.loop-head.invariant.sum, linked.few)

pub loop-head-preserved : goal.loop-head-preserved
loop-head-preserved c =
    let linked = c.requires.linked in
    let lists = lists_of c.args.next.now c.args.heads.now in
    let long = long_is (seen_of c.args.next.now c.args.heads.now) _ _ c.loop-head.head _ (kept_so _ _ linked) (omega (arith, linked.as_many)) (c.get-end.ensures no_head) in
    let more = ap (λ (n : ℕ). c.loop-head.end + n) long in
    record {
      laid = laid_list c.loop-head.head lists c.loop-head.starts c.set.new.self c.loop-head.order c.lay.new.order c.loop-head.end _ c.loop-head.invariant.laid (omega (arith, c.loop-head.invariant.starts)) c.set.ensures c.lay.ensures.laid c.lay.ensures.front more;
      sum = more ∙ omega (arith, c.loop-head.invariant.sum, sum_more c.args.next.now c.args.heads.now c.loop-head.head linked (omega (arith, c.loop-head-test.true, c.heads_used-head-end.ensures.few)));
      starts = ap length c.set.ensures ∙ length-set c.loop-head.starts c.loop-head.head c.loop-head.end ∙ c.loop-head.invariant.starts;
      order = c.lay.ensures.length ∙ c.loop-head.invariant.order;
    }

pub returns-clause-laid : goal.returns-clause-laid
returns-clause-laid c = all_laid c.args.next.now c.args.heads.now c.loop-head.starts c.loop-head.order c.loop-head.head c.loop-head.end c.requires.linked c.loop-head.invariant.laid c.loop-head.invariant.sum
    (λ i past. c.heads_used-head-end.ensures.rest i (omega (arith, past, c.loop-head-test.false)))
