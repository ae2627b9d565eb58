use Rattle.std.proofs.Common.{◌∙◌, ◌-◌, arith}
use Rattle.sg_explain.proofs.FrontLemmas.{counted_more}
use Rattle.sg_explain.proofs.items.item_begin.Goals as goal

pub loop-left-preserved : goal.loop-left-preserved
loop-left-preserved c = (
  counted_more c.loop-left.left (c.loop-left.left - 1) c.loop-left.taken c.next_item.result.0.now c.loop-left.rest.now c.next_item.result.1.now (omega arith) c.next_item.ensures.cut
      ∙ c.loop-left.invariant.0,
  omega (arith, c.next_item.ensures.lengths, c.loop-left.invariant.1),
)
