use Rattle.sg_admit.proofs.HangWords.{linked_more, linked-If}
use Rattle.sg_admit.proofs.TextWords.{on_ok}
use Rattle.sg_admit.proofs.hangs.Hangs.+hangs.Goals as goal

pub block-loop-stmt-preserved : goal.block-loop-stmt-preserved
block-loop-stmt-preserved t c =
    linked_more c.args.text.now c.args.round c.args.block.now c.loop-stmt.stmt-index c.stmt-item.result c.loop-stmt-test.true c.stmt-item.is c.args.self.now c.loop-stmt.self c.stmt.new.self
    c.loop-stmt.invariant c.in_ok-stmt.ensures

pub stmt-returns-in_ok-block-in-If : goal.stmt-returns-in_ok-block-in-If
stmt-returns-in_ok-block-in-If t c =
    on_ok c.block-in-If.result
    (linked-If c.args.text.now c.args.round c.args.stmt.now c.in-If.cond c.in-If.yes c.in-If.no c.as_slice.result.now c.as_slice-in-If.result.now c.in-If._has_else c.in-If.is
    c.as_slice.ensures c.as_slice-in-If.ensures c.args.self.now (record { links = c.hang_within-in-If.new.self; ifs = c.in_ok-self-in-If.field-0 }) c.block.new.self c.block-in-If.new.self
    c.in_ok-self-in-If.ensures c.in_ok-hang_within-in-If.ensures c.in_ok-block-in-If.ensures)
    c.block-in-If.ensures
