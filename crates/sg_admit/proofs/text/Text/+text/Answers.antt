use Rattle.std.proofs.Common.{refl}
use Rattle.sg_admit.proofs.TextWords.{on_ok, noted_more, noted-If, noted-For}
use Rattle.sg_admit.proofs.text.Text.+text.Goals as goal

pub block-loop-stmt-preserved : goal.block-loop-stmt-preserved
block-loop-stmt-preserved t c =
    noted_more c.args.block.now c.loop-stmt.stmt-index c.stmt-item.result c.loop-stmt-test.true c.stmt-item.is c.args.self.now c.loop-stmt.self c.stmt.new.self c.loop-stmt.invariant c.in_ok-stmt.ensures

pub stmt-returns-in_ok-block-in-If : goal.stmt-returns-in_ok-block-in-If
stmt-returns-in_ok-block-in-If t c =
    on_ok c.block-in-If.result
    (λ h. noted-If c.args.stmt.now c.in-If._cond c.in-If.yes c.in-If.no c.as_slice.result.now c.as_slice-in-If.result.now c.in-If._has_else c.in-If.is c.as_slice.ensures c.as_slice-in-If.ensures
    c.args.self.now c.note_if.new.self c.block.new.self c.block-in-If.new.self
    c.in_ok-note_if-in-If.ensures.writes c.in_ok-note_if-in-If.ensures.loops c.in_ok-note_if-in-If.ensures.ifs c.in_ok-block-in-If.ensures h)
    c.block-in-If.ensures

pub stmt-returns-in_ok-push-in-For : goal.stmt-returns-in_ok-push-in-For
stmt-returns-in_ok-push-in-For t c =
    on_ok c.block-in-For.result
    (λ h. noted-For c.args.stmt.now c.in-For.var c.in-For._range c.in-For.body c.as_slice-in-For.result.now c.in-For.is c.as_slice-in-For.ensures
    c.args.self.now (record { writes = c.args.self.now.writes; loops = c.push.new.self; ifs = c.args.self.now.ifs }) c.block-in-For.new.self refl c.in_ok-push-in-For.ensures.ok refl h)
    c.block-in-For.ensures
