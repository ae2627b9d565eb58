use Rattle.sg_lower.proofs.Noting.{noted_next, noted_done}
use Rattle.sg_lower.proofs.owned.+noted.Goals as goal

pub note_block-loop-stmt-preserved : goal.note_block-loop-stmt-preserved
note_block-loop-stmt-preserved t c = λ around layout place.
    noted_next c.args.owned.now c.loop-stmt.owned c.note_stmt.new.owned c.args.block.now c.loop-stmt.stmt-index c.stmt-item.result c.loop-stmt-test.true c.stmt-item.is around layout place (c.loop-stmt.invariant around layout place) c.in_ok-note_stmt.ensures

pub note_block-returns : goal.note_block-returns
note_block-returns t c = λ around layout place.
    noted_done c.args.owned.now c.loop-stmt.owned c.args.block.now c.loop-stmt.stmt-index c.loop-stmt-test.false around layout place (c.loop-stmt.invariant around layout place)
