use Rattle.sg_session.proofs.Openings.{opened_next}
use Rattle.sg_session.proofs.opening.opening_stores.Goals as goal

pub loop-layout-preserved : goal.loop-layout-preserved
loop-layout-preserved c =
    opened_next c.as_slice-layout-items.result.now c.loop-layout.layout-index c.layout-item.result c.loop-layout.list c.push.new.self c.in_ok-make.field-0
    c.loop-layout-test.true c.layout-item.is c.in_ok-push.ensures.ok c.loop-layout.invariant c.in_ok-make.ensures.shape c.in_ok-make.ensures.opening
