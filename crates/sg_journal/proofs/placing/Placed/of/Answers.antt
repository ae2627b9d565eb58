use Rattle.sg_journal.proofs.PlacingLoops.{placed_next}
use Rattle.sg_journal.proofs.placing.Placed.of.Goals as goal

pub loop-store-preserved : goal.loop-store-preserved
loop-store-preserved c =
    placed_next _ _ c.store-item.result _ _ _ c.loop-store-test.true c.store-item.is c.in_ok-push.ensures.ok c.loop-store.invariant c.in_ok-store_links.ensures
