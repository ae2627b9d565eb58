use Rattle.std.proofs.Common.{◌∙◌}
use Rattle.sg_store.proofs.RowsMade.{rows_none, rows_more}
use Rattle.sg_store.proofs.by_workers.rows_in_order.Goals as goal

pub loop-place-init : goal.loop-place-init
loop-place-init c = rows_none c.args.rows.now c.args.cells c.args.from c.new-made.result.items c.new-made.ensures.items

pub loop-place-preserved : goal.loop-place-preserved
loop-place-preserved c =
    c.in_ok-push.ensures.items
    ∙ rows_more c.args.rows.now c.args.cells c.args.from c.loop-place.place c.loop-place.made.items c.in_ok-row_at.field-0 c.loop-place.auto.place c.loop-place.invariant c.in_ok-row_at.ensures
