use Rattle.std.proofs.Common.{sym, ◌∙◌, refl}
use Rattle.sg_snapshot.proofs.Fronts.{rows_more, rows_low, rows_high, rows_end}
use Rattle.sg_snapshot.proofs.reading.are_rows.Goals as goal

pub loop-row-init : goal.loop-row-init
loop-row-init c = refl

pub loop-row-preserved : goal.loop-row-preserved
loop-row-preserved c =
    sym (rows_more c.args.rows.now c.loop-row.row-index c.loop-row.least c.args.volume c.loop-row-test.true c.if-row-least.false c.if-row-volume.false) ∙ c.loop-row.invariant

pub returns-then-row-least : goal.returns-then-row-least
returns-then-row-least c =
    sym (rows_low c.args.rows.now c.loop-row.row-index c.loop-row.least c.args.volume c.loop-row-test.true c.if-row-least.true) ∙ c.loop-row.invariant

pub returns-then-row-volume : goal.returns-then-row-volume
returns-then-row-volume c =
    sym (rows_high c.args.rows.now c.loop-row.row-index c.loop-row.least c.args.volume c.loop-row-test.true c.if-row-volume.true) ∙ c.loop-row.invariant

pub returns : goal.returns
returns c = sym (rows_end c.args.rows.now c.loop-row.row-index c.loop-row.least c.args.volume c.loop-row-test.false) ∙ c.loop-row.invariant
