use Rattle.std.proofs.Common.{◌∙◌}
use Rattle.sg_store.proofs.FieldRows.{part_fits, part_written}
use Rattle.sg_store.proofs.rows.rewrite.Goals as goal

pub write-cell-requires : goal.write-cell-requires
write-cell-requires c =
    part_fits c.args.parts.now c.loop-part.part-index c.loop-part.cell c.loop-part.row c.args.row.now c.as_slice.result.now _ c.loop-part.invariant c.loop-part-test.true
    (c.as_slice.ensures ∙ c.part-item.is)

pub loop-part-preserved : goal.loop-part-preserved
loop-part-preserved c =
    part_written c.args.parts.now c.loop-part.part-index c.loop-part.cell c.write-cell.result c.loop-part.row c.args.row.now c.as_slice.result.now _ c.write-cell.new.row
    c.loop-part.invariant c.loop-part-test.true (c.as_slice.ensures ∙ c.part-item.is) c.write-cell.ensures.written c.write-cell.ensures.end
