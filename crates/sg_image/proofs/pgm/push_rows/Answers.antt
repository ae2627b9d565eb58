use Rattle.sg_image.specs.Pgm.{image_row_text}
use Rattle.sg_image.specs.steps.Keeping.{kept_grey}
use Rattle.sg_image.proofs.Images.{texts_more}
use Rattle.sg_image.proofs.pgm.push_rows.Goals as goal

pub loop-row-preserved : goal.loop-row-preserved
loop-row-preserved c =
    texts_more c.loop-row.row (λ row. image_row_text c.args.width (kept_grey c.args.store.now c.args.place c.args.shades.now.ty c.args.shades.now.lo c.args.shades.now.hi row))
    _ _ _ c.loop-row.invariant c.in_ok-push_row.ensures
