use Rattle.sg_admit.proofs.Corners.{box_is}
use Rattle.sg_admit.proofs.boxes.constant_domain.Goals as goal

pub returns-in-Ranges : goal.returns-in-Ranges
returns-in-Ranges c =
    box_is c.args.kernel.now c.in-Ranges.ranges c.as_slice.result.now c.as_slice-in-Ranges.result.now c.in-Ranges.is c.as_slice.ensures c.as_slice-in-Ranges.ensures
    c.corner.result c.corner-in-Ranges.result c.corner.ensures c.corner-in-Ranges.ensures
