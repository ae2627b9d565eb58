use Rattle.sg_snapshot.proofs.Laying.{point_laws}
use Rattle.sg_snapshot.proofs.Backs.{restored_image}
use Rattle.sg_snapshot.proofs.laws.restored_is_image.Goals as goal

pub returns : goal.returns
returns c =
    let laws = c.numbering.ensures in
    restored_image (point_laws laws.inside_test laws.point_inside laws.point_of_row laws.row_of_point laws.row_below) c.closure_members.ensures.inside
