use Rattle.sg_snapshot.proofs.Laying.{point_laws}
use Rattle.sg_snapshot.proofs.States.{image_restored}
use Rattle.sg_snapshot.proofs.laws.image_is_restored.Goals as goal

pub returns : goal.returns
returns c =
    let laws = c.numbering.ensures in
    image_restored (point_laws laws.inside_test laws.point_inside laws.point_of_row laws.row_of_point laws.row_below) c.closure_members.ensures.inside
