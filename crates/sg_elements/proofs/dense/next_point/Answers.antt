use Rattle.std.proofs.Common.{sym, subst}
use Rattle.sg_coord.specs.declared.coord.Coord.{Coord}
use Rattle.sg_coord.specs.Bounds.{bounds_of}
use Rattle.sg_coord.specs.Coord.{Inside}
use Rattle.sg_elements.proofs.dense.next_point.Goals as goal

pub coord_after-requires : goal.coord_after-requires
coord_after-requires c =
    let e = bounds_of c.args.extents.now in
    subst (λ (at : Coord). Inside e at) (sym c.requires.point) (c.numbering.ensures.point_inside e c.args.row c.requires.below)
