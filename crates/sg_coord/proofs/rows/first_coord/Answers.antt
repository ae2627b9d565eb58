use Rattle.std.proofs.Common.{rules, ◌∙◌}
use Rattle.sg_coord.specs.Bounds.{IsBounds, bounds_of}
use Rattle.sg_coord.proofs.Following.{first_point}
use Rattle.sg_coord.proofs.rows.first_coord.Goals as goal

pub returns : goal.returns
returns c =
    let bounds : IsBounds (bounds_of c.args.extents.now) = search rules in
    c.coord_of.ensures ∙ first_point (bounds_of c.args.extents.now) bounds
