use Rattle.sg_flat.proofs.Neighbours.{point_laws, place_is_found}
use Rattle.sg_flat.proofs.blocks.Blocks.has_place.Goals as goal

pub returns : goal.returns
returns c =
    let laws = c.numbering.ensures in
    let there = place_is_found (point_laws laws.inside_test laws.point_inside laws.point_of_row laws.row_of_point laws.row_below) c.args.self.now c.args.rows.now c.args.at c.args.place c.row_at.result
    c.requires.below c.row_at.ensures.below c.row_at.ensures.block c.row_at.ensures.place in
    (λ is. there.0 (c.is_there.ensures.0 is), λ has. c.is_there.ensures.1 (there.1 has))
