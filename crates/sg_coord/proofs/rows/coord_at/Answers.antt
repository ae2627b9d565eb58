use Rattle.std.proofs.Common.{◌%◌, sym, subst, rules, ◌∙◌, ap}
use Rattle.sg_coord.specs.declared.coord.Coord.{Coord}
use Rattle.sg_coord.specs.Bounds.{IsBounds, bounds_of}
use Rattle.sg_coord.specs.Coord.{Inside, row_of}
use Rattle.sg_coord.proofs.RowLaws.{cast_point, cast_point_is, point_inside, row_of_point}
use Rattle.sg_coord.proofs.rows.coord_at.Goals as goal

pub returns-clause-inside : goal.returns-clause-inside
unfolding cast_point
returns-clause-inside c =
    let e = bounds_of c.args.extents.now in
    let bounds : IsBounds (bounds_of c.args.extents.now) = search rules in
    subst (λ (x : Coord). Inside (bounds_of c.args.extents.now) x)
    (sym (cast_point_is e c.args.k _ _ _ c.quotient.ensures (c.remainder.ensures ∙ ap (λ n. n % e.b) c.quotient-2.ensures) c.remainder-2.ensures bounds c.requires))
    (point_inside e c.args.k c.requires)

pub returns-clause-inverse : goal.returns-clause-inverse
unfolding cast_point
returns-clause-inverse c =
    let e = bounds_of c.args.extents.now in
    let bounds : IsBounds (bounds_of c.args.extents.now) = search rules in
    ap (row_of e) (cast_point_is e c.args.k _ _ _ c.quotient.ensures (c.remainder.ensures ∙ ap (λ n. n % e.b) c.quotient-2.ensures) c.remainder-2.ensures bounds c.requires)
    ∙ row_of_point e c.args.k c.requires
