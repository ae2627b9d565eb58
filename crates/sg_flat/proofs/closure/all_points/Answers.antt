use Rattle.std.proofs.Common.{◌++◌, [], ◌∷◌, List, map, zero-add, sym, ap, ◌∙◌}
use Rattle.std.specs.List.{range_with_len}
use Rattle.std.proofs.lemmas.List.FromFn.{map-range_with_len_more}
use Rattle.sg_coord.specs.declared.coord.Coord.{Coord}
use Rattle.sg_coord.specs.Bounds.{bounds_of}
use Rattle.sg_coord.specs.Coord.{point_at}
use Rattle.sg_flat.proofs.closure.all_points.Goals as goal

pub loop-row-preserved : goal.loop-row-preserved
loop-row-preserved c =
    let point = point_at (bounds_of c.args.extents.now) in
    c.in_ok-push.ensures.ok
    ∙ ap (λ (active : List Coord). active ++ c.coord_at.result ∷ []) c.loop-row.invariant
    ∙ ap (λ (at : Coord). map point (range_with_len 0 c.loop-row.row) ++ at ∷ []) c.coord_at.ensures.value
    ∙ sym (map-range_with_len_more point 0 c.loop-row.row c.loop-row.row (zero-add c.loop-row.row))
