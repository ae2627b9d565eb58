use Rattle.std.proofs.Common.{[], ◌∷◌, ◌++◌, ap, ◌∙◌}
use Rattle.sg_coord.specs.declared.coord.Coord.{Coord}
use Rattle.sg_activate.proofs.CoordsFound.{coords_more}
use Rattle.sg_activate.proofs.few.add_coords.Goals as goal

pub loop-found-preserved : goal.loop-found-preserved
loop-found-preserved c =
    coords_more c.args.axes c.args.coords.now c.loop-found.coords c.push.new.self c.args.list.now c.loop-found.found-index _
    c.loop-found-test.true c.loop-found.invariant (c.in_ok-push.ensures.ok ∙ ap (λ (at : Coord). c.loop-found.coords ++ at ∷ []) c.coord_found.ensures)
