use Rattle.std.proofs.Common.{◌++◌, ◌<◌, [], ◌∷◌, List, ℕ, map, append_assoc, sym, ap, ◌∙◌, subst}
use Rattle.std.specs.Prelude.{All}
use Rattle.std.proofs.lemmas.List.Elements.{All-tail}
use Rattle.sg_coord.specs.declared.coord.Coord.{Coord}
use Rattle.sg_coord.specs.Bounds.{bounds_of, volume}
use Rattle.sg_coord.specs.Coord.{point_at}
use Rattle.sg_flat.proofs.closure.points_at.Goals as goal

pub loop-row-preserved : goal.loop-row-preserved
loop-row-preserved c =
    let all = bounds_of c.args.extents.now in
    let rest = c.next.new.self in
    record {
      points = ap (λ (done : List Coord). done ++ map (point_at all) rest) (c.in_ok-push.ensures.ok ∙ ap (λ (at : Coord). c.loop-row.points ++ at ∷ []) c.coord_at.ensures.value)
          ∙ append_assoc c.loop-row.points (point_at all c.in-Some.row.now ∷ []) (map (point_at all) rest)
          ∙ ap (λ (rows : List ℕ). c.loop-row.points ++ map (point_at all) rows) (sym c.in-Some.ensures.steps)
          ∙ c.loop-row.invariant.points;
      below = All-tail (λ row. row < volume all) c.in-Some.row.now rest (subst (λ (rows : List ℕ). All (λ row. row < volume all) rows) c.in-Some.ensures.steps c.loop-row.invariant.below);
    }
