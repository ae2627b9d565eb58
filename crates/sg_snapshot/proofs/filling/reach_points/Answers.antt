use Rattle.std.proofs.Common.{◌≡◌, ◌++◌, ℕ, List, map, sym, ap, ◌∙◌, subst}
use Rattle.std.specs.Prelude.{All}
use Rattle.sg_coord.specs.declared.coord.Coord.{Coord}
use Rattle.sg_coord.specs.Bounds.{Bounds, bounds_of}
use Rattle.sg_coord.specs.Coord.{Inside, point_at}
use Rattle.sg_layout.specs.declared.shape.Shape.{Shape}
use Rattle.sg_layout.specs.Axes.{bounds_of_shape}
use Rattle.sg_layout.specs.Closure.{closure}
use Rattle.sg_layout.specs.Need.{first_full}
use Rattle.sg_flat.specs.State.{opening_layout}
use Rattle.sg_store.specs.StandsFor.{StandsFor}
use Rattle.sg_store.specs.Reaching.{unless_full}
use Rattle.sg_store.proofs.Uses.{opening_fills}
use Rattle.sg_snapshot.proofs.Reaching.{room_left, no_room, opened_is}
use Rattle.sg_snapshot.proofs.Steps.{all_inside}
use Rattle.sg_snapshot.proofs.filling.reach_points.Goals as goal

-- the points that are wanted
wanted_is : (shape layout : Shape) (extents : Bounds) (rows : List ℕ) (points wanted : List Coord) → extents ≡ bounds_of_shape layout → layout ≡ shape → points ≡ map (point_at extents) rows → wanted ≡ points
    → wanted ≡ map (point_at (bounds_of_shape shape)) rows
wanted_is shape layout extents rows points wanted size same are is = is ∙ are ∙ ap (λ (b : Bounds). map (point_at b) rows) (size ∙ ap bounds_of_shape same)

pub reach-requires : goal.reach-requires
reach-requires c =
    let shape = c.args.store.now.shape in
    let rows = c.args.rows.now in
    let is = wanted_is shape c.layout.result.now (bounds_of c.extents-extents.result) rows c.in_ok-points.points c.as_slice.result.now c.extents-extents.ensures.value c.layout.ensures.layout c.in_ok-points.ensures c.as_slice.ensures in
    subst (λ (l : List Coord). All (Inside (bounds_of_shape shape)) l) (sym is) (all_inside c.numbering.ensures.point_inside (bounds_of_shape shape) rows c.requires.below)

pub returns-in-Ok : goal.returns-in-Ok
returns-in-Ok c =
    let shape = c.args.store.now.shape in
    let rows = c.args.rows.now in
    let points = map (point_at (bounds_of_shape shape)) rows in
    let opening = opening_layout shape in
    let is = wanted_is shape c.layout.result.now (bounds_of c.extents-extents.result) rows c.in_ok-points.points c.as_slice.result.now c.extents-extents.ensures.value c.layout.ensures.layout c.in_ok-points.ensures c.as_slice.ensures in
    let same : first_full shape (opening.active ++ c.as_slice.result.now) ≡ first_full shape points =
    ap (λ (l : List Coord). first_full shape (opening.active ++ l)) is ∙ opening_fills shape (c.need_absorbs.ensures.full shape) points in
    record {
      answer = room_left c.args.number (first_full shape points) (sym (ap unless_full same) ∙ c.in-Ok.ensures.answer opening c.requires.opening);
      same_shape = c.in-Ok.ensures.keeps.same_shape;
      reached = subst (StandsFor c.reach.new.self)
          (ap (λ (l : List Coord). record opening { active = closure shape (opening.active ++ l) }) is ∙ opened_is shape points (c.closure_closes.ensures.absorbs shape) c.requires.closed)
          (c.in-Ok.ensures.reached opening c.requires.opening);
    }

pub returns-clause-answer : goal.returns-clause-answer
returns-clause-answer c =
    let shape = c.args.store.now.shape in
    let rows = c.args.rows.now in
    let points = map (point_at (bounds_of_shape shape)) rows in
    let opening = opening_layout shape in
    let is = wanted_is shape c.layout.result.now (bounds_of c.extents-extents.result) rows c.in_ok-points.points c.as_slice.result.now c.extents-extents.ensures.value c.layout.ensures.layout c.in_ok-points.ensures c.as_slice.ensures in
    let same : first_full shape (opening.active ++ c.as_slice.result.now) ≡ first_full shape points =
    ap (λ (l : List Coord). first_full shape (opening.active ++ l)) is ∙ opening_fills shape (c.need_absorbs.ensures.full shape) points in
    let told = c.in-Err-Refused.ensures.answer opening c.requires.opening in
    no_room c.args.number (first_full shape points) c.in-Err-Refused.full (sym (ap unless_full same) ∙ (rw c.in-Err-Refused.field-0-is at told))
