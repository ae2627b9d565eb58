-- The points inside extents, from the laws of row numbers.
use Rattle.std.proofs.Common.{◌≡◌, ◌<◌, get_or, sym, ◌∙◌, subst, arith}
use Rattle.std.specs.List.{Contains}
use Rattle.std.proofs.lemmas.List.FromFn.{length-map-range_with_len, get_or-map-range_with_len}
use Rattle.sg_coord.specs.declared.coord.Coord.{Coord}
use Rattle.sg_coord.specs.Bounds.{Bounds, volume}
use Rattle.sg_coord.specs.Coord.{Inside, row_of, point_at, ComesBefore}
use Rattle.sg_coord.specs.Laws.{PointInside, RowBelow, PointOfRow, PointsRise}
use Rattle.sg_layout.specs.Closure.{points}
use Rattle.sg_layout.specs.ClosureLaws.{PointsAreInside, PointsFillVolume, PointsAreNumbered, PointsAreInOrder}

pub points_fill_volume : (e : Bounds) → PointsFillVolume e
points_fill_volume e = length-map-range_with_len (point_at e) 0 (volume e)

pub points_are_numbered : (e : Bounds) → PointsAreNumbered e
points_are_numbered e k d below = get_or-map-range_with_len (point_at e) 0 (volume e) k k d below (omega arith)

point_is_inside : (e : Bounds) → PointInside → (at : Coord) → Contains (points e) at → Inside e at
point_is_inside e point_inside at found =
    let below : found.0 < volume e = omega (arith, points_fill_volume e, found.1) in
    let same : point_at e found.0 ≡ at = sym (points_are_numbered e found.0 at below) ∙ found.2 in
    subst (λ x. Inside e x) same (point_inside e found.0 below)

inside_is_point : (e : Bounds) → RowBelow → PointOfRow → (at : Coord) → Inside e at → Contains (points e) at
inside_is_point e row_below point_of_row at inside =
    let below = row_below e at inside in
    (row_of e at, omega (arith, points_fill_volume e, below), points_are_numbered e (row_of e at) at below ∙ point_of_row e at inside)

pub points_are_inside : (e : Bounds) → PointInside → RowBelow → PointOfRow → PointsAreInside e
points_are_inside e point_inside row_below point_of_row at =
    (point_is_inside e point_inside at, inside_is_point e row_below point_of_row at)

pub points_are_in_order : (e : Bounds) → PointsRise → PointsAreInOrder e
points_are_in_order e points_rise i j d before below =
    let last : j < volume e = omega (arith, points_fill_volume e) in
    let first : i < volume e = omega arith in
    let rise : ComesBefore (point_at e i) (point_at e j) = points_rise e i j before last in
    let to : ComesBefore (point_at e i) (get_or (points e) j d) = subst (λ x. ComesBefore (point_at e i) x) (sym (points_are_numbered e j d last)) rise in
    subst (λ x. ComesBefore x (get_or (points e) j d)) (sym (points_are_numbered e i d first)) to
