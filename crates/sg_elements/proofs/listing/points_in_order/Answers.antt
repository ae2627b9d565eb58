use Rattle.std.proofs.Common.{◌≡◌, ◌<◌, ℕ, List, map, ap, ◌∙◌, sym, subst, arith}
use Rattle.std.specs.List.{All}
use Rattle.sg_coord.specs.Bounds.{Bounds, IsBounds, bounds_of, volume}
use Rattle.sg_coord.specs.Coord.{point_at}
use Rattle.sg_layout.specs.declared.shape.Shape.{Shape}
use Rattle.sg_layout.specs.Axes.{bounds_of_shape}
use Rattle.sg_elements.proofs.Marks.{ordered_below}
use Rattle.sg_elements.proofs.Rows.{WalkLaws, rows_below, rows_distinct, rows_are_active, then_active}
use Rattle.sg_elements.proofs.listing.points_in_order.Goals as goal

pub in_order-requires : goal.in_order-requires
in_order-requires c =
    let store = c.args.store.now in
    let shape = c.layout.ensures.layout in
    let laws : WalkLaws c.args.store.now = record {
      well = c.layout.ensures.well_formed;
      whole = c.paths_tell.ensures.whole store.shape;
      coordinate = c.paths_tell.ensures.coordinate store.shape;
      is_slot = c.paths_tell.ensures.is_slot store.shape;
      is_path = c.paths_tell.ensures.is_path store.shape;
      inside_test = c.numbering.ensures.inside_test;
      point_inside = c.numbering.ensures.point_inside;
      row_of_point = c.numbering.ensures.row_of_point;
      row_below = c.numbering.ensures.row_below;
      point_of_row = c.numbering.ensures.point_of_row;
      tested = c.closure_members.ensures.tested store.shape;
      active = c.cells_are_active.ensures.active store;
    } in
    let bounds : bounds_of_shape c.args.store.now.shape ≡ bounds_of c.extents-extents.result = sym (c.extents-extents.ensures.value ∙ ap bounds_of_shape shape) in
    let size : c.volume.result ≡ volume (bounds_of_shape c.args.store.now.shape) = c.volume.ensures.value ∙ ap volume (sym bounds) in
    let good : IsBounds (bounds_of_shape c.args.store.now.shape) = subst (λ (s : Shape). IsBounds (bounds_of_shape s)) shape c.extents-extents.ensures.bounds in
    record {
      most = omega (arith, size, good.volume_most);
      below = subst (λ (n : ℕ). All (λ row. row < n) c.args.rows.items) (sym size) (rows_below store laws c.args.rows.items c.requires);
      distinct = rows_distinct store laws c.args.rows.items c.requires;
    }

pub points_of-requires : goal.points_of-requires
points_of-requires c =
    let store = c.args.store.now in
    let shape = c.layout.ensures.layout in
    let laws : WalkLaws c.args.store.now = record {
      well = c.layout.ensures.well_formed;
      whole = c.paths_tell.ensures.whole store.shape;
      coordinate = c.paths_tell.ensures.coordinate store.shape;
      is_slot = c.paths_tell.ensures.is_slot store.shape;
      is_path = c.paths_tell.ensures.is_path store.shape;
      inside_test = c.numbering.ensures.inside_test;
      point_inside = c.numbering.ensures.point_inside;
      row_of_point = c.numbering.ensures.row_of_point;
      row_below = c.numbering.ensures.row_below;
      point_of_row = c.numbering.ensures.point_of_row;
      tested = c.closure_members.ensures.tested store.shape;
      active = c.cells_are_active.ensures.active store;
    } in
    let ordered = c.in_ok-ordered.ordered.items in
    let bounds : bounds_of_shape c.args.store.now.shape ≡ bounds_of c.extents-extents.result = sym (c.extents-extents.ensures.value ∙ ap bounds_of_shape shape) in
    let P : List ℕ → Type 0 = λ rows. All (λ row. row < volume (bounds_of c.extents-extents.result)) rows in
    let Q : Bounds → Type 0 = λ e. All (λ row. row < volume e) ordered in
    subst P (sym c.deref.ensures.value) (subst Q bounds (ordered_below _ c.args.rows.items ordered (rows_below store laws c.args.rows.items c.requires) c.in_ok-ordered.ensures))

pub returns : goal.returns
returns c =
    let store = c.args.store.now in
    let shape = c.layout.ensures.layout in
    let laws : WalkLaws c.args.store.now = record {
      well = c.layout.ensures.well_formed;
      whole = c.paths_tell.ensures.whole store.shape;
      coordinate = c.paths_tell.ensures.coordinate store.shape;
      is_slot = c.paths_tell.ensures.is_slot store.shape;
      is_path = c.paths_tell.ensures.is_path store.shape;
      inside_test = c.numbering.ensures.inside_test;
      point_inside = c.numbering.ensures.point_inside;
      row_of_point = c.numbering.ensures.row_of_point;
      row_below = c.numbering.ensures.row_below;
      point_of_row = c.numbering.ensures.point_of_row;
      tested = c.closure_members.ensures.tested store.shape;
      active = c.cells_are_active.ensures.active store;
    } in
    let ordered = c.in_ok-ordered.ordered.items in
    let bounds : bounds_of_shape c.args.store.now.shape ≡ bounds_of c.extents-extents.result = sym (c.extents-extents.ensures.value ∙ ap bounds_of_shape shape) in
    then_active store c.points_of.result c.deref.result.now (bounds_of c.extents-extents.result) c.points_of.ensures (λ flat stands.
    ap (map (point_at (bounds_of c.extents-extents.result))) c.deref.ensures.value
    ∙ ap (λ (e : Bounds). map (point_at e) ordered) (sym bounds)
    ∙ rows_are_active store laws c.args.rows.items ordered c.requires c.in_ok-ordered.ensures flat stands)
