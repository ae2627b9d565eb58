use Rattle.std.proofs.Common.{subst, arith}
use Rattle.sg_coord.specs.Bounds.{IsBounds}
use Rattle.sg_layout.specs.declared.shape.Shape.{Shape}
use Rattle.sg_layout.specs.Axes.{bounds_of_shape}
use Rattle.sg_elements.proofs.Rows.{WalkLaws, rows_few, rows_count}
use Rattle.sg_elements.proofs.listing.walk_counts.Goals as goal

pub returns-clause-few : goal.returns-clause-few
returns-clause-few c =
    let store = c.args.store.now in
    let shape = c.layout.ensures.layout in
    let laws : WalkLaws c.args.store.now = record {
      well = c.layout.ensures.well_formed;
      whole = c.paths_tell.ensures.whole store.shape;
      coordinate = c.paths_tell.ensures.coordinate store.shape;
      is_slot = c.paths_tell.ensures.is_slot store.shape;
      is_path = c.paths_tell.ensures.is_path store.shape;
      inside_test = c.numbering.ensures.inside_test;
      point_inside = c.numbering.ensures.point_inside;
      row_of_point = c.numbering.ensures.row_of_point;
      row_below = c.numbering.ensures.row_below;
      point_of_row = c.numbering.ensures.point_of_row;
      tested = c.closure_members.ensures.tested store.shape;
      active = c.cells_are_active.ensures.active store;
    } in
    let good : IsBounds (bounds_of_shape c.args.store.now.shape) = subst (λ (s : Shape). IsBounds (bounds_of_shape s)) shape c.extents-extents.ensures.bounds in
    omega (arith, rows_few store laws, good.volume_most)

pub returns-clause-counts : goal.returns-clause-counts
returns-clause-counts c = λ flat stands.
    let store = c.args.store.now in
    let laws : WalkLaws c.args.store.now = record {
      well = c.layout.ensures.well_formed;
      whole = c.paths_tell.ensures.whole store.shape;
      coordinate = c.paths_tell.ensures.coordinate store.shape;
      is_slot = c.paths_tell.ensures.is_slot store.shape;
      is_path = c.paths_tell.ensures.is_path store.shape;
      inside_test = c.numbering.ensures.inside_test;
      point_inside = c.numbering.ensures.point_inside;
      row_of_point = c.numbering.ensures.row_of_point;
      row_below = c.numbering.ensures.row_below;
      point_of_row = c.numbering.ensures.point_of_row;
      tested = c.closure_members.ensures.tested store.shape;
      active = c.cells_are_active.ensures.active store;
    } in
    rows_count store laws flat stands
