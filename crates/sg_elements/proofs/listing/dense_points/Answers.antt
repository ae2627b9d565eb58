use Rattle.std.proofs.Common.{◌≡◌, ap, ◌∙◌}
use Rattle.std.specs.List.{range_with_len}
use Rattle.sg_coord.specs.Bounds.{bounds_of, volume}
use Rattle.sg_layout.specs.Axes.{bounds_of_shape}
use Rattle.sg_layout.specs.Closure.{points}
use Rattle.sg_elements.proofs.AllDense.{dense_active}
use Rattle.sg_elements.proofs.Rows.{then_active}
use Rattle.sg_elements.proofs.listing.dense_points.Goals as goal

pub returns : goal.returns
returns c =
    let shape = c.args.store.now.shape in
    let e = bounds_of c.extents.result in
    let same : e ≡ bounds_of_shape shape = c.extents.ensures.value ∙ ap bounds_of_shape c.layout.ensures.layout in
    then_active c.args.store.now c.every_point.result (range_with_len 0 (volume e)) e c.every_point.ensures (λ flat stands.
    ap points same ∙ dense_active shape flat (c.dense_is_full.ensures shape) c.requires stands.is_flat.closed)
