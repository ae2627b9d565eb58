use Rattle.std.proofs.Common.{◌≡◌, ap, ◌∙◌}
use Rattle.sg_coord.specs.Bounds.{bounds_of, volume}
use Rattle.sg_layout.specs.Axes.{bounds_of_shape}
use Rattle.sg_elements.proofs.AllDense.{dense_count}
use Rattle.sg_elements.proofs.listing.dense_count.Goals as goal

pub returns : goal.returns
returns c = λ flat stands.
    let shape = c.args.store.now.shape in
    let e = bounds_of c.extents-extents.result in
    let same : e ≡ bounds_of_shape shape = c.extents-extents.ensures.value ∙ ap bounds_of_shape c.layout.ensures.layout in
    c.volume.ensures.value ∙ ap volume same ∙ dense_count shape flat (c.dense_is_full.ensures shape) c.requires stands.is_flat.closed
