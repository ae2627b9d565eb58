use Rattle.std.proofs.Common.{sym, ap, ◌∙◌}
use Rattle.sg_layout.specs.Axes.{bounds_of_shape}
use Rattle.sg_layout.specs.Closure.{points}
use Rattle.sg_exec.proofs.workers.points.every_point.Goals as goal

pub returns : goal.returns
returns c = λ flat stands.
    c.within.ensures ∙ c.region_within.ensures.points ∙ ap points (c.extents.ensures.value ∙ ap bounds_of_shape c.layout.ensures.layout)
    ∙ sym (c.dense_is_full.ensures c.args.store.now.shape c.requires flat.active).0 ∙ sym stands.is_flat.closed
