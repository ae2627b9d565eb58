use Rattle.sg_layout.specs.Axes.{bounds_of_shape}
use Rattle.sg_layout.proofs.Filled as laws
use Rattle.sg_layout.proofs.laws.dense_is_full.Goals as goal

pub returns : goal.returns
returns c = λ shape. laws.dense_is_full shape c.numbering.ensures.inside_test (c.points_in_order.ensures.inside (bounds_of_shape shape))
