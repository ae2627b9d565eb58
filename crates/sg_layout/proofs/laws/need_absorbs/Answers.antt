use Rattle.sg_layout.specs.Axes.{bounds_of_shape}
use Rattle.sg_layout.proofs.Needs as laws
use Rattle.sg_layout.proofs.laws.need_absorbs.Goals as goal

pub returns-clause-absorbs : goal.returns-clause-absorbs
returns-clause-absorbs c = λ shape. laws.need_absorbs shape c.numbering.ensures.inside_test (c.points_in_order.ensures.inside (bounds_of_shape shape))

pub returns-clause-full : goal.returns-clause-full
returns-clause-full c = λ shape. laws.full_absorbs shape c.numbering.ensures.inside_test (c.points_in_order.ensures.inside (bounds_of_shape shape))
