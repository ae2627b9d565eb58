use Rattle.sg_layout.specs.Axes.{bounds_of_shape}
use Rattle.sg_layout.proofs.Lives as laws
use Rattle.sg_layout.proofs.laws.live_absorbs.Goals as goal

pub returns-clause-closure : goal.returns-clause-closure
returns-clause-closure c = laws.closure_is_live

pub returns-clause-absorbs : goal.returns-clause-absorbs
returns-clause-absorbs c = λ shape. laws.live_absorbs shape c.numbering.ensures.inside_test (c.points_in_order.ensures.inside (bounds_of_shape shape))
