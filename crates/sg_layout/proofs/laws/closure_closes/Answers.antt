use Rattle.sg_layout.specs.Axes.{bounds_of_shape}
use Rattle.sg_layout.proofs.Closing as laws
use Rattle.sg_layout.proofs.laws.closure_closes.Goals as goal

pub returns-clause-extends : goal.returns-clause-extends
returns-clause-extends c = λ shape. laws.closure_extends shape c.numbering.ensures.inside_test (c.points_in_order.ensures.inside (bounds_of_shape shape))

pub returns-clause-grows : goal.returns-clause-grows
returns-clause-grows c = λ shape. laws.closure_grows shape

pub returns-clause-closed : goal.returns-clause-closed
returns-clause-closed c = λ shape. laws.closure_is_closed shape c.numbering.ensures.inside_test (c.points_in_order.ensures.inside (bounds_of_shape shape))

pub returns-clause-absorbs : goal.returns-clause-absorbs
returns-clause-absorbs c = λ shape. laws.closure_absorbs shape c.numbering.ensures.inside_test (c.points_in_order.ensures.inside (bounds_of_shape shape))
