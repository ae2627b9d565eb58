use Rattle.sg_layout.specs.Axes.{bounds_of_shape}
use Rattle.sg_layout.proofs.Closing as laws
use Rattle.sg_layout.proofs.laws.closure_members.Goals as goal

pub returns-clause-tested : goal.returns-clause-tested
returns-clause-tested c = λ shape. laws.closure_is_tested shape c.numbering.ensures.inside_test (c.points_in_order.ensures.inside (bounds_of_shape shape))

pub returns-clause-inside : goal.returns-clause-inside
returns-clause-inside c = λ shape. laws.closure_is_inside shape (c.points_in_order.ensures.inside (bounds_of_shape shape))

pub returns-clause-in_order : goal.returns-clause-in_order
returns-clause-in_order c = λ shape. laws.closure_is_in_order shape (c.points_in_order.ensures.in_order (bounds_of_shape shape))

pub returns-clause-of_members : goal.returns-clause-of_members
returns-clause-of_members c = λ shape. laws.closure_is_of_members shape
