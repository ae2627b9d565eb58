use Rattle.sg_coord.proofs.OrderLaws as laws
use Rattle.sg_coord.proofs.laws.strict_order.Goals as goal

pub returns-clause-carries_over : goal.returns-clause-carries_over
returns-clause-carries_over c = laws.order_carries_over

pub returns-clause-strict : goal.returns-clause-strict
returns-clause-strict c = laws.order_is_strict

pub returns-clause-total : goal.returns-clause-total
returns-clause-total c = laws.order_is_total
