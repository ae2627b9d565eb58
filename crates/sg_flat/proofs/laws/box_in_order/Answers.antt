use Rattle.sg_flat.proofs.Boxes as boxes
use Rattle.sg_flat.proofs.laws.box_in_order.Goals as goal

pub returns-clause-points : goal.returns-clause-points
returns-clause-points c = boxes.box_is_ranges

pub returns-clause-in_order : goal.returns-clause-in_order
returns-clause-in_order c = boxes.box_is_in_order
