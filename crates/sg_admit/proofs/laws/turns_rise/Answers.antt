use Rattle.sg_admit.proofs.Rising as proof
use Rattle.sg_admit.proofs.laws.turns_rise.Goals as goal

pub returns : goal.returns
returns c = proof.turns_rise c.closure_members.ensures.in_order c.box_in_order.ensures.in_order
