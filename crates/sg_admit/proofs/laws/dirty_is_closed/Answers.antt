use Rattle.sg_admit.proofs.Dirty as proof
use Rattle.sg_admit.proofs.laws.dirty_is_closed.Goals as goal

pub returns : goal.returns
returns c = proof.dirty_is_closed
