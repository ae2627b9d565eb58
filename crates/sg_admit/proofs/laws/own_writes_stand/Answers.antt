use Rattle.sg_admit.proofs.OwnWrites as proof
use Rattle.sg_admit.proofs.laws.own_writes_stand.Goals as goal

pub returns : goal.returns
returns c = proof.own_writes_stand
