use Rattle.sg_admit.proofs.Wants as proof
use Rattle.sg_admit.proofs.laws.domain_is_constant.Goals as goal

pub returns : goal.returns
returns c = proof.domain_is_constant
