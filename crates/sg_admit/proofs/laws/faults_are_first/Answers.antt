use Rattle.sg_admit.proofs.FirstFaults as proof
use Rattle.sg_admit.proofs.laws.faults_are_first.Goals as goal

pub returns : goal.returns
returns c = proof.faults_are_first
