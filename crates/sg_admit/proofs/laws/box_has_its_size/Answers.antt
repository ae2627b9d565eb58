use Rattle.sg_admit.proofs.BoxSizes as proof
use Rattle.sg_admit.proofs.laws.box_has_its_size.Goals as goal

pub returns : goal.returns
returns c = proof.box_has_its_size
