use Rattle.sg_flat.proofs.Wanting as wanting
use Rattle.sg_flat.proofs.laws.outside_is_wanted.Goals as goal

pub returns : goal.returns
returns c = wanting.outside_is_wanted
