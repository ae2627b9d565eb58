use Rattle.sg_flat.proofs.WriteLaws as laws
use Rattle.sg_flat.proofs.laws.last_value_stays.Goals as goal

pub returns : goal.returns
returns c = laws.last_value_stays
