use Rattle.sg_flat.proofs.WriteLaws as laws
use Rattle.sg_flat.proofs.laws.contributions_fold.Goals as goal

pub returns : goal.returns
returns c = laws.contributions_fold
