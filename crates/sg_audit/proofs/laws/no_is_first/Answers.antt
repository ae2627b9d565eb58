use Rattle.sg_audit.proofs.Verdicts.{no_is_first}
use Rattle.sg_audit.proofs.laws.no_is_first.Goals as goal

pub returns : goal.returns
returns c = no_is_first
