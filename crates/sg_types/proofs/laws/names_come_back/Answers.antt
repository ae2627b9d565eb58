use Rattle.sg_types.proofs.NamesKept.{names_come_back}
use Rattle.sg_types.proofs.laws.names_come_back.Goals as goal

pub returns : goal.returns
returns c = names_come_back
