use Rattle.sg_types.proofs.VarNumbers.{variables_are_numbered}
use Rattle.sg_types.proofs.laws.variables_are_numbered.Goals as goal

pub returns : goal.returns
returns c = variables_are_numbered
