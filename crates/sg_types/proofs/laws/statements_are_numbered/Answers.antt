use Rattle.sg_types.proofs.Numbered.{statements_are_numbered}
use Rattle.sg_types.proofs.laws.statements_are_numbered.Goals as goal

pub returns : goal.returns
returns c = statements_are_numbered
