use Rattle.sg_grid.proofs.GoingOn.{goes-pushed}
use Rattle.sg_grid.proofs.writing.push_text.Goals as goal

pub returns-clause-on : goal.returns-clause-on
returns-clause-on c = goes-pushed c.push_str.result _ _ _ c.push_str.ensures.bytes
