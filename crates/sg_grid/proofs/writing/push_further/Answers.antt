use Rattle.sg_grid.proofs.GoingOn.{goes-trans}
use Rattle.sg_grid.proofs.writing.push_further.Goals as goal

pub returns-clause-on : goal.returns-clause-on
returns-clause-on c = goes-trans _ _ _ c.push_text.ensures.on c.push_number.ensures.on

pub returns-in_err-push_text-clause-on : goal.returns-in_err-push_text-clause-on
returns-in_err-push_text-clause-on c = c.push_text.ensures.on
