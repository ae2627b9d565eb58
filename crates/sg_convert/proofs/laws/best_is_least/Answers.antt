use Rattle.sg_convert.proofs.Leasts.{best_is_least}
use Rattle.sg_convert.proofs.laws.best_is_least.Goals as goal

pub returns : goal.returns
returns c = best_is_least
