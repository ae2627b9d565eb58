use Rattle.sg_mask.proofs.RangeSteps.{mark_keeps}
use Rattle.sg_mask.proofs.laws.steps_keep_races.Goals as goal

pub returns : goal.returns
returns c = mark_keeps
