use Rattle.sg_pointer.proofs.RangeSteps.{look_keeps, try_keeps, draw_keeps}
use Rattle.sg_pointer.proofs.laws.steps_keep_races.Goals as goal

pub returns-clause-look : goal.returns-clause-look
returns-clause-look c = look_keeps

pub returns-clause-exchange : goal.returns-clause-exchange
returns-clause-exchange c = try_keeps

pub returns-clause-draw : goal.returns-clause-draw
returns-clause-draw c = draw_keeps
