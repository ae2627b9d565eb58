use Rattle.sg_exec.proofs.HeldWords.{held_from}
use Rattle.sg_exec.proofs.lanes.held_row.held_by.Goals as goal

pub returns-clause-is : goal.returns-clause-is
returns-clause-is c = held_from c.args.kind c.args.part c.args.slot c.requires
