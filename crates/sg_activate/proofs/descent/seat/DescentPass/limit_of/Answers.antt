use Rattle.sg_activate.proofs.DescentPasses.{limit_read}
use Rattle.sg_activate.proofs.descent.seat.DescentPass.limit_of.Goals as goal

pub returns : goal.returns
returns c = limit_read c.args.self.now c.as_slice.result.now _ c.args.node c.as_slice.ensures c.requires.node
