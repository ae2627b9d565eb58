use Rattle.sg_activate.proofs.DescentLevelItems.{level_read}
use Rattle.sg_activate.proofs.descent.seat.DescentPass.level.Goals as goal

pub returns : goal.returns
returns c = level_read c.args.self.now.levels c.as_slice.result.now _ c.args.index c.as_slice.ensures c.requires.there
