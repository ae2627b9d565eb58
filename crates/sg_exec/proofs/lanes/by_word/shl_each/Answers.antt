use Rattle.sg_exec.proofs.EachLane.{masked_below, shifted}
use Rattle.sg_exec.proofs.lanes.by_word.shl_each.Goals as goal

pub overflow_shl-result : goal.overflow_shl-result
overflow_shl-result c = masked_below c.args.a c.args.b 32 c.fits-b.0

pub returns : goal.returns
returns c = shifted c.args.ty c.args.a c.args.b 32 c.fits-b.0
