use Rattle.sg_accum.proofs.Halving.{if_ok_whole}
use Rattle.sg_accum.proofs.seat.AccPass.finish.Goals as goal

pub returns : goal.returns
returns c = if_ok_whole c.args.self c.args.seat c.ended_here.result c.ended_here.ensures
