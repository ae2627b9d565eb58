use Rattle.sg_accum.proofs.Halving.{if_ok_whole}
use Rattle.sg_accum.proofs.seat.AccPass.finish_by_workers.Goals as goal

pub returns : goal.returns
returns g c = if_ok_whole c.args.self c.args.seat c.end_all.result c.end_all.ensures
