use Rattle.sg_session.proofs.Coded.{lowered_is}
use Rattle.sg_session.proofs.kernels.lowered_of.Goals as goal

pub returns : goal.returns
returns c =
    lowered_is c.domain_is_constant.ensures c.own_writes_stand.ensures c.args.layouts.now.list c.args.kernel.now c.lower.result c.requires
    c.lower.ensures.domain c.lower.ensures.writes c.lower.ensures.wants c.lower.ensures.well_typed c.lower.ensures.apt c.lower.ensures.points
