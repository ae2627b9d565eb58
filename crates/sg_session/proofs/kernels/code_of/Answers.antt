use Rattle.sg_session.proofs.Coded.{code_is}
use Rattle.sg_session.proofs.kernels.code_of.Goals as goal

pub returns : goal.returns
returns c = code_is c.args.layouts.now.list c.args.kernel.now c.in_ok-lowered.lowered c.simplified_of.result c.in_ok-lowered.ensures c.simplified_of.ensures
