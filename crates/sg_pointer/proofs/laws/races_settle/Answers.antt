use Rattle.sg_pointer.proofs.RangeEnds.{ends_settled}
use Rattle.sg_pointer.proofs.laws.races_settle.Goals as goal

pub returns : goal.returns
returns c = ends_settled
