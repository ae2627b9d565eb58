use Rattle.sg_flat.proofs.Wanting as wanting
use Rattle.sg_flat.proofs.laws.meaning_is_of_wants.Goals as goal

pub returns : goal.returns
returns c = wanting.meaning_is_of_wants c.need_grows.ensures.full c.closure_members.ensures.of_members
