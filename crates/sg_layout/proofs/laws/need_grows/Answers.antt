use Rattle.sg_layout.proofs.Needs as laws
use Rattle.sg_layout.proofs.laws.need_grows.Goals as goal

pub returns-clause-grows : goal.returns-clause-grows
returns-clause-grows c = laws.need_grows

pub returns-clause-of_members : goal.returns-clause-of_members
returns-clause-of_members c = laws.need_is_of_members

pub returns-clause-full : goal.returns-clause-full
returns-clause-full c = laws.full_is_of_members
