use Rattle.sg_layout.proofs.Lives as laws
use Rattle.sg_layout.proofs.laws.live_grows.Goals as goal

pub returns-clause-grows : goal.returns-clause-grows
returns-clause-grows c = laws.live_grows

pub returns-clause-of_members : goal.returns-clause-of_members
returns-clause-of_members c = laws.live_is_of_members
