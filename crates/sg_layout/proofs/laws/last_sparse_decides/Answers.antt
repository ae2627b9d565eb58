use Rattle.sg_layout.proofs.Deciding as laws
use Rattle.sg_layout.proofs.laws.last_sparse_decides.Goals as goal

pub returns-clause-none : goal.returns-clause-none
returns-clause-none c = laws.none_decides

pub returns-clause-last : goal.returns-clause-last
returns-clause-last c = laws.last_decides
