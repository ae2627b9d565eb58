use Rattle.sg_names.proofs.LawLemmasFault as laws
use Rattle.sg_names.proofs.laws.faults_decide.Goals as goal

pub returns-clause-accepted : goal.returns-clause-accepted
returns-clause-accepted c = laws.accepted_is_faultless

pub returns-clause-refused : goal.returns-clause-refused
returns-clause-refused c = laws.refused_is_first
