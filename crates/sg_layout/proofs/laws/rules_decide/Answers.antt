use Rattle.sg_layout.proofs.Ruling as laws
use Rattle.sg_layout.proofs.laws.rules_decide.Goals as goal

pub returns-clause-accepted : goal.returns-clause-accepted
returns-clause-accepted c = laws.accepted_keeps_rules

pub returns-clause-refused : goal.returns-clause-refused
returns-clause-refused c = laws.fault_is_first
