use Rattle.sg_explain.proofs.HeadLemmas.{at_statement}
use Rattle.sg_explain.proofs.laws.type_faults_are_at_statements.Goals as goal

pub returns : goal.returns
returns c = at_statement c.faults_decide.ensures.refused
