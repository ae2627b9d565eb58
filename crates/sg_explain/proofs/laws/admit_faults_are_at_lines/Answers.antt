use Rattle.sg_explain.proofs.AdmitLemmas.{at_line}
use Rattle.sg_explain.proofs.laws.admit_faults_are_at_lines.Goals as goal

pub returns : goal.returns
returns c = at_line c.faults_are_first.ensures c.statements_are_numbered.ensures
