use Rattle.sg_explain.proofs.ExplainLemmas.{shows}
use Rattle.sg_explain.proofs.laws.refusals_are_shown.Goals as goal

pub returns : goal.returns
returns c = shows (record {
  spelled = c.shown_is_spelled.ensures;
  types = c.type_faults_are_at_statements.ensures;
  admission = c.admit_faults_are_at_lines.ensures;
})
