use Rattle.sg_explain.proofs.PartLemmas.{parts-are_statements}
use Rattle.sg_explain.proofs.laws.parts_are_statements.Goals as goal

pub returns : goal.returns
returns c = parts-are_statements
