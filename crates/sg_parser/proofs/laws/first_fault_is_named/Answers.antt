use Rattle.sg_parser.proofs.LawLemmas.{fault_named}
use Rattle.sg_parser.proofs.laws.first_fault_is_named.Goals as goal

pub returns : goal.returns
returns c = fault_named
