use Rattle.sg_parser.proofs.LawLemmas.{tree_one}
use Rattle.sg_parser.proofs.laws.tree_is_one.Goals as goal

pub returns : goal.returns
returns c = tree_one
