use Rattle.sg_parser.proofs.LawLemmas.{parsed_spelled}
use Rattle.sg_parser.proofs.laws.parsed_is_spelled.Goals as goal

pub returns : goal.returns
returns c = parsed_spelled
