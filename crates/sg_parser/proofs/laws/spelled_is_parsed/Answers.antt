use Rattle.sg_parser.proofs.LawLemmas.{spelled_parsed}
use Rattle.sg_parser.proofs.laws.spelled_is_parsed.Goals as goal

pub returns : goal.returns
returns c = spelled_parsed
