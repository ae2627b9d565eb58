use Rattle.sg_explain.proofs.PlaceLemmas.{shown_spelled}
use Rattle.sg_explain.proofs.laws.shown_is_spelled.Goals as goal

pub returns : goal.returns
returns c = shown_spelled c.answered_are_tokens.ensures c.parsed_is_spelled.ensures c.shown_is_statement.ensures
