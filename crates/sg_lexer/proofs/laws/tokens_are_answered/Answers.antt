use Rattle.sg_lexer.proofs.Uniqueness.{only}
use Rattle.sg_lexer.proofs.laws.tokens_are_answered.Goals as goal

pub returns : goal.returns
returns c = only
