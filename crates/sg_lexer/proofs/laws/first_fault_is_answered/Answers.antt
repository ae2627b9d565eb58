use Rattle.sg_lexer.proofs.Walks.{fault_first}
use Rattle.sg_lexer.proofs.Uniqueness.{first_is_answered}
use Rattle.sg_lexer.proofs.laws.first_fault_is_answered.Goals as goal

pub returns : goal.returns
returns c = λ bytes f. (fault_first bytes f, first_is_answered bytes f)
