use Rattle.sg_lexer.proofs.Walks.{found_held}
use Rattle.sg_lexer.proofs.laws.answered_are_few.Goals as goal

pub returns : goal.returns
returns c = λ bytes found e. (found_held bytes found e).few
