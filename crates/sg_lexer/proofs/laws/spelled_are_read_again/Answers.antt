use Rattle.sg_lexer.proofs.Rereading.{reads_again}
use Rattle.sg_lexer.proofs.laws.spelled_are_read_again.Goals as goal

pub returns : goal.returns
returns c = reads_again
