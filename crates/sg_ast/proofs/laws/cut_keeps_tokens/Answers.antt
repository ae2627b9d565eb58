use Rattle.sg_ast.proofs.Cuts.{joined-cut_by}
use Rattle.sg_ast.proofs.laws.cut_keeps_tokens.Goals as goal

pub returns : goal.returns
returns c = λ tokens. joined-cut_by 0 tokens
