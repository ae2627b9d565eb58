use Rattle.std.proofs.Common.{arith}
use Rattle.sg_lexer.proofs.Numbers.{past_limit}
use Rattle.sg_lexer.proofs.runs.number_as.Goals as goal

pub returns-then-limit-value : goal.returns-then-limit-value
returns-then-limit-value c =
    past_limit c.args.line c.args.unsigned c.args.digits.now c.loop-digit.digit-index c.loop-digit.value c.loop-digit.invariant.value (omega arith) (omega arith)
