use Rattle.std.proofs.Common.{arith}
use Rattle.sg_parser.proofs.ParsedLemmas.{counted_is, spanned_shorter}
use Rattle.sg_parser.proofs.program.front_item.Goals as goal

pub overflow_sub-result : goal.overflow_sub-result
overflow_sub-result c = let shorter = spanned_shorter c.args.tokens.now c.in_ok-item.item c.in_ok-item.rest.now c.in_ok-item.ensures in omega arith

pub returns-clause-value : goal.returns-clause-value
returns-clause-value c = counted_is c.args.tokens.now c.in_ok-item.item c.in_ok-item.rest.now c.in_ok-item.ensures

pub returns-clause-some : goal.returns-clause-some
returns-clause-some c = let shorter = spanned_shorter c.args.tokens.now c.in_ok-item.item c.in_ok-item.rest.now c.in_ok-item.ensures in omega arith
