use Rattle.std.proofs.Common.{◌≡◌, ◌+◌, ◌-◌, ◌*◌, length, []}
use Rattle.sg_ast.specs.declared.token.Sign.TheVariants as s
use Rattle.sg_ast.specs.Items.{kinds}
use Rattle.sg_parser.specs.Front.{after_sign, list_to_end_from}
use Rattle.sg_parser.specs.ReadStmt as read
use Rattle.sg_parser.proofs.statement.+blocks.Given as goal

abbrev pub decreases-block : goal.decreases-block
decreases-block l = 4 * l.limit

abbrev pub decreases-statements : goal.decreases-statements
decreases-statements l = 4 * l.inner + 3

abbrev pub decreases-statement : goal.decreases-statement
decreases-statement l = 4 * l.inner + 2

abbrev pub decreases-read_if : goal.decreases-read_if
decreases-read_if l = 4 * l.inner + 1

abbrev pub decreases-read_for : goal.decreases-read_for
decreases-read_for l = 4 * l.inner + 1

-- what is left to read, from what was found, is what the whole reads
abbrev pub invariant-statements-loop-turn : goal.invariant-statements-loop-turn
invariant-statements-loop-turn l =
    list_to_end_from (after_sign s.CloseBrace) (read.statement (read.block_at l.inner)) (l._turn-end - l._turn) l.found (kinds l.rest)
    ≡ list_to_end_from (after_sign s.CloseBrace) (read.statement (read.block_at l.inner)) (length (kinds l.tokens)) [] (kinds l.tokens)
