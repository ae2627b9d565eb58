use Rattle.std.proofs.Common.{◌+◌, ◌-◌, length, sym, ◌∙◌, arith}
use Rattle.sg_ast.specs.declared.token.Sign.TheVariants as s
use Rattle.sg_ast.specs.Items.{kinds}
use Rattle.sg_parser.specs.Front.{after_sign}
use Rattle.sg_parser.specs.ReadStmt as read
use Rattle.sg_parser.proofs.Turns.{repeated_turn}
use Rattle.sg_parser.proofs.statement.+blocks.Goals as goal

pub statements-loop-turn-preserved : goal.statements-loop-turn-preserved
statements-loop-turn-preserved t c =
    let pushed = c.in_ok-push.ensures.ok in
    let turn = repeated_turn (after_sign s.CloseBrace) (read.statement (read.block_at c.args.inner)) (length c.args.tokens.now - c.loop-turn._turn) (length c.args.tokens.now - (c.loop-turn._turn + 1))
    c.loop-turn.found (kinds c.loop-turn.rest.now) c.in_ok-next.next (kinds c.in_ok-next.behind.now) (omega arith) (sym c.in_default.ensures) c.in_ok-next.ensures in
    rw pushed (sym turn ∙ c.loop-turn.invariant)
