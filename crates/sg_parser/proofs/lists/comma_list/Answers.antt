use Rattle.std.proofs.Common.{◌+◌, ◌-◌, length, sym, ◌∙◌, arith}
use Rattle.sg_ast.specs.Items.{kinds}
use Rattle.sg_parser.proofs.Turns.{listed_turn}
use Rattle.sg_parser.proofs.lists.comma_list.Goals as goal

pub loop-turn-preserved : goal.loop-turn-preserved
loop-turn-preserved g c =
    let pushed = c.in_ok-push.ensures.ok in
    let turn = listed_turn g.T.Front.reader (length c.args.tokens.now - c.loop-turn._turn) (length c.args.tokens.now - (c.loop-turn._turn + 1))
    c.loop-turn.found (kinds c.loop-turn.rest.now) c.in_ok-next.next (kinds c.in_ok-next.end.now) (kinds c.in-Some.behind.now)
    (omega arith) c.in_ok-next.ensures (sym c.in-Some.ensures) in
    rw pushed (sym turn ∙ c.loop-turn.invariant)
