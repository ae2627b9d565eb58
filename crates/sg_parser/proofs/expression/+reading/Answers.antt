use Rattle.std.proofs.Common.{◌≡◌, ◌+◌, ◌-◌, length, sym, ◌∙◌, arith, true}
use Rattle.sg_ast.proofs.Uses.{depth-Bin}
use Rattle.sg_ast.specs.Items.{kinds}
use Rattle.sg_parser.specs.ReadExpr as read
use Rattle.sg_parser.proofs.Turns.{climb_turn, listed_turn, deepest-push}
use Rattle.sg_parser.proofs.expression.+reading.Goals as goal

pub climb-loop-turn-preserved : goal.climb-loop-turn-preserved
climb-loop-turn-preserved t c =
    let made = c.in_ok-tree.ensures in
    let below = c.in_ok-right.ensures.within in
    let deep = c.in_ok-right.ensures.depth in
    let on : read.operator_goes_on c.args.least c.loop-turn.tree c.in-Some.op ≡ true = cc in
    let turn = climb_turn (read.expr_at c.args.inner) (c.args.inner + 1) c.args.least (c.args.inner + 1 - c.loop-turn._turn) (c.args.inner + 1 - (c.loop-turn._turn + 1))
    c.loop-turn.tree c.in_ok-right.right.tree c.in-Some.op (kinds c.loop-turn.rest.now) (kinds c.in-Some.behind.now) (kinds c.in_ok-right.right.rest.now)
    (omega arith) (sym c.in-Some.ensures) on (omega arith) (rw c.op_level.ensures.value at c.in_ok-right.ensures.value) in
    record {
      value = rw made (sym turn ∙ c.loop-turn.invariant.value);
      depth = rw made (omega (arith, depth-Bin c.in-Some.op c.loop-turn.tree c.in_ok-right.right.tree));
      within = omega arith;
    }

pub items-returns-in_default-clause-depth : goal.items-returns-in_default-clause-depth
items-returns-in_default-clause-depth t c =
    let pushed = c.in_ok-push.ensures.ok in
    let deep = c.in_ok-next.ensures.depth in
    rw pushed (omega (arith, deepest-push c.loop-turn.trees c.in_ok-next.next.tree))

pub items-loop-turn-preserved : goal.items-loop-turn-preserved
items-loop-turn-preserved t c =
    let pushed = c.in_ok-push.ensures.ok in
    let deep = c.in_ok-next.ensures.depth in
    let below = c.in_ok-next.ensures.within in
    let turn = listed_turn (read.expr_at c.args.inner 1) (length c.args.tokens.now - c.loop-turn._turn) (length c.args.tokens.now - (c.loop-turn._turn + 1))
    c.loop-turn.trees (kinds c.loop-turn.rest.now) c.in_ok-next.next.tree (kinds c.in_ok-next.next.rest.now) (kinds c.in-Some.behind.now)
    (omega arith) c.in_ok-next.ensures.value (sym c.in-Some.ensures) in
    record {
      value = rw pushed (sym turn ∙ c.loop-turn.invariant.value);
      depth = rw pushed (omega (arith, deepest-push c.loop-turn.trees c.in_ok-next.next.tree));
      within = omega arith;
    }
