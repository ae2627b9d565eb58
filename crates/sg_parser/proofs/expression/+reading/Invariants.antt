use Rattle.std.proofs.Common.{◌≡◌, ◌+◌, ◌≤◌, map, ◌-◌, ◌*◌, length, []}
use Rattle.sg_ast.specs.Expr as spell
use Rattle.sg_ast.specs.Items.{kinds}
use Rattle.sg_parser.specs.Front.{comma_list_from}
use Rattle.sg_parser.specs.ReadExpr as read
use Rattle.sg_parser.proofs.expression.+reading.Given as goal

abbrev pub decreases-expr : goal.decreases-expr
decreases-expr l = 16 * l.limit

abbrev pub decreases-items : goal.decreases-items
decreases-items l = 16 * l.inner + 1

abbrev pub decreases-read_indices : goal.decreases-read_indices
decreases-read_indices l = 16 * l.inner + 2

abbrev pub decreases-read_call_expr : goal.decreases-read_call_expr
decreases-read_call_expr l = 16 * l.inner + 2

abbrev pub decreases-active_expr : goal.decreases-active_expr
decreases-active_expr l = 16 * l.inner + 3

abbrev pub decreases-paren_expr : goal.decreases-paren_expr
decreases-paren_expr l = 16 * l.inner + 1

abbrev pub decreases-unary_expr : goal.decreases-unary_expr
decreases-unary_expr l = 16 * l.inner + 1

abbrev pub decreases-read_name_expr : goal.decreases-read_name_expr
decreases-read_name_expr l = 16 * l.inner + 3

abbrev pub decreases-word_expr : goal.decreases-word_expr
decreases-word_expr l = 16 * l.inner + 4

abbrev pub decreases-sign_expr : goal.decreases-sign_expr
decreases-sign_expr l = 16 * l.inner + 2

abbrev pub decreases-prefix : goal.decreases-prefix
decreases-prefix l = 16 * l.inner + 5

abbrev pub decreases-climb : goal.decreases-climb
decreases-climb l = 16 * l.inner + 1

-- what is left to read, from what was found, is what the whole reads
abbrev pub invariant-items-loop-turn : goal.invariant-items-loop-turn
invariant-items-loop-turn l = record {
  value : comma_list_from (read.expr_at l.inner 1) (l._turn-end - l._turn) l.trees (kinds l.rest) ≡ comma_list_from (read.expr_at l.inner 1) (length (kinds l.tokens)) [] (kinds l.tokens);
  depth : l.depth ≡ spell.largest (map spell.depth l.trees);
  within : l.depth ≤ l.inner;
}

-- what the operators after what was read so far make of it is what they make of the first operand
abbrev pub invariant-climb-loop-turn : goal.invariant-climb-loop-turn
invariant-climb-loop-turn l = record {
  value : read.climb (read.expr_at l.inner) (l.inner + 1) l.least (l._turn-end - l._turn) l.tree (kinds l.rest)
      ≡ read.climb (read.expr_at l.inner) (l.inner + 1) l.least (l.inner + 1) l.fn.first.tree (kinds l.fn.first.rest.now);
  depth : l.depth ≡ spell.depth l.tree;
  within : l.depth ≤ l.inner + 1;
}
