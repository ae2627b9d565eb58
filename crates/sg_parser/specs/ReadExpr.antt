-- Reading an expression. Sg_ast says which tokens a tree has; this goes from tokens to the one tree that has them.
use Rattle.std.specs.Prelude.{ℕ, zero, suc, ◌&&◌, ◌==◌, nat_le, nat_lt, if◌then◌else◌, true, false, Bool, List, [], ◌∷◌, length, Option, Some, None}
use Rattle.sg_words.specs.declared.operators.BinOp.{BinOp}
use Rattle.sg_words.specs.declared.operators.UnOp.{UnOp}
use Rattle.sg_words.specs.declared.operators.UnOp.TheVariants as u
use Rattle.sg_ast.specs.declared.token.Name.{Name}
use Rattle.sg_ast.specs.declared.token.Word.{Word}
use Rattle.sg_ast.specs.declared.token.Word.TheVariants as w
use Rattle.sg_ast.specs.declared.token.Sign.{Sign}
use Rattle.sg_ast.specs.declared.token.Sign.TheVariants as s
use Rattle.sg_ast.specs.declared.token.Token.{Token}
use Rattle.sg_ast.specs.declared.token.Token.TheVariants as t
use Rattle.sg_ast.specs.declared.expr.Callee.{Callee}
use Rattle.sg_ast.specs.declared.expr.Callee.TheVariants as c
use Rattle.sg_ast.specs.declared.expr.Expr.{Expr}
use Rattle.sg_ast.specs.declared.expr.Expr.TheVariants as e
use Rattle.sg_ast.specs.Token.{is_name, is_number}
use Rattle.sg_ast.specs.Expr.{depth, level, op_level, left_needs, right_needs, un_level}
use Rattle.sg_ast.specs.Limits.{max_depth}
use Rattle.sg_ast.specs.Grammar.{arity}
use Rattle.sg_parser.specs.Front.{Reader, after_sign, next_name, next_op, comma_list}
use Rattle.sg_words.specs.Options.{only_if, ◌>>=◌}

-- whether an operator joins what was read so far to what follows, where its level is at least the given one
abbrev pub operator_goes_on : ℕ → Expr → BinOp → Bool
operator_goes_on least left op = nat_le least (op_level op) && nat_le (left_needs op) (level left)

-- one layer of an expression, where a reader of its parts is given, by their least level
module _ (expr : ℕ → Reader Expr) where
  -- the indices of an access, after its `[`
  unfoldable pub read_indices : Reader (List Expr)
  read_indices tokens = do
    index ← comma_list (expr 1) tokens
    rest ← after_sign s.CloseBracket index.1
    Some (index.0, rest)

  -- what a name begins, where what follows a `[` after it is given
  abbrev pub read_name_expr_on : Name → List Token → Option (List Token) → Option (Expr × List Token)
  read_name_expr_on name tokens None = Some (e.Name name, tokens)
  read_name_expr_on name tokens (Some behind) = do
    index ← read_indices behind
    Some (e.Read name index.0, index.1)

  -- what a name begins
  unfoldable pub read_name_expr : Name → Reader Expr
  read_name_expr name tokens = only_if (is_name name) (read_name_expr_on name tokens (after_sign s.OpenBracket tokens))

  -- the arguments of a call, after its word
  unfoldable pub read_call_expr : Callee → Reader Expr
  read_call_expr callee tokens = do
    behind ← after_sign s.OpenParen tokens
    arguments ← comma_list (expr 1) behind
    rest ← after_sign s.CloseParen arguments.1
    only_if (length arguments.0 == arity callee) (Some (e.Call callee arguments.0, rest))

  -- `(NAME[INDEX, ..])`, after the word of a question whether a coordinate is active
  unfoldable pub active_expr : Reader Expr
  active_expr tokens = do
    behind ← after_sign s.OpenParen tokens
    field ← next_name behind
    inside ← after_sign s.OpenBracket field.1
    index ← read_indices inside
    rest ← after_sign s.CloseParen index.1
    Some (e.Active field.0 index.0, rest)

  -- an expression in parentheses, after the `(`
  unfoldable pub paren_expr : Reader Expr
  paren_expr tokens = do
    inner ← expr 1 tokens
    rest ← after_sign s.CloseParen inner.1
    Some (e.Paren inner.0, rest)

  -- the operand of an operator before it
  unfoldable pub unary_expr : UnOp → Reader Expr
  unary_expr op tokens = do
    operand ← expr un_level tokens
    Some (e.Un op operand.0, operand.1)

  -- what a word begins: a truth value, a call, or a question
  abbrev pub word_expr : Word → Reader Expr
  word_expr w.True tokens = Some (e.Truth true, tokens)
  word_expr w.False tokens = Some (e.Truth false, tokens)
  word_expr w.Min tokens = read_call_expr c.Min tokens
  word_expr w.Max tokens = read_call_expr c.Max tokens
  word_expr w.Mulq tokens = read_call_expr c.Mulq tokens
  word_expr w.I32 tokens = read_call_expr c.I32 tokens
  word_expr w.U32 tokens = read_call_expr c.U32 tokens
  word_expr w.Active tokens = active_expr tokens
  word_expr _ tokens = None

  -- what a sign begins
  abbrev pub sign_expr : Sign → Reader Expr
  sign_expr s.OpenParen tokens = paren_expr tokens
  sign_expr s.Minus tokens = unary_expr u.Neg tokens
  sign_expr s.Tilde tokens = unary_expr u.Not tokens
  sign_expr s.Not tokens = unary_expr u.LNot tokens
  sign_expr _ tokens = None

  -- an expression up to its first operator between two operands
  unfoldable pub prefix : Reader Expr
  prefix [] = None
  prefix (t.Number value unsigned ∷ rest) = only_if (is_number value unsigned) (Some (e.Number value unsigned, rest))
  prefix (t.Name name ∷ rest) = read_name_expr name rest
  prefix (t.Word word ∷ rest) = word_expr word rest
  prefix (t.Sign sign ∷ rest) = sign_expr sign rest

  -- what was read so far, joined with the operand after an operator, where the tree does not get too deep
  abbrev pub climb_on : ℕ → ℕ → (Expr → Reader Expr) → Expr → List Token → Option (BinOp × List Token) → Option (Expr × List Token)
  climb_on limit least more left tokens None = Some (left, tokens)
  climb_on limit least more left tokens (Some next) =
      if operator_goes_on least left next.0
      then only_if (nat_lt (depth left) limit) (expr (right_needs next.0) next.1 >>= λ right. more (e.Bin next.0 left right.0) right.1)
      else Some (left, tokens)

  -- all operators of at least a level after what was read so far, in at most so many turns
  unfoldable pub climb : ℕ → ℕ → ℕ → Expr → Reader Expr
  climb limit least zero left tokens = None
  climb limit least (suc turns) left tokens = climb_on limit least (climb limit least turns) left tokens (next_op tokens)

-- an expression of at least a level and at most a depth
unfoldable pub expr_at : ℕ → ℕ → Reader Expr
expr_at zero least tokens = None
expr_at (suc inner) least tokens = do
  first ← prefix (expr_at inner) tokens
  climb (expr_at inner) (suc inner) least (suc inner) first.0 first.1

-- an expression
abbrev pub read_expr : Reader Expr
read_expr = expr_at max_depth 1
