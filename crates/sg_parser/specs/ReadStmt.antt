-- Reading a statement and a block.
use Rattle.std.specs.Prelude.{ℕ, zero, suc, List, ◌∷◌, Option, Some, None}
use Rattle.sg_words.specs.declared.operators.AccOp.TheVariants as acc
use Rattle.sg_ast.specs.declared.token.Name.{Name}
use Rattle.sg_ast.specs.declared.token.Word.{Word}
use Rattle.sg_ast.specs.declared.token.Word.TheVariants as w
use Rattle.sg_ast.specs.declared.token.Sign.TheVariants as s
use Rattle.sg_ast.specs.declared.token.Token.{Token}
use Rattle.sg_ast.specs.declared.token.Token.TheVariants as t
use Rattle.sg_ast.specs.declared.expr.Expr.{Expr}
use Rattle.sg_ast.specs.declared.stmt.WayDecl.{WayDecl}
use Rattle.sg_ast.specs.declared.stmt.WayDecl.TheVariants as way
use Rattle.sg_ast.specs.declared.stmt.RangeDecl.{RangeDecl}
use Rattle.sg_ast.specs.declared.stmt.Stmt.{Stmt}
use Rattle.sg_ast.specs.declared.stmt.Stmt.TheVariants as stmt
use Rattle.sg_ast.specs.Token.{is_name}
use Rattle.sg_ast.specs.Limits.{max_depth, max_nesting}
use Rattle.sg_parser.specs.Front.{Reader, after_sign, after_word, next_name, list_to_end}
use Rattle.sg_words.specs.Options.{only_if, ◌>>=◌}
use Rattle.sg_parser.specs.ReadExpr.{expr_at, read_expr, read_indices}

-- `LO..HI`
unfoldable pub read_range : Reader RangeDecl
read_range tokens = do
  lo ← read_expr tokens
  dots ← after_sign s.DotDot lo.1
  hi ← read_expr dots
  Some (record { lo = lo.0; hi = hi.0 }, hi.1)

-- an expression and `;`
unfoldable pub value_to_end : Reader Expr
value_to_end tokens = do
  value ← read_expr tokens
  rest ← after_sign s.Semicolon value.1
  Some (value.0, rest)

-- `=`, and what follows it
abbrev pub behind_equal : WayDecl → List Token → Option (WayDecl × List Token)
behind_equal how tokens = do
  rest ← after_sign s.Equal tokens
  Some (how, rest)

-- how a write joins its value
abbrev pub next_way : Reader WayDecl
next_way (t.Sign s.Equal ∷ rest) = Some (way.Own, rest)
next_way (t.Sign s.PlusEqual ∷ rest) = Some (way.Acc acc.Add, rest)
next_way (t.Word w.Min ∷ rest) = behind_equal (way.Acc acc.Min) rest
next_way (t.Word w.Max ∷ rest) = behind_equal (way.Acc acc.Max) rest
next_way (t.Sign s.OrEqual ∷ rest) = Some (way.Acc acc.Or, rest)
next_way (t.Sign s.AndEqual ∷ rest) = Some (way.Acc acc.And, rest)
next_way (t.Sign s.CaretEqual ∷ rest) = Some (way.Acc acc.Xor, rest)
next_way _ = None

-- `= VALUE ;`
unfoldable pub assigned_value : Reader Expr
assigned_value tokens = do
  equal ← after_sign s.Equal tokens
  value_to_end equal

-- `let NAME = VALUE;`, after its word
unfoldable pub read_let : Reader Stmt
read_let tokens = do
  name ← next_name tokens
  value ← assigned_value name.1
  Some (stmt.Let name.0 value.0, value.1)

-- a write, after the `[` of its access
unfoldable pub read_write : Name → Reader Stmt
read_write field tokens = do
  index ← read_indices (expr_at max_depth) tokens
  how ← next_way index.1
  value ← value_to_end how.1
  Some (stmt.Write field index.0 how.0 value.0, value.1)

-- what a name begins, where what follows a `[` after it is given
abbrev pub assign_or_write_on : Name → List Token → Option (List Token) → Option (Stmt × List Token)
assign_or_write_on name tokens None = do
  value ← assigned_value tokens
  Some (stmt.Assign name value.0, value.1)
assign_or_write_on name tokens (Some behind) = read_write name behind

-- what a name begins
unfoldable pub assign_or_write : Name → Reader Stmt
assign_or_write name tokens = only_if (is_name name) (assign_or_write_on name tokens (after_sign s.OpenBracket tokens))

-- `NAME in LO..HI`, after the word `for`
unfoldable pub for_head : List Token → Option (Name × RangeDecl × List Token)
for_head tokens = do
  name ← next_name tokens
  behind ← after_word w.In name.1
  range ← read_range behind
  Some (name.0, range.0, range.1)

-- one layer of a statement, where a reader of its blocks is given
module _ (block : Reader (List Stmt)) where
  -- the end of an `if`, where what follows an `else` is given
  abbrev pub else_on : Expr → List Stmt → List Token → Option (List Token) → Option (Stmt × List Token)
  else_on condition chosen tokens None = Some (stmt.If condition chosen None, tokens)
  else_on condition chosen tokens (Some behind) = do
    other ← block behind
    Some (stmt.If condition chosen (Some other.0), other.1)

  -- `if CONDITION BLOCK else BLOCK`, after its word
  unfoldable pub read_if : Reader Stmt
  read_if tokens = do
    condition ← read_expr tokens
    chosen ← block condition.1
    else_on condition.0 chosen.0 chosen.1 (after_word w.Else chosen.1)

  -- `for NAME in LO..HI BLOCK`, after its word
  unfoldable pub read_for : Reader Stmt
  read_for tokens = do
    head ← for_head tokens
    body ← block head.2
    Some (stmt.For head.0 head.1 body.0, body.1)

  -- what a word begins
  abbrev pub word_stmt : Word → Reader Stmt
  word_stmt w.Let tokens = read_let tokens
  word_stmt w.If tokens = read_if tokens
  word_stmt w.For tokens = read_for tokens
  word_stmt _ tokens = None

  -- a statement
  unfoldable pub statement : Reader Stmt
  statement (t.Name name ∷ rest) = assign_or_write name rest
  statement (t.Word word ∷ rest) = word_stmt word rest
  statement _ = None

-- a block, where blocks nest at most so deep
unfoldable pub block_at : ℕ → Reader (List Stmt)
block_at zero tokens = None
block_at (suc inner) tokens = do
  behind ← after_sign s.OpenBrace tokens
  list_to_end (after_sign s.CloseBrace) (statement (block_at inner)) behind

-- a block of a kernel
abbrev pub read_block : Reader (List Stmt)
read_block = block_at max_nesting
