-- Expressions: the one token list of each, its depth, and how tightly its operators hold.
-- Here a tree gives its tokens. Code that reads goes the other way, from tokens to the tree.
use Rattle.std.specs.Prelude.{ℕ, ◌+◌, max, Bool, true, false, ◌&&◌, ◌==◌, nat_le, if◌then◌else◌, List, [], ◌∷◌, ◌++◌}
use Rattle.std.specs.List.{list_all}
use Rattle.sg_words.specs.declared.operators.BinOp.{BinOp}
use Rattle.sg_words.specs.declared.operators.BinOp.TheVariants as b
use Rattle.sg_words.specs.declared.operators.UnOp.{UnOp}
use Rattle.sg_words.specs.declared.operators.UnOp.TheVariants as u
use Rattle.sg_ast.specs.declared.token.Name.{Name}
use Rattle.sg_ast.specs.declared.token.Word.TheVariants as w
use Rattle.sg_ast.specs.declared.token.Sign.TheVariants as s
use Rattle.sg_ast.specs.declared.token.Token.{Token}
use Rattle.sg_ast.specs.declared.token.Token.TheVariants as t
use Rattle.sg_ast.specs.declared.expr.Callee.{Callee}
use Rattle.sg_ast.specs.declared.expr.Callee.TheVariants as c
use Rattle.sg_ast.specs.declared.expr.Expr.{Expr, fold-Expr, para-Expr}
use Rattle.sg_ast.specs.declared.expr.Expr.TheOpen as f
use Rattle.sg_ast.specs.declared.expr.Expr.TheOpen.{Expr-F}

-- the token of an operator between two operands. `min` and `max` stand in no such place (`is_infix`)
abbrev pub op_token : BinOp → Token
op_token b.Add = t.Sign s.Plus
op_token b.Sub = t.Sign s.Minus
op_token b.Mul = t.Sign s.Star
op_token b.Div = t.Sign s.Slash
op_token b.Rem = t.Sign s.Percent
op_token b.And = t.Sign s.And
op_token b.Or = t.Sign s.Or
op_token b.Xor = t.Sign s.Caret
op_token b.LAnd = t.Sign s.AndAnd
op_token b.LOr = t.Sign s.OrOr
op_token b.Shl = t.Sign s.ShiftLeft
op_token b.Shr = t.Sign s.ShiftRight
op_token b.Min = t.Word w.Min
op_token b.Max = t.Word w.Max
op_token b.Eq = t.Sign s.EqualEqual
op_token b.Ne = t.Sign s.NotEqual
op_token b.Lt = t.Sign s.Less
op_token b.Le = t.Sign s.LessEqual
op_token b.Gt = t.Sign s.Greater
op_token b.Ge = t.Sign s.GreaterEqual

-- the token of an operator before its operand
abbrev pub un_token : UnOp → Token
un_token u.Neg = t.Sign s.Minus
un_token u.Not = t.Sign s.Tilde
un_token u.LNot = t.Sign s.Not

-- the word before the parenthesis of a call
abbrev pub callee_token : Callee → Token
callee_token c.Min = t.Word w.Min
callee_token c.Max = t.Word w.Max
callee_token c.Mulq = t.Word w.Mulq
callee_token c.I32 = t.Word w.I32
callee_token c.U32 = t.Word w.U32

-- `true` or `false`
abbrev pub truth_token : Bool → Token
truth_token true = t.Word w.True
truth_token false = t.Word w.False

-- lists of tokens, a comma before each
abbrev pub each_more : List (List Token) → List Token
each_more [] = []
each_more (x ∷ xs) = t.Sign s.Comma ∷ (x ++ each_more xs)

-- lists of tokens, a comma between each two
abbrev pub with_commas : List (List Token) → List Token
with_commas [] = []
with_commas (x ∷ xs) = x ++ each_more xs

-- `NAME[INDEX, ..]`, where the tokens of each index are given
abbrev pub access_tokens : Name → List (List Token) → List Token
access_tokens field index = t.Name field ∷ t.Sign s.OpenBracket ∷ (with_commas index ++ t.Sign s.CloseBracket ∷ [])

-- one layer of an expression, where the tokens of its parts are given
abbrev pub tokens_step : Expr-F (List Token) → List Token
tokens_step (f.Number value unsigned) = t.Number value unsigned ∷ []
tokens_step (f.Truth truth) = truth_token truth ∷ []
tokens_step (f.Name name) = t.Name name ∷ []
tokens_step (f.Read field index) = access_tokens field index
tokens_step (f.Paren inner) = t.Sign s.OpenParen ∷ (inner ++ t.Sign s.CloseParen ∷ [])
tokens_step (f.Un op operand) = un_token op ∷ operand
tokens_step (f.Bin op left right) = left ++ op_token op ∷ right
tokens_step (f.Call callee arguments) = callee_token callee ∷ t.Sign s.OpenParen ∷ (with_commas arguments ++ t.Sign s.CloseParen ∷ [])
tokens_step (f.Active field index) = t.Word w.Active ∷ t.Sign s.OpenParen ∷ (access_tokens field index ++ t.Sign s.CloseParen ∷ [])

-- the tokens of an expression
abbrev pub tokens_of : Expr → List Token
tokens_of = fold-Expr (List Token) tokens_step

-- the greatest of some numbers, 0 for none
abbrev pub largest : List ℕ → ℕ
largest [] = 0
largest (n ∷ ns) = max n (largest ns)

-- one layer of an expression, where the depths of its parts are given
abbrev pub depth_step : Expr-F ℕ → ℕ
depth_step (f.Number value unsigned) = 1
depth_step (f.Truth truth) = 1
depth_step (f.Name name) = 1
depth_step (f.Read field index) = largest index + 1
depth_step (f.Paren inner) = inner + 1
depth_step (f.Un op operand) = operand + 1
depth_step (f.Bin op left right) = max left right + 1
depth_step (f.Call callee arguments) = largest arguments + 1
depth_step (f.Active field index) = largest index + 1

-- a number, truth value or name has depth 1, and every other node one more than its deepest part
abbrev pub depth : Expr → ℕ
depth = fold-Expr ℕ depth_step

-- how tightly an operator holds its operands, the loosest at 1; `min` and `max`, which stand between none, have 0
abbrev pub op_level : BinOp → ℕ
op_level b.LOr = 1
op_level b.LAnd = 2
op_level b.Eq = 3
op_level b.Ne = 3
op_level b.Lt = 3
op_level b.Le = 3
op_level b.Gt = 3
op_level b.Ge = 3
op_level b.Or = 4
op_level b.Xor = 5
op_level b.And = 6
op_level b.Shl = 7
op_level b.Shr = 7
op_level b.Add = 8
op_level b.Sub = 8
op_level b.Mul = 9
op_level b.Div = 9
op_level b.Rem = 9
op_level b.Min = 0
op_level b.Max = 0

-- the level of an operator before its operand
abbrev pub un_level : ℕ
un_level = 10

-- the level of an expression that no operator can take apart
abbrev pub primary_level : ℕ
primary_level = 11

-- the level of a layer
abbrev pub level_step : {A : Type 0} → Expr-F A → ℕ
level_step (f.Un op operand) = un_level
level_step (f.Bin op left right) = op_level op
level_step _ = primary_level

-- the level of an expression
abbrev pub level : Expr → ℕ
level = fold-Expr ℕ level_step

-- the least level of a left operand: that of the operator, but a comparison does not chain
abbrev pub left_needs : BinOp → ℕ
left_needs op = if op_level op == 3 then 4 else op_level op

-- the least level of a right operand
abbrev pub right_needs : BinOp → ℕ
right_needs op = op_level op + 1

-- one layer of an expression, where for each part it is given whether it is levelled
abbrev pub levelled_step : Expr-F (Expr × Bool) → Bool
levelled_step (f.Number value unsigned) = true
levelled_step (f.Truth truth) = true
levelled_step (f.Name name) = true
levelled_step (f.Read field index) = list_all (λ part. part.1) index
levelled_step (f.Paren inner) = inner.1
levelled_step (f.Un op operand) = nat_le un_level (level operand.0) && operand.1
levelled_step (f.Bin op left right) =
    (nat_le (left_needs op) (level left.0) && nat_le (right_needs op) (level right.0)) && (left.1 && right.1)
levelled_step (f.Call callee arguments) = list_all (λ part. part.1) arguments
levelled_step (f.Active field index) = list_all (λ part. part.1) index

-- Every operator has operands that hold tightly enough: operators of one level group to the left,
-- comparisons do not chain, and what is grouped otherwise stands in parentheses.
abbrev pub levelled : Expr → Bool
levelled = para-Expr Bool levelled_step
