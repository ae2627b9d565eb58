-- Worked trees: their tokens, and what the grammar says of them.
use Rattle.std.specs.Prelude.{◌≡◌, ℕ, true, false, List, [], ◌∷◌, Some, pos, negsuc, codes}
use Rattle.sg_words.specs.declared.operators.BinOp.TheVariants as b
use Rattle.sg_words.specs.declared.operators.UnOp.TheVariants as u
use Rattle.sg_words.specs.declared.operators.AccOp.TheVariants as acc
use Rattle.sg_ast.specs.declared.token.Name.{Name}
use Rattle.sg_ast.specs.declared.token.Word.TheVariants as w
use Rattle.sg_ast.specs.declared.token.Sign.TheVariants as s
use Rattle.sg_ast.specs.declared.token.Token.{Token}
use Rattle.sg_ast.specs.declared.token.Token.TheVariants as t
use Rattle.sg_ast.specs.declared.expr.Callee.TheVariants as c
use Rattle.sg_ast.specs.declared.expr.Expr.{Expr}
use Rattle.sg_ast.specs.declared.expr.Expr.TheVariants as e
use Rattle.sg_ast.specs.declared.stmt.WayDecl.TheVariants as way
use Rattle.sg_ast.specs.declared.stmt.Stmt.{Stmt}
use Rattle.sg_ast.specs.declared.stmt.Stmt.TheVariants as stmt
use Rattle.sg_ast.specs.declared.kernel.DomainDecl.TheVariants as domain
use Rattle.sg_ast.specs.declared.kernel.KernelDecl.{KernelDecl}
use Rattle.sg_ast.specs.declared.command.Command.{Command}
use Rattle.sg_ast.specs.declared.command.Command.TheVariants as command
use Rattle.sg_ast.specs.Token.{is_name, is_reserved}
use Rattle.sg_ast.specs.Expr.{tokens_of, depth, levelled}
use Rattle.sg_ast.specs.Stmt.{stmt_tokens, nesting}
use Rattle.sg_ast.specs.Kernel.{kernel_tokens}
use Rattle.sg_ast.specs.Command.{command_tokens}
use Rattle.sg_ast.specs.Grammar.{is_formed, is_expr, is_stmt, is_kernel, is_command}
use Rattle.sg_ast.proofs.Uses.Exprs.{expr_equations}
use Rattle.sg_ast.proofs.Uses.Stmts.{stmt_equations}
use Rattle.sg_ast.proofs.Uses.Commands.{command_equations}

abbrev name : List ℕ → Name
name text = record { text = text }

abbrev number : ℕ → Expr
number n = e.Number n false

abbrev digits : ℕ → Token
digits n = t.Number n false

abbrev named : List ℕ → Expr
named text = e.Name (name text)

abbrev letters : List ℕ → Token
letters text = t.Name (name text)

-- `10 - 3 - 2`, grouped to the left and to the right
abbrev to_left : Expr
to_left = e.Bin b.Sub (e.Bin b.Sub (number 10) (number 3)) (number 2)

abbrev to_right : Expr
to_right = e.Bin b.Sub (number 10) (e.Bin b.Sub (number 3) (number 2))

tokens-to_left : tokens_of to_left ≡ digits 10 ∷ t.Sign s.Minus ∷ digits 3 ∷ t.Sign s.Minus ∷ digits 2 ∷ []
tokens-to_left = simp expr_equations

tokens-to_right : tokens_of to_right ≡ tokens_of to_left
tokens-to_right = simp expr_equations

is_expr-to_left : is_expr to_left ≡ true
is_expr-to_left = simp expr_equations

levelled-to_right : levelled to_right ≡ false
levelled-to_right = simp expr_equations

depth-to_left : depth to_left ≡ 3
depth-to_left = simp expr_equations

-- `2 + 3 * 4`, which is no product of a sum, and `(2 + 3) * 4`, which is one
abbrev sum : Expr
sum = e.Bin b.Add (number 2) (e.Bin b.Mul (number 3) (number 4))

abbrev product : Expr
product = e.Bin b.Mul (e.Bin b.Add (number 2) (number 3)) (number 4)

abbrev product_of_sum : Expr
product_of_sum = e.Bin b.Mul (e.Paren (e.Bin b.Add (number 2) (number 3))) (number 4)

tokens-sum : tokens_of sum ≡ digits 2 ∷ t.Sign s.Plus ∷ digits 3 ∷ t.Sign s.Star ∷ digits 4 ∷ []
tokens-sum = simp expr_equations

tokens-product : tokens_of product ≡ tokens_of sum
tokens-product = simp expr_equations

is_expr-sum : is_expr sum ≡ true
is_expr-sum = simp expr_equations

levelled-product : levelled product ≡ false
levelled-product = simp expr_equations

tokens-product_of_sum : tokens_of product_of_sum
    ≡ t.Sign s.OpenParen ∷ digits 2 ∷ t.Sign s.Plus ∷ digits 3 ∷ t.Sign s.CloseParen ∷ t.Sign s.Star ∷ digits 4 ∷ []
tokens-product_of_sum = simp expr_equations

is_expr-product_of_sum : is_expr product_of_sum ≡ true
is_expr-product_of_sum = simp expr_equations

depth-product_of_sum : depth product_of_sum ≡ 4
depth-product_of_sum = simp expr_equations

-- `-x[i]`
abbrev minus_read : Expr
minus_read = e.Un u.Neg (e.Read (name (codes "x")) (named (codes "i") ∷ []))

tokens-minus_read : tokens_of minus_read
    ≡ t.Sign s.Minus ∷ letters (codes "x") ∷ t.Sign s.OpenBracket ∷ letters (codes "i") ∷ t.Sign s.CloseBracket ∷ []
tokens-minus_read = simp expr_equations

is_expr-minus_read : is_expr minus_read ≡ true
unfolding is_name is_reserved
is_expr-minus_read = simp expr_equations

depth-minus_read : depth minus_read ≡ 3
depth-minus_read = simp expr_equations

-- a read without an index
no_index : is_formed (e.Read (name (codes "x")) []) ≡ false
unfolding is_name is_reserved
no_index = simp expr_equations

-- `active(x[i])`, whose access is no node of its own
abbrev asked : Expr
asked = e.Active (name (codes "x")) (named (codes "i") ∷ [])

tokens-asked : tokens_of asked
    ≡ t.Word w.Active ∷ t.Sign s.OpenParen ∷ letters (codes "x") ∷ t.Sign s.OpenBracket ∷ letters (codes "i") ∷ t.Sign s.CloseBracket ∷ t.Sign s.CloseParen ∷ []
tokens-asked = simp expr_equations

is_expr-asked : is_expr asked ≡ true
unfolding is_name is_reserved
is_expr-asked = simp expr_equations

depth-asked : depth asked ≡ 2
depth-asked = simp expr_equations

-- `!(a < b)`, and `!a < b`, which is no `!` of a comparison
abbrev less : Expr
less = e.Bin b.Lt (named (codes "a")) (named (codes "b"))

abbrev not_less : Expr
not_less = e.Un u.LNot (e.Paren less)

tokens-not_less : tokens_of not_less
    ≡ t.Sign s.Not ∷ t.Sign s.OpenParen ∷ letters (codes "a") ∷ t.Sign s.Less ∷ letters (codes "b") ∷ t.Sign s.CloseParen ∷ []
tokens-not_less = simp expr_equations

is_expr-not_less : is_expr not_less ≡ true
unfolding is_name is_reserved
is_expr-not_less = simp expr_equations

levelled-not_of_less : levelled (e.Un u.LNot less) ≡ false
levelled-not_of_less = simp expr_equations

-- `a < b == c`, in both groupings
less_then_equal : levelled (e.Bin b.Eq less (named (codes "c"))) ≡ false
less_then_equal = simp expr_equations

equal_then_less : levelled (e.Bin b.Lt (named (codes "a")) (e.Bin b.Eq (named (codes "b")) (named (codes "c")))) ≡ false
equal_then_less = simp expr_equations

-- `min(a, 2u)` is a call, and no operator between two operands
abbrev least : Expr
least = e.Call c.Min (named (codes "a") ∷ e.Number 2 true ∷ [])

tokens-least : tokens_of least
    ≡ t.Word w.Min ∷ t.Sign s.OpenParen ∷ letters (codes "a") ∷ t.Sign s.Comma ∷ t.Number 2 true ∷ t.Sign s.CloseParen ∷ []
tokens-least = simp expr_equations

is_expr-least : is_expr least ≡ true
unfolding is_name is_reserved
is_expr-least = simp expr_equations

infix_min : is_formed (e.Bin b.Min (number 1) (number 2)) ≡ false
infix_min = simp expr_equations

min_of_one : is_formed (e.Call c.Min (number 1 ∷ [])) ≡ false
min_of_one = simp expr_equations

-- `if true { x[0] min= 1; } else { }`, and `for k in 0..2 { .. }` round it
abbrev choice : Stmt
choice = stmt.If (e.Truth true) (stmt.Write (name (codes "x")) (number 0 ∷ []) (way.Acc acc.Min) (number 1) ∷ []) (Some [])

tokens-choice : stmt_tokens choice
    ≡ t.Word w.If ∷ t.Word w.True ∷ t.Sign s.OpenBrace ∷ letters (codes "x") ∷ t.Sign s.OpenBracket ∷ digits 0 ∷ t.Sign s.CloseBracket
    ∷ t.Word w.Min ∷ t.Sign s.Equal ∷ digits 1 ∷ t.Sign s.Semicolon ∷ t.Sign s.CloseBrace ∷ t.Word w.Else ∷ t.Sign s.OpenBrace ∷ t.Sign s.CloseBrace ∷ []
tokens-choice = simp (stmt_equations, expr_equations)

is_stmt-choice : is_stmt choice ≡ true
unfolding is_name is_reserved
is_stmt-choice = simp (stmt_equations, expr_equations)

-- `x[0] ^= 1;`
tokens-flipped : stmt_tokens (stmt.Write (name (codes "x")) (number 0 ∷ []) (way.Acc acc.Xor) (number 1))
    ≡ letters (codes "x") ∷ t.Sign s.OpenBracket ∷ digits 0 ∷ t.Sign s.CloseBracket ∷ t.Sign s.CaretEqual ∷ digits 1 ∷ t.Sign s.Semicolon ∷ []
tokens-flipped = simp (stmt_equations, expr_equations)

abbrev repeated : Stmt
repeated = stmt.For (name (codes "k")) (record { lo = number 0; hi = number 2 }) (choice ∷ [])

nesting-repeated : nesting (repeated ∷ []) ≡ 3
nesting-repeated = simp stmt_equations

-- `kernel f { for i in 0..4 { let a = i; } }`
abbrev small_kernel : KernelDecl
small_kernel = record {
  name = name (codes "f");
  vars = name (codes "i") ∷ [];
  domain = domain.Ranges (record { lo = number 0; hi = number 4 } ∷ []);
  body = stmt.Let (name (codes "a")) (named (codes "i")) ∷ [];
}

tokens-small_kernel : kernel_tokens small_kernel
    ≡ t.Word w.Kernel ∷ letters (codes "f") ∷ t.Sign s.OpenBrace ∷ t.Word w.For ∷ letters (codes "i") ∷ t.Word w.In
    ∷ digits 0 ∷ t.Sign s.DotDot ∷ digits 4 ∷ t.Sign s.OpenBrace ∷ t.Word w.Let ∷ letters (codes "a") ∷ t.Sign s.Equal ∷ letters (codes "i")
    ∷ t.Sign s.Semicolon ∷ t.Sign s.CloseBrace ∷ t.Sign s.CloseBrace ∷ []
tokens-small_kernel = simp (stmt_equations, expr_equations)

is_kernel-small_kernel : is_kernel small_kernel ≡ true
unfolding is_name is_reserved
is_kernel-small_kernel = simp (stmt_equations, expr_equations)

-- `times 3 { run f; dump x; }`
abbrev thrice : Command
thrice = command.Times 3 (command.Run (name (codes "f")) ∷ command.Dump (name (codes "x")) ∷ [])

tokens-thrice : command_tokens thrice
    ≡ t.Word w.Times ∷ digits 3 ∷ t.Sign s.OpenBrace ∷ t.Word w.Run ∷ letters (codes "f") ∷ t.Sign s.Semicolon
    ∷ t.Word w.Dump ∷ letters (codes "x") ∷ t.Sign s.Semicolon ∷ t.Sign s.CloseBrace ∷ []
tokens-thrice = simp command_equations

is_command-thrice : is_command thrice ≡ true
unfolding is_name is_reserved
is_command-thrice = simp command_equations

times_in_times : is_command (command.Times 2 (thrice ∷ [])) ≡ false
unfolding is_name is_reserved
times_in_times = simp command_equations

empty_times : is_command (command.Times 2 []) ≡ false
empty_times = simp command_equations

-- `image x -1 255;`
tokens-image : command_tokens (command.Image (name (codes "x")) (negsuc 0) (pos 255))
    ≡ t.Word w.Image ∷ letters (codes "x") ∷ t.Sign s.Minus ∷ digits 1 ∷ digits 255 ∷ t.Sign s.Semicolon ∷ []
tokens-image = simp command_equations
