-- Expressions: which names are known, which accesses have the right number of indices, and the typed expression.
use Rattle.std.specs.Prelude.{ℕ, Bool, true, false, ◌&&◌, ◌==◌, if◌then◌else◌, List, [], ◌∷◌, length, is_some, Option, Some, None, option_map, option_and_then}
use Rattle.std.specs.List.{list_all}
use Rattle.sg_words.specs.declared.operators.Ty.{Ty}
use Rattle.sg_words.specs.declared.operators.Ty.TheVariants as ty
use Rattle.sg_words.specs.declared.operators.BinOp.{BinOp}
use Rattle.sg_words.specs.declared.operators.BinOp.TheVariants as b
use Rattle.sg_words.specs.declared.operators.UnOp.{UnOp}
use Rattle.sg_words.specs.Words.{flag}
use Rattle.sg_ast.specs.declared.token.Name.{Name}
use Rattle.sg_ast.specs.declared.expr.Callee.{Callee}
use Rattle.sg_ast.specs.declared.expr.Callee.TheVariants as c
use Rattle.sg_ast.specs.declared.expr.Expr.{Expr, fold-Expr}
use Rattle.sg_ast.specs.declared.expr.Expr.TheOpen as e
use Rattle.sg_ast.specs.declared.expr.Expr.TheOpen.{Expr-F}
use Rattle.sg_names.specs.declared.tables.FieldAt.{FieldAt}
use Rattle.sg_names.specs.Tables.{Tables, field_named, axes_of}
use Rattle.sg_types.specs.declared.typed.TypedExpr.{TypedExpr}
use Rattle.sg_types.specs.declared.typed.Form.TheVariants as form
use Rattle.sg_types.specs.TypeTable.{is_numeric, is_signed, bin_ty, un_ty}
use Rattle.sg_types.specs.Scopes.{Known, NamedLocal, is_taken, name_expr}

-- ---- names

-- one layer of an expression, where for each part it is given whether its names are known
abbrev pub knows_step : Known → List NamedLocal → Expr-F Bool → Bool
knows_step known scope (e.Number value unsigned) = true
knows_step known scope (e.Truth truth) = true
knows_step known scope (e.Name name) = is_taken known scope name
knows_step known scope (e.Read field index) = is_some (field_named known.tables field) && list_all (λ part. part) index
knows_step known scope (e.Paren inner) = inner
knows_step known scope (e.Un op operand) = operand
knows_step known scope (e.Bin op left right) = left && right
knows_step known scope (e.Call callee arguments) = list_all (λ part. part) arguments
knows_step known scope (e.Active field index) = is_some (field_named known.tables field) && list_all (λ part. part) index

-- every plain name in the expression is known, and every field
abbrev pub knows : Known → List NamedLocal → Expr → Bool
knows known scope = fold-Expr Bool (knows_step known scope)

-- ---- numbers of indices

-- how many axes the layout of a field has
abbrev pub field_axes : Tables → Name → Option ℕ
field_axes tables field = option_and_then (λ at. axes_of tables at.layout) (field_named tables field)

-- a number is there, and is this one
abbrev pub equals_some : Option ℕ → ℕ → Bool
equals_some None n = false
equals_some (Some m) n = m == n

-- one layer of an expression, where for each part it is given whether its accesses have the right number of indices
abbrev pub counts_step : Tables → Expr-F Bool → Bool
counts_step tables (e.Number value unsigned) = true
counts_step tables (e.Truth truth) = true
counts_step tables (e.Name name) = true
counts_step tables (e.Read field index) = equals_some (field_axes tables field) (length index) && list_all (λ part. part) index
counts_step tables (e.Paren inner) = inner
counts_step tables (e.Un op operand) = operand
counts_step tables (e.Bin op left right) = left && right
counts_step tables (e.Call callee arguments) = list_all (λ part. part) arguments
counts_step tables (e.Active field index) = equals_some (field_axes tables field) (length index) && list_all (λ part. part) index

-- every access in the expression has as many indices as its layout has axes
abbrev pub counts : Tables → Expr → Bool
counts tables = fold-Expr Bool (counts_step tables)

-- ---- types

-- all of them, where each is there
abbrev pub all_some : {A : Type 0} → List (Option A) → Option (List A)
all_some [] = Some []
all_some (x ∷ xs) = option_and_then (λ a. option_map (λ more. a ∷ more) (all_some xs)) x

-- the type of a number, by its `u`
abbrev pub number_ty : Bool → Ty
number_ty true = ty.U32
number_ty false = ty.I32

-- an expression is an I32
abbrev pub is_signed_expr : TypedExpr → Bool
is_signed_expr expr = is_signed expr.ty

-- an operator on typed operands, where it takes their types
abbrev pub un_expr : UnOp → TypedExpr → Option TypedExpr
un_expr op operand = option_map (λ given. record { ty = given; form = form.Un op operand }) (un_ty op operand.ty)

-- an operator between two typed operands, where it takes their types
abbrev pub bin_expr : BinOp → TypedExpr → TypedExpr → Option TypedExpr
bin_expr op left right = option_map (λ given. record { ty = given; form = form.Bin op left right }) (bin_ty op left.ty right.ty)

-- three I32, and gives one
abbrev pub mulq_expr : TypedExpr → TypedExpr → TypedExpr → Option TypedExpr
mulq_expr a b s =
    if is_signed_expr a && (is_signed_expr b && is_signed_expr s) then Some (record { ty = ty.I32; form = form.Mulq a b s }) else None

-- a conversion of a number to a type
abbrev pub convert_expr : Ty → TypedExpr → Option TypedExpr
convert_expr to inner = if is_numeric inner.ty then Some (record { ty = to; form = form.Convert inner }) else None

-- what takes one, two or three arguments, on a list of so many
abbrev pub on_one : (TypedExpr → Option TypedExpr) → List TypedExpr → Option TypedExpr
on_one takes (inner ∷ []) = takes inner
on_one takes _ = None

-- what takes two arguments, on a list of two
abbrev pub on_two : (TypedExpr → TypedExpr → Option TypedExpr) → List TypedExpr → Option TypedExpr
on_two takes (left ∷ right ∷ []) = takes left right
on_two takes _ = None

-- what takes three arguments, on a list of three
abbrev pub on_three : (TypedExpr → TypedExpr → TypedExpr → Option TypedExpr) → List TypedExpr → Option TypedExpr
on_three takes (first ∷ second ∷ third ∷ []) = takes first second third
on_three takes _ = None

-- a call of typed arguments
abbrev pub call_expr : Callee → List TypedExpr → Option TypedExpr
call_expr c.Min arguments = on_two (bin_expr b.Min) arguments
call_expr c.Max arguments = on_two (bin_expr b.Max) arguments
call_expr c.Mulq arguments = on_three mulq_expr arguments
call_expr c.I32 arguments = on_one (convert_expr ty.I32) arguments
call_expr c.U32 arguments = on_one (convert_expr ty.U32) arguments

-- a read of a field at typed indices, which are I32
abbrev pub access_expr : FieldAt → List TypedExpr → Option TypedExpr
access_expr at index =
    if list_all is_signed_expr index then Some (record { ty = at.ty; form = form.Read at.layout at.place index }) else None

-- a question whether the coordinate of typed indices, which are I32, is active in the layout of a field
abbrev pub active_expr : FieldAt → List TypedExpr → Option TypedExpr
active_expr at index =
    if list_all is_signed_expr index then Some (record { ty = ty.Bool; form = form.Active at.layout index }) else None

-- one layer of an expression, where each part is given as a typed expression if its types fit
abbrev pub typed_step : Known → List NamedLocal → Expr-F (Option TypedExpr) → Option TypedExpr
typed_step known scope (e.Number value unsigned) = Some (record { ty = number_ty unsigned; form = form.Literal value })
typed_step known scope (e.Truth truth) = Some (record { ty = ty.Bool; form = form.Literal (flag truth) })
typed_step known scope (e.Name name) = name_expr known scope name
typed_step known scope (e.Read field index) = option_and_then (λ at. option_and_then (access_expr at) (all_some index)) (field_named known.tables field)
typed_step known scope (e.Paren inner) = option_map (λ typed. record { ty = typed.ty; form = form.Paren typed }) inner
typed_step known scope (e.Un op operand) = option_and_then (un_expr op) operand
typed_step known scope (e.Bin op left right) = option_and_then (λ l. option_and_then (bin_expr op l) right) left
typed_step known scope (e.Call callee arguments) = option_and_then (call_expr callee) (all_some arguments)
typed_step known scope (e.Active field index) = option_and_then (λ at. option_and_then (active_expr at) (all_some index)) (field_named known.tables field)

-- the typed expression, where names are known and all types fit
abbrev pub typed_expr : Known → List NamedLocal → Expr → Option TypedExpr
typed_expr known scope = fold-Expr (Option TypedExpr) (typed_step known scope)
