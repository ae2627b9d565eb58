-- Putting the names back into a typed kernel, and the declared kernel to which that leads: the one where the names of constants, fields
-- and layouts are replaced by what they stand for. A word doesn't tell which constant it came from, so no way leads back to that name.
use Rattle.std.specs.Prelude.{ℕ, true, false, not, ◌==◌, if◌then◌else◌, List, [], ◌∷◌, ◌++◌, map, take, slice_get, unwrap_or, Option, Some, None, option_map}
use Rattle.sg_words.specs.declared.operators.Ty.{Ty}
use Rattle.sg_words.specs.declared.operators.Ty.TheVariants as ty
use Rattle.sg_words.specs.declared.operators.BinOp.TheVariants as b
use Rattle.sg_ast.specs.declared.token.Name.{Name}
use Rattle.sg_ast.specs.declared.expr.Callee.{Callee}
use Rattle.sg_ast.specs.declared.expr.Callee.TheVariants as c
use Rattle.sg_ast.specs.declared.expr.Expr.{Expr, fold-Expr}
use Rattle.sg_ast.specs.declared.expr.Expr.TheVariants as e
use Rattle.sg_ast.specs.declared.expr.Expr.TheOpen as x
use Rattle.sg_ast.specs.declared.expr.Expr.TheOpen.{Expr-F}
use Rattle.sg_ast.specs.declared.stmt.WayDecl.{WayDecl}
use Rattle.sg_ast.specs.declared.stmt.WayDecl.TheVariants as way
use Rattle.sg_ast.specs.declared.stmt.RangeDecl.{RangeDecl}
use Rattle.sg_ast.specs.declared.stmt.Stmt.{Stmt, fold-Stmt}
use Rattle.sg_ast.specs.declared.stmt.Stmt.TheVariants as stmt
use Rattle.sg_ast.specs.declared.stmt.Stmt.TheOpen as s
use Rattle.sg_ast.specs.declared.stmt.Stmt.TheOpen.{Stmt-F}
use Rattle.sg_ast.specs.declared.kernel.DomainDecl.{DomainDecl}
use Rattle.sg_ast.specs.declared.kernel.DomainDecl.TheVariants as domain
use Rattle.sg_ast.specs.declared.kernel.KernelDecl.{KernelDecl}
use Rattle.sg_flat.specs.declared.effects.Way.{Way}
use Rattle.sg_flat.specs.declared.effects.Way.TheVariants.{Own, Acc}
use Rattle.sg_names.specs.declared.tables.Constant.{Constant}
use Rattle.sg_names.specs.declared.tables.FieldAt.{FieldAt}
use Rattle.sg_names.specs.Tables.{field_named, layout_named}
use Rattle.sg_ast.specs.Stmt.{joined_lists}
use Rattle.sg_types.specs.declared.typed.TypedExpr.{TypedExpr, fold-TypedExpr}
use Rattle.sg_types.specs.declared.typed.Form.TheOpen as f
use Rattle.sg_types.specs.declared.typed.Form.TheOpen.{Form-F}
use Rattle.sg_types.specs.declared.typed.TypedRange.{TypedRange}
use Rattle.sg_types.specs.declared.typed.TypedKind.TheOpen as k
use Rattle.sg_types.specs.declared.typed.TypedKind.TheOpen.{TypedKind-F}
use Rattle.sg_types.specs.declared.typed.TypedStmt.{TypedStmt, fold-TypedStmt}
use Rattle.sg_types.specs.declared.typed.TypedDomain.{TypedDomain}
use Rattle.sg_types.specs.declared.typed.TypedDomain.TheVariants as typed
use Rattle.sg_types.specs.declared.typed.TypedKernel.{TypedKernel}
use Rattle.sg_types.specs.Scopes.{Known, earlier_constant}

-- ---- marks, which no file has as names: they begin with no letter

-- a number for each type
abbrev pub ty_number : Ty → ℕ
ty_number ty.I32 = 0
ty_number ty.U32 = 1
ty_number ty.Bool = 2

-- the mark of a constant: its word and its type
abbrev pub constant_mark : Ty → ℕ → Name
constant_mark given word = record { text = 0 ∷ word ∷ ty_number given ∷ [] }

-- the mark of a field: its layout and its place there
abbrev pub field_mark : ℕ → ℕ → Name
field_mark layout place = record { text = 1 ∷ layout ∷ place ∷ [] }

-- the mark of a layout: its number
abbrev pub layout_mark : ℕ → Name
layout_mark layout = record { text = 2 ∷ layout ∷ [] }

-- ---- the declared kernel, with marks

-- a name, with the mark of the constant that it stands for
abbrev pub marked_constant : Name → Option Constant → Name
marked_constant name None = name
marked_constant name (Some constant) = constant_mark constant.ty constant.word

-- a name, with the mark of the field that it stands for
abbrev pub marked_field : Name → Option FieldAt → Name
marked_field name None = name
marked_field name (Some at) = field_mark at.layout at.place

-- a name, with the mark of the layout that it stands for
abbrev pub marked_layout : Name → Option ℕ → Name
marked_layout name None = name
marked_layout name (Some layout) = layout_mark layout

-- the layout of a field
abbrev pub layout_of : Option FieldAt → Option ℕ
layout_of = option_map (λ at. at.layout)

-- `min(a, b)` and `max(a, b)` are operators
abbrev pub call_or_operator : Callee → List Expr → Expr
call_or_operator c.Min (left ∷ right ∷ []) = e.Bin b.Min left right
call_or_operator c.Max (left ∷ right ∷ []) = e.Bin b.Max left right
call_or_operator callee arguments = e.Call callee arguments

-- One layer of an expression, where its parts have marks. What is active is asked of a layout: each of its fields asks the same.
abbrev pub marked_step : Known → Expr-F Expr → Expr
marked_step known (x.Number value unsigned) = e.Number value unsigned
marked_step known (x.Truth truth) = e.Truth truth
marked_step known (x.Name name) = e.Name (marked_constant name (earlier_constant known name))
marked_step known (x.Read field index) = e.Read (marked_field field (field_named known.tables field)) index
marked_step known (x.Paren inner) = e.Paren inner
marked_step known (x.Un op operand) = e.Un op operand
marked_step known (x.Bin op left right) = e.Bin op left right
marked_step known (x.Call callee arguments) = call_or_operator callee arguments
marked_step known (x.Active field index) = e.Active (marked_layout field (layout_of (field_named known.tables field))) index

-- an expression with marks for the names of constants and fields
abbrev pub marked_expr : Known → Expr → Expr
marked_expr known = fold-Expr Expr (marked_step known)

-- a range with marks
abbrev pub marked_range : Known → RangeDecl → RangeDecl
marked_range known range = record { lo = marked_expr known range.lo; hi = marked_expr known range.hi }

-- one layer of a statement, where the statements in it have marks
abbrev pub marked_stmt_step : Known → Stmt-F Stmt → Stmt
marked_stmt_step known (s.Let name value) = stmt.Let name (marked_expr known value)
marked_stmt_step known (s.Assign name value) = stmt.Assign name (marked_expr known value)
marked_stmt_step known (s.Write field index how value) =
    stmt.Write (marked_field field (field_named known.tables field)) (map (marked_expr known) index) how (marked_expr known value)
marked_stmt_step known (s.If condition block otherwise) = stmt.If (marked_expr known condition) block otherwise
marked_stmt_step known (s.For name range body) = stmt.For name (marked_range known range) body

-- a statement with marks
abbrev pub marked_stmt : Known → Stmt → Stmt
marked_stmt known = fold-Stmt Stmt (marked_stmt_step known)

-- a domain with marks
abbrev pub marked_domain : Known → DomainDecl → DomainDecl
marked_domain known (domain.Layout name) = domain.Layout (marked_layout name (layout_named known.tables name))
marked_domain known (domain.Ranges ranges) = domain.Ranges (map (marked_range known) ranges)

-- a declared kernel with marks
abbrev pub marked_kernel : Known → KernelDecl → KernelDecl
marked_kernel known kernel = record {
  name = kernel.name;
  vars = kernel.vars;
  domain = marked_domain known kernel.domain;
  body = map (marked_stmt known) kernel.body;
}

-- ---- the names of a kernel's variables, in the order of first tokens

-- the names in an `else`, if there is one
abbrev pub else_names : Option (List (List Name)) → List Name
else_names None = []
else_names (Some names) = joined_lists names

-- one layer of a statement, where the names that each statement in it declares are given
abbrev pub names_step : Stmt-F (List Name) → List Name
names_step (s.Let name value) = name ∷ []
names_step (s.Assign name value) = []
names_step (s.Write field index how value) = []
names_step (s.If condition block otherwise) = joined_lists block ++ else_names otherwise
names_step (s.For name range body) = name ∷ joined_lists body

-- the names that a statement and those in it declare: locals, and variables of inner loops
abbrev pub stmt_names : Stmt → List Name
stmt_names = fold-Stmt (List Name) names_step

-- the names that the statements of a block declare
abbrev pub block_names : List Stmt → List Name
block_names block = joined_lists (map stmt_names block)

-- the names of a kernel: those of its loop, and then those that its body declares
abbrev pub variable_names : KernelDecl → List Name
variable_names kernel = kernel.vars ++ block_names kernel.body

-- ---- the typed kernel, with names

-- the name of a variable that has none
abbrev pub no_name : Name
no_name = record { text = [] }

-- the name of the variable with a number
abbrev pub name_at : List Name → ℕ → Name
name_at names var = unwrap_or (slice_get names var) no_name

-- a literal as it is written in its type
abbrev pub literal_expr : Ty → ℕ → Expr
literal_expr ty.I32 word = e.Number word false
literal_expr ty.U32 word = e.Number word true
literal_expr ty.Bool word = e.Truth (not (word == 0))

-- what a conversion to a type is written as
abbrev pub conversion : Ty → Callee
conversion ty.I32 = c.I32
conversion ty.U32 = c.U32
conversion ty.Bool = c.U32

-- one layer of a typed expression, where its parts have names again
abbrev pub named_step : List Name → Form-F (Ty → Expr) Expr → Ty → Expr
named_step names (f.Literal word) given = literal_expr given word
named_step names (f.Constant word) given = e.Name (constant_mark given word)
named_step names (f.Var var) given = e.Name (name_at names var)
named_step names (f.Read layout place index) given = e.Read (field_mark layout place) index
named_step names (f.Paren inner) given = e.Paren inner
named_step names (f.Un op operand) given = e.Un op operand
named_step names (f.Bin op left right) given = e.Bin op left right
named_step names (f.Mulq a b s) given = e.Call c.Mulq (a ∷ b ∷ s ∷ [])
named_step names (f.Convert inner) given = e.Call (conversion given) (inner ∷ [])
named_step names (f.Active layout index) given = e.Active (layout_mark layout) index

-- a typed expression with the names of its variables, and marks for what it reads
abbrev pub named_expr : List Name → TypedExpr → Expr
named_expr names = fold-TypedExpr (Ty → Expr) Expr (named_step names) (λ expr. expr.form expr.ty)

-- a typed range with names
abbrev pub named_range : List Name → TypedRange → RangeDecl
named_range names range = record { lo = named_expr names range.lo; hi = named_expr names range.hi }

-- a way of writing as it is declared
abbrev pub way_back : Way → WayDecl
way_back Own = way.Own
way_back (Acc op) = way.Acc op

-- one layer of a typed statement, where the statements in it have names again
abbrev pub named_kind : List Name → TypedKind-F Stmt Stmt → Stmt
named_kind names (k.Let var value) = stmt.Let (name_at names var) (named_expr names value)
named_kind names (k.Assign var value) = stmt.Assign (name_at names var) (named_expr names value)
named_kind names (k.Write layout place index how value) = stmt.Write (field_mark layout place) (map (named_expr names) index) (way_back how) (named_expr names value)
named_kind names (k.If condition block otherwise has_else) = stmt.If (named_expr names condition) block (if has_else then Some otherwise else None)
named_kind names (k.For var range body) = stmt.For (name_at names var) (named_range names range) body

-- a typed statement with names
abbrev pub named_stmt : List Name → TypedStmt → Stmt
named_stmt names = fold-TypedStmt Stmt Stmt (named_kind names) (λ statement. statement.kind)

-- a typed domain with names
abbrev pub named_domain : List Name → TypedDomain → DomainDecl
named_domain names (typed.Walk layout) = domain.Layout (layout_mark layout)
named_domain names (typed.Ranges ranges) = domain.Ranges (map (named_range names) ranges)

-- a typed kernel with the names of its variables, where its own name is given
abbrev pub named_kernel : Name → List Name → TypedKernel → KernelDecl
named_kernel name names kernel = record {
  name = name;
  vars = take kernel.vars names;
  domain = named_domain names kernel.domain;
  body = map (named_stmt names) kernel.body;
}
