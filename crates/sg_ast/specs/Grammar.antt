-- Which trees are trees of the grammar: its counts, and that names are names and numbers within their limits.
-- Whether names are known and types fit is asked elsewhere.
use Rattle.std.specs.Prelude.{◌≡◌, refl, ℕ, Bool, true, false, not, ◌&&◌, ◌==◌, nat_le, ℤ, pos, negsuc, ◌+◌, List, [], ◌∷◌, length, Option, Some, None, codes}
use Rattle.std.specs.List.{list_all}
use Rattle.sg_words.specs.declared.operators.Ty.{Ty}
use Rattle.sg_words.specs.declared.operators.Ty.TheVariants as ty
use Rattle.sg_words.specs.declared.operators.BinOp.{BinOp}
use Rattle.sg_words.specs.declared.operators.BinOp.TheVariants as b
use Rattle.sg_ast.specs.declared.expr.Callee.{Callee}
use Rattle.sg_ast.specs.declared.expr.Callee.TheVariants as c
use Rattle.sg_ast.specs.declared.expr.Expr.{Expr, fold-Expr}
use Rattle.sg_ast.specs.declared.expr.Expr.TheOpen as fe
use Rattle.sg_ast.specs.declared.expr.Expr.TheOpen.{Expr-F}
use Rattle.sg_ast.specs.declared.stmt.RangeDecl.{RangeDecl}
use Rattle.sg_ast.specs.declared.stmt.Stmt.{Stmt, fold-Stmt}
use Rattle.sg_ast.specs.declared.stmt.Stmt.TheOpen as fs
use Rattle.sg_ast.specs.declared.stmt.Stmt.TheOpen.{Stmt-F}
use Rattle.sg_ast.specs.declared.layout.SizeDecl.{SizeDecl}
use Rattle.sg_ast.specs.declared.layout.SizeDecl.TheVariants as size
use Rattle.sg_ast.specs.declared.layout.AxisDecl.{AxisDecl}
use Rattle.sg_ast.specs.declared.layout.NodeKind.{NodeKind}
use Rattle.sg_ast.specs.declared.layout.NodeKind.TheVariants as kind
use Rattle.sg_ast.specs.declared.layout.NodeDecl.{NodeDecl}
use Rattle.sg_ast.specs.declared.layout.FieldDecl.{FieldDecl}
use Rattle.sg_ast.specs.declared.layout.LayoutDecl.{LayoutDecl}
use Rattle.sg_ast.specs.declared.kernel.DomainDecl.{DomainDecl}
use Rattle.sg_ast.specs.declared.kernel.DomainDecl.TheVariants as domain
use Rattle.sg_ast.specs.declared.kernel.KernelDecl.{KernelDecl}
use Rattle.sg_ast.specs.declared.command.Command.{Command, out-Command}
use Rattle.sg_ast.specs.declared.command.Command.TheOpen as fc
use Rattle.sg_ast.specs.declared.command.Command.TheOpen.{Command-F}
use Rattle.sg_ast.specs.declared.program.ConstDecl.{ConstDecl}
use Rattle.sg_ast.specs.declared.program.Item.{Item}
use Rattle.sg_ast.specs.declared.program.Item.TheVariants as item
use Rattle.sg_ast.specs.declared.program.Program.{Program}
use Rattle.sg_ast.specs.Limits.{max_depth, max_nesting, most_listed_axes, most_listed_nodes}
use Rattle.sg_ast.specs.Token.{is_name, is_reserved, is_number}
use Rattle.sg_ast.specs.Expr.{depth, levelled}
use Rattle.sg_ast.specs.Stmt.{nesting}

-- from one to `most` parts, each of which is as the test says
abbrev pub one_to : {A : Type 0} → ℕ → (A → Bool) → List A → Bool
one_to most test parts = (nat_le 1 (length parts) && nat_le (length parts) most) && list_all test parts

-- one part or more, each of which is as the test says
abbrev pub one_or_more : {A : Type 0} → (A → Bool) → List A → Bool
one_or_more test parts = nat_le 1 (length parts) && list_all test parts

-- whether an operator is written between its operands: `min` and `max` are written as calls
abbrev pub is_infix : BinOp → Bool
is_infix b.Min = false
is_infix b.Max = false
is_infix _ = true

-- how many arguments a call has
abbrev pub arity : Callee → ℕ
arity c.Min = 2
arity c.Max = 2
arity c.Mulq = 3
arity c.I32 = 1
arity c.U32 = 1

-- one layer of an expression, where for each part it is given whether it is formed
abbrev pub formed_step : Expr-F Bool → Bool
formed_step (fe.Number value unsigned) = is_number value unsigned
formed_step (fe.Truth truth) = true
formed_step (fe.Name name) = is_name name
formed_step (fe.Read field index) = is_name field && one_or_more (λ part. part) index
formed_step (fe.Paren inner) = inner
formed_step (fe.Un op operand) = operand
formed_step (fe.Bin op left right) = is_infix op && (left && right)
formed_step (fe.Call callee arguments) = (length arguments == arity callee) && list_all (λ part. part) arguments
formed_step (fe.Active field index) = is_name field && one_or_more (λ part. part) index

-- Every node of an expression is one of the grammar's.
abbrev pub is_formed : Expr → Bool
is_formed = fold-Expr Bool formed_step

-- an expression of the grammar: formed, levelled, and not too deep
abbrev pub is_expr : Expr → Bool
is_expr e = is_formed e && (levelled e && nat_le (depth e) max_depth)

-- a range of the grammar
abbrev pub is_range : RangeDecl → Bool
is_range range = is_expr range.lo && is_expr range.hi

-- no `else`, or one whose statements are each as the test says
abbrev pub is_else : {A : Type 0} → (A → Bool) → Option (List A) → Bool
is_else test None = true
is_else test (Some parts) = list_all test parts

-- one layer of a statement, where for each statement in it it is given whether it is one of the grammar's
abbrev pub is_stmt_step : Stmt-F Bool → Bool
is_stmt_step (fs.Let name value) = is_name name && is_expr value
is_stmt_step (fs.Assign name value) = is_name name && is_expr value
is_stmt_step (fs.Write field index how value) = (is_name field && one_or_more is_expr index) && is_expr value
is_stmt_step (fs.If condition then otherwise) = is_expr condition && (list_all (λ part. part) then && is_else (λ part. part) otherwise)
is_stmt_step (fs.For name range body) = is_name name && (is_range range && list_all (λ part. part) body)

-- a statement of the grammar, at any nesting
abbrev pub is_stmt : Stmt → Bool
is_stmt = fold-Stmt Bool is_stmt_step

-- a size of the grammar: its number has no `u`
abbrev pub is_size : SizeDecl → Bool
is_size (size.Number value) = is_number value false
is_size (size.Name name) = is_name name

-- an axis of a node of the grammar
abbrev pub is_axis : AxisDecl → Bool
is_axis axis = is_name axis.name && is_size axis.size

-- the kind of a node, with its chunk and its cap exactly when the kind has them
abbrev pub has_bounds : NodeKind → Option SizeDecl → Option SizeDecl → Bool
has_bounds kind.Dense None None = true
has_bounds kind.Bitmasked None None = true
has_bounds kind.Pointer None (Some cap) = is_size cap
has_bounds kind.Hash None (Some cap) = is_size cap
has_bounds kind.Dynamic (Some chunk) (Some cap) = is_size chunk && is_size cap
has_bounds _ _ _ = false

-- a node of the grammar: it names at least one axis, and as many as the limit at most
abbrev pub is_node : NodeDecl → Bool
is_node node = one_to most_listed_axes is_axis node.axes && has_bounds node.kind node.chunk node.cap

-- whether a field may have the type
abbrev pub is_field_ty : Ty → Bool
is_field_ty ty.I32 = true
is_field_ty ty.U32 = true
is_field_ty ty.Bool = false

-- a field of the grammar
abbrev pub is_field_decl : FieldDecl → Bool
is_field_decl field = is_name field.name && is_field_ty field.ty

-- a layout of the grammar: axes and nodes, at least one of each and as many as the limits at most, and a field at least
abbrev pub is_layout : LayoutDecl → Bool
is_layout layout =
    (is_name layout.name && one_to most_listed_axes is_name layout.axes) && (one_to most_listed_nodes is_node layout.nodes && one_or_more is_field_decl layout.fields)

-- a domain of the grammar: a layout's name, or ranges, at most one for each axis that there may be
abbrev pub is_domain : DomainDecl → Bool
is_domain (domain.Layout name) = is_name name
is_domain (domain.Ranges ranges) = one_to most_listed_axes is_range ranges

-- a kernel of the grammar: variables, at most one for each axis that there may be, and blocks that do not nest too deep
abbrev pub is_kernel : KernelDecl → Bool
is_kernel kernel =
    (is_name kernel.name && one_to most_listed_axes is_name kernel.vars)
    && (is_domain kernel.domain && (list_all is_stmt kernel.body && nat_le (nesting kernel.body) max_nesting))

-- a bound is a number within its limit, or minus one
abbrev pub is_bound : ℤ → Bool
is_bound (pos n) = is_number n true
is_bound (negsuc n) = is_number (n + 1) true

-- one layer of a command that is no `times`
abbrev pub is_simple_layer : Command-F Command → Bool
is_simple_layer (fc.Load field) = is_name field
is_simple_layer (fc.Run kernel) = is_name kernel
is_simple_layer (fc.Times number body) = false
is_simple_layer (fc.Dump field) = is_name field
is_simple_layer (fc.Image field lo hi) = is_name field && (is_bound lo && is_bound hi)
is_simple_layer (fc.Stats layout) = is_name layout
is_simple_layer (fc.Prune layout) = is_name layout
is_simple_layer (fc.Clear layout) = is_name layout

-- a command of the grammar that is no `times`
abbrev pub is_simple : Command → Bool
is_simple command = is_simple_layer (out-Command command)

-- one layer of a command
abbrev pub is_command_layer : Command-F Command → Bool
is_command_layer (fc.Times number body) = is_number number false && one_or_more is_simple body
is_command_layer layer = is_simple_layer layer

-- a command of the grammar: a `times` has simple commands in it, and at least one
abbrev pub is_command : Command → Bool
is_command command = is_command_layer (out-Command command)

-- a constant of the grammar
abbrev pub is_const : ConstDecl → Bool
is_const decl = is_name decl.name && is_number decl.value decl.unsigned

-- an item of the grammar
abbrev pub is_item : Item → Bool
is_item (item.Const decl) = is_const decl
is_item (item.Layout layout) = is_layout layout
is_item (item.Kernel kernel) = is_kernel kernel
is_item (item.Command command) = is_command command

-- a program of the grammar
abbrev pub is_program : Program → Bool
is_program program = list_all is_item program.items

-- worked equations: the cap of a node, by its kind
abbrev one_axis : List AxisDecl
one_axis = record { name = record { text = codes "i" }; size = size.Number 4 } ∷ []

pointer-with-cap : is_node (record { kind = kind.Pointer; axes = one_axis; chunk = None; cap = Some (size.Number 2) }) ≡ true
unfolding is_name is_reserved
pointer-with-cap = refl

pointer-without-cap : is_node (record { kind = kind.Pointer; axes = one_axis; chunk = None; cap = None }) ≡ false
unfolding is_name is_reserved
pointer-without-cap = refl

dense-with-cap : is_node (record { kind = kind.Dense; axes = one_axis; chunk = None; cap = Some (size.Number 2) }) ≡ false
unfolding is_name is_reserved
dense-with-cap = refl

dynamic-without-chunk : is_node (record { kind = kind.Dynamic; axes = one_axis; chunk = None; cap = Some (size.Number 2) }) ≡ false
unfolding is_name is_reserved
dynamic-without-chunk = refl

node-without-axis : is_node (record { kind = kind.Dense; axes = []; chunk = None; cap = None }) ≡ false
node-without-axis = refl

size_limit : is_size (size.Number 2147483648) && not (is_size (size.Number 2147483649)) ≡ true
size_limit = refl

bound_limit : is_bound (pos 4294967295) && (is_bound (negsuc 4294967294) && not (is_bound (pos 4294967296))) ≡ true
bound_limit = refl
