-- Which kernels are neutral: what they do depends on no coordinate that is active only for the layout's sake.
use Rattle.std.specs.Prelude.{ℕ, Bool, true, false, not, ◌&&◌, ◌==◌, List, [], ◌∷◌, map, Option, Some, None}
use Rattle.sg_words.specs.declared.operators.BinOp.{BinOp}
use Rattle.sg_words.specs.declared.operators.BinOp.TheVariants as bin
use Rattle.sg_types.specs.declared.typed.TypedExpr.{TypedExpr, fold-TypedExpr}
use Rattle.sg_types.specs.declared.typed.Form.TheOpen as f
use Rattle.sg_types.specs.declared.typed.Form.TheOpen.{Form-F}
use Rattle.sg_types.specs.declared.typed.TypedKind.{TypedKind, out-TypedKind}
use Rattle.sg_types.specs.declared.typed.TypedKind.TheOpen as k
use Rattle.sg_types.specs.declared.typed.TypedKind.TheOpen.{TypedKind-F}
use Rattle.sg_types.specs.declared.typed.TypedStmt.{TypedStmt}
use Rattle.sg_types.specs.declared.typed.TypedDomain.TheVariants as domain
use Rattle.sg_types.specs.declared.typed.TypedDomain.{TypedDomain}
use Rattle.sg_types.specs.declared.typed.TypedKernel.{TypedKernel}
use Rattle.std.specs.List.{list_all}
use Rattle.sg_admit.specs.Lines.{Line, kernel_lines}
use Rattle.sg_admit.specs.Rules.{are_names, deed_exprs, has_good_asks}

-- What an expression is: the bare name of a variable, the literal 0, the own cell of a field of the walked layout, or guarded: a test
-- that this cell isn't 0, alone or as the leftmost operand of a chain of `&&`.
pub record Guard : Type 0 where
  pub name : Option ℕ
  pub is_zero : Bool
  pub is_cell : Bool
  pub is_guarded : Bool

-- an expression that is none of these
abbrev pub no_guard : Guard
no_guard = record { name = None; is_zero = false; is_cell = false; is_guarded = false }

-- an operator makes a guarded expression: the own cell `!=` the literal 0, in this order, or `&&` where the left operand is guarded
abbrev pub bin_guard : BinOp → Guard → Guard → Bool
bin_guard bin.Ne left right = left.is_cell && right.is_zero
bin_guard bin.LAnd left right = left.is_guarded
bin_guard _ left right = false

-- one layer of an expression in a kernel that walks the layout with so many variables; parentheses are neither of these
abbrev pub guard_step : ℕ → ℕ → Form-F Guard Guard → Guard
guard_step walked vars (f.Literal word) = record { name = None; is_zero = word == 0; is_cell = false; is_guarded = false }
guard_step walked vars (f.Constant word) = no_guard
guard_step walked vars (f.Var var) = record { name = Some var; is_zero = false; is_cell = false; is_guarded = false }
guard_step walked vars (f.Read layout place index) =
    record { name = None; is_zero = false; is_cell = (layout == walked) && are_names vars 0 (map (λ part. part.name) index); is_guarded = false }
guard_step walked vars (f.Paren inner) = no_guard
guard_step walked vars (f.Un op operand) = no_guard
guard_step walked vars (f.Bin op left right) = record { name = None; is_zero = false; is_cell = false; is_guarded = bin_guard op left right }
guard_step walked vars (f.Mulq a b s) = no_guard
guard_step walked vars (f.Convert inner) = no_guard
guard_step walked vars (f.Active layout index) = no_guard

-- what an expression is in a kernel that walks this layout with so many variables
abbrev pub guard_of : ℕ → ℕ → TypedExpr → Guard
guard_of walked vars = fold-TypedExpr Guard Guard (guard_step walked vars) (λ expr. expr.form)

-- an `if` without `else` whose condition is guarded
abbrev pub is_guard : ℕ → ℕ → TypedKind-F TypedKind TypedStmt → Bool
is_guard walked vars (k.Let var value) = false
is_guard walked vars (k.Assign var value) = false
is_guard walked vars (k.Write layout place index way value) = false
is_guard walked vars (k.If condition block otherwise has_else) = not has_else && (guard_of walked vars condition).is_guarded
is_guard walked vars (k.For var range body) = false

-- a body that is one such `if`
abbrev pub is_guarded_body : ℕ → ℕ → List TypedStmt → Bool
is_guarded_body walked vars [] = false
is_guarded_body walked vars (stmt ∷ []) = is_guard walked vars (out-TypedKind stmt.kind)
is_guarded_body walked vars (stmt ∷ other ∷ more) = false

-- a kernel whose loop goes over this domain is neutral: always over a box, over a layout where its body is so guarded
abbrev pub is_neutral_over : TypedKernel → TypedDomain → Bool
is_neutral_over kernel (domain.Walk layout) = is_guarded_body layout kernel.vars kernel.body
is_neutral_over kernel (domain.Ranges ranges) = true

-- no `active` stands in the expressions of a line
abbrev pub asks_nothing_in : Line → Bool
asks_nothing_in line = list_all (has_good_asks (λ layout. false)) (deed_exprs line.deed)

-- no `active` stands in a kernel, neither in its statements nor in its bounds
abbrev pub asks_nothing : TypedKernel → Bool
asks_nothing kernel = list_all asks_nothing_in (kernel_lines kernel)

-- A kernel in which no `active` stands, and which goes over a box, or whose body is one `if` without `else` that is guarded by the own
-- cell of a field of the walked layout.
abbrev pub is_neutral_kernel : TypedKernel → Bool
is_neutral_kernel kernel = asks_nothing kernel && is_neutral_over kernel kernel.domain
