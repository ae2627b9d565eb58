-- Which typed kernels are well typed, over given layouts: each expression has the type that the table of types gives it, and each
-- variable is in scope where it stands.
use Rattle.std.specs.Prelude.{ℕ, zero, suc, Bool, true, false, not, ◌&&◌, ◌||◌, ◌==◌, nat_lt, List, [], ◌∷◌, map, length, slice_get, Option, Some, None, option_map, option_and_then}
use Rattle.std.specs.List.{list_all, list_any, range_with_len}
use Rattle.sg_words.specs.declared.operators.Ty.{Ty}
use Rattle.sg_words.specs.declared.operators.Ty.TheVariants as ty
use Rattle.sg_layout.specs.declared.shape.Shape.{Shape}
use Rattle.sg_types.specs.declared.typed.TypedExpr.{TypedExpr, fold-TypedExpr}
use Rattle.sg_types.specs.declared.typed.Form.TheOpen as f
use Rattle.sg_types.specs.declared.typed.Form.TheOpen.{Form-F}
use Rattle.sg_types.specs.declared.typed.TypedRange.{TypedRange}
use Rattle.sg_types.specs.declared.typed.TypedKind.TheOpen as k
use Rattle.sg_types.specs.declared.typed.TypedKind.TheOpen.{TypedKind-F}
use Rattle.sg_types.specs.declared.typed.TypedStmt.{TypedStmt, fold-TypedStmt}
use Rattle.sg_types.specs.declared.typed.TypedDomain.{TypedDomain}
use Rattle.sg_types.specs.declared.typed.TypedDomain.TheVariants as domain
use Rattle.sg_types.specs.declared.typed.TypedKernel.{TypedKernel}
use Rattle.sg_types.specs.Expressions.{equals_some}
use Rattle.sg_types.specs.TypeTable.{is_numeric, is_signed, is_truth, same_ty, bin_ty, un_ty}

-- a variable in scope, and whether it is a loop's
pub record Visible : Type 0 where
  pub var : ℕ
  pub is_loop : Bool

-- what expressions stand in: the layouts, the type of each variable, and the variables in scope
pub record Surroundings : Type 0 where
  pub shapes : List Shape
  pub types : List Ty
  pub scope : List Visible

-- how many axes a layout has, and the type of a field of it
abbrev pub axes_in : List Shape → ℕ → Option ℕ
axes_in shapes layout = option_map (λ shape. shape.axes) (slice_get shapes layout)

-- the type of the field at a place of a layout
abbrev pub field_in : List Shape → ℕ → ℕ → Option Ty
field_in shapes layout place = option_and_then (λ shape. slice_get shape.fields place) (slice_get shapes layout)

-- a type is there, and is this one
abbrev pub is_ty : Option Ty → Ty → Bool
is_ty None given = false
is_ty (Some it) given = same_ty it given

-- a variable is in scope
abbrev pub is_visible : List Visible → ℕ → Bool
is_visible scope var = list_any (λ seen. seen.var == var) scope

-- a variable is in scope, and is a local's
abbrev pub is_local : List Visible → ℕ → Bool
is_local scope var = list_any (λ seen. (seen.var == var) && not seen.is_loop) scope

-- ---- expressions

-- a part of an expression: its type, and whether it is well typed
abbrev pub Judged : Type 0
Judged = Ty × Bool

-- a part that may be an index: I32 and well typed
abbrev pub is_index : Judged → Bool
is_index part = is_signed part.0 && part.1

-- one layer of an expression, where its parts are judged: whether it has the given type; a truth value is 0 or 1
abbrev pub form_step : Surroundings → Form-F (Ty → Bool) Judged → Ty → Bool
form_step at (f.Literal word) given = is_numeric given || nat_lt word 2
form_step at (f.Constant word) given = is_numeric given
form_step at (f.Var var) given = is_visible at.scope var && is_ty (slice_get at.types var) given
form_step at (f.Read layout place index) given =
    is_ty (field_in at.shapes layout place) given && (equals_some (axes_in at.shapes layout) (length index) && list_all is_index index)
form_step at (f.Paren inner) given = same_ty inner.0 given && inner.1
form_step at (f.Un op operand) given = is_ty (un_ty op operand.0) given && operand.1
form_step at (f.Bin op left right) given = is_ty (bin_ty op left.0 right.0) given && (left.1 && right.1)
form_step at (f.Mulq a b s) given = is_signed given && (is_index a && (is_index b && is_index s))
form_step at (f.Convert inner) given = is_numeric given && (is_numeric inner.0 && inner.1)
form_step at (f.Active layout index) given = is_truth given && (equals_some (axes_in at.shapes layout) (length index) && list_all is_index index)

-- an expression with its type, judged
abbrev pub judged_expr : Surroundings → TypedExpr → Judged
judged_expr at = fold-TypedExpr (Ty → Bool) Judged (form_step at) (λ expr. (expr.ty, expr.form expr.ty))

-- every part of an expression has the type that the table gives it, and every access as many indices as its layout has axes
abbrev pub is_well_typed_expr : Surroundings → TypedExpr → Bool
is_well_typed_expr at expr = (judged_expr at expr).1

-- ---- statements

-- whether a statement is well typed with the variables in scope, and the variables in scope after it
abbrev pub Fitting : Type 0
Fitting = List Visible → Bool × List Visible

-- statements one after the other
abbrev pub all_fit : List Fitting → Fitting
all_fit [] scope = (true, scope)
all_fit (statement ∷ more) scope =
    ((statement scope).0 && (all_fit more (statement scope).1).0, (all_fit more (statement scope).1).1)

-- a setting of its parts
abbrev pub setting : List Shape → List Ty → List Visible → Surroundings
setting shapes types scope = record { shapes = shapes; types = types; scope = scope }

-- bounds of I32 that are well typed
abbrev pub is_well_typed_range : Surroundings → TypedRange → Bool
is_well_typed_range at range = (is_signed range.lo.ty && is_well_typed_expr at range.lo) && (is_signed range.hi.ty && is_well_typed_expr at range.hi)

-- One layer of a statement. A local is in scope from after its `let` to the end of its block, the variable of a loop in its block. Only
-- locals are assigned. Conditions are truth values, bounds and indices I32, and what is assigned or written has the type of the
-- variable or field.
abbrev pub kind_fits : List Shape → List Ty → TypedKind-F Fitting Fitting → Fitting
kind_fits shapes types (k.Let var value) scope =
    (is_well_typed_expr (setting shapes types scope) value && is_ty (slice_get types var) value.ty, record { var = var; is_loop = false } ∷ scope)
kind_fits shapes types (k.Assign var value) scope =
    (is_local scope var && (is_well_typed_expr (setting shapes types scope) value && is_ty (slice_get types var) value.ty), scope)
kind_fits shapes types (k.Write layout place index way value) scope = (
  (is_ty (field_in shapes layout place) value.ty && is_well_typed_expr (setting shapes types scope) value)
      && (equals_some (axes_in shapes layout) (length index) && list_all (λ part. is_signed part.ty && is_well_typed_expr (setting shapes types scope) part) index),
  scope,
)
kind_fits shapes types (k.If condition block otherwise has_else) scope =
    ((is_truth condition.ty && is_well_typed_expr (setting shapes types scope) condition) && ((all_fit block scope).0 && (all_fit otherwise scope).0), scope)
kind_fits shapes types (k.For var range body) scope = (
  is_well_typed_range (setting shapes types scope) range
      && (is_ty (slice_get types var) ty.I32 && (all_fit body (record { var = var; is_loop = true } ∷ scope)).0),
  scope,
)

-- whether a statement fits, and the variables that are in scope after it
abbrev pub fitting : List Shape → List Ty → TypedStmt → Fitting
fitting shapes types = fold-TypedStmt Fitting Fitting (kind_fits shapes types) (λ statement. statement.kind)

-- ---- kernels

-- a domain with as many axes as the loop has variables, and bounds that are well typed
abbrev pub is_well_typed_domain : List Shape → ℕ → TypedDomain → Bool
is_well_typed_domain shapes vars (domain.Walk layout) = equals_some (axes_in shapes layout) vars
is_well_typed_domain shapes vars (domain.Ranges ranges) = (length ranges == vars) && list_all (is_well_typed_range (setting shapes [] [])) ranges

-- the variables of a loop, the first with the given number
abbrev pub loop_scope : ℕ → ℕ → List Visible
loop_scope var zero = []
loop_scope var (suc n) = record { var = var; is_loop = true } ∷ loop_scope (suc var) n

-- a kernel is well typed over layouts
abbrev pub is_well_typed_kernel : List Shape → TypedKernel → Bool
is_well_typed_kernel shapes kernel =
    (is_well_typed_domain shapes kernel.vars kernel.domain && list_all (λ var. is_ty (slice_get kernel.types var) ty.I32) (range_with_len 0 kernel.vars))
    && (all_fit (map (fitting shapes kernel.types) kernel.body) (loop_scope 0 kernel.vars)).0
