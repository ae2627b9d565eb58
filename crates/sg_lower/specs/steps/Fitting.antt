-- Which expressions and statements can be lowered: reads have as many indices as axes, the own cell is named by the loop's variables
-- alone, no variable of the loop is set, and bounds of inner loops are constant.
use Rattle.std.specs.Prelude.{ℕ, Bool, true, not, ◌&&◌, ◌||◌, nat_le, List, map, length, Option, Some, None}
use Rattle.std.specs.List.{list_all}
use Rattle.sg_words.specs.declared.operators.Ty.{Ty}
use Rattle.sg_flat.specs.declared.effects.Way.{Way}
use Rattle.sg_types.specs.declared.typed.TypedExpr.{TypedExpr, fold-TypedExpr}
use Rattle.sg_types.specs.declared.typed.Form.TheVariants as form
use Rattle.sg_types.specs.declared.typed.Form.TheOpen as f
use Rattle.sg_types.specs.declared.typed.Form.TheOpen.{Form-F}
use Rattle.sg_types.specs.declared.typed.TypedKind.TheVariants as kind
use Rattle.sg_types.specs.declared.typed.TypedKind.TheOpen as k
use Rattle.sg_types.specs.declared.typed.TypedKind.TheOpen.{TypedKind-F}
use Rattle.sg_types.specs.declared.typed.TypedStmt.{TypedStmt, fold-TypedStmt}
use Rattle.sg_types.specs.Expressions.{equals_some}
use Rattle.sg_types.specs.WellTyped.{axes_in}
use Rattle.sg_types.specs.Values.{is_own}
use Rattle.sg_admit.specs.Bounds.{is_constant_range}
use Rattle.sg_admit.specs.Rules.{are_names}
use Rattle.sg_lower.specs.steps.Basis.{Basis, is_owned}

-- a part of an expression: the variable that it is the name of, and whether it can be lowered
abbrev pub Fitted : Type 0
Fitted = Option ℕ × Bool

-- a field is owned only outside slices, and where its indices are the loop's variables
abbrev pub fits_owned : Basis → ℕ → ℕ → Bool → Bool
fits_owned basis layout place named = not (is_owned basis.owned layout place) || (not basis.slicing && named)

-- one layer of an expression, where it is known of each part which name it is, if any, and whether it can be lowered
abbrev pub fit_step : Basis → Form-F Fitted Fitted → Fitted
fit_step basis (f.Literal word) = (None, true)
fit_step basis (f.Constant word) = (None, true)
fit_step basis (f.Var var) = (Some var, true)
fit_step basis (f.Read layout place index) = (
  None,
  equals_some (axes_in basis.shapes layout) (length index)
      && (fits_owned basis layout place (are_names basis.vars 0 (map (λ part. part.0) index)) && list_all (λ part. part.1) index),
)
fit_step basis (f.Paren inner) = (None, inner.1)
fit_step basis (f.Un op operand) = (None, operand.1)
fit_step basis (f.Bin op left right) = (None, left.1 && right.1)
fit_step basis (f.Mulq a b s) = (None, a.1 && (b.1 && s.1))
fit_step basis (f.Convert inner) = (None, inner.1)
fit_step basis (f.Active layout index) = (None, equals_some (axes_in basis.shapes layout) (length index) && list_all (λ part. part.1) index)

-- the variable that an expression is the bare name of, or none, and whether it can be lowered
abbrev pub fitted : Basis → TypedExpr → Fitted
fitted basis = fold-TypedExpr Fitted Fitted (fit_step basis) (λ expr. expr.form)

-- an expression can be lowered
abbrev pub can_be_lowered : Basis → TypedExpr → Bool
can_be_lowered basis expr = (fitted basis expr).1

-- its indices are exactly the loop's variables
abbrev pub is_own_index : Basis → List TypedExpr → Bool
is_own_index basis index = are_names basis.vars 0 (map (λ expr. (fitted basis expr).0) index)

-- a write can be lowered: in a slice by its indices alone
abbrev pub write_fits : Basis → ℕ → ℕ → List TypedExpr → Way → TypedExpr → Bool
write_fits basis layout place index way value =
    (equals_some (axes_in basis.shapes layout) (length index) && list_all (can_be_lowered basis) index)
    && (basis.slicing || (can_be_lowered basis value && (not (is_own way) || is_own_index basis index))) && (not (is_own way) || is_owned basis.owned layout place)

-- one layer of a statement, where it is known of each statement in it whether it can be lowered
abbrev pub lowered_layer : Basis → TypedKind-F Bool Bool → Bool
lowered_layer basis (k.Let var value) = nat_le basis.vars var && can_be_lowered basis value
lowered_layer basis (k.Assign var value) = nat_le basis.vars var && can_be_lowered basis value
lowered_layer basis (k.Write layout place index way value) = write_fits basis layout place index way value
lowered_layer basis (k.If condition block otherwise has_else) = can_be_lowered basis condition && (list_all (λ it. it) block && list_all (λ it. it) otherwise)
lowered_layer basis (k.For var range body) = nat_le basis.vars var && (is_constant_range range && list_all (λ it. it) body)

-- a statement can be lowered
abbrev pub stmt_fits : Basis → TypedStmt → Bool
stmt_fits basis = fold-TypedStmt Bool Bool (lowered_layer basis) (λ stmt. stmt.kind)

-- a question whether a coordinate is active
abbrev pub typed_active : Ty → ℕ → List TypedExpr → TypedExpr
typed_active ty layout index = record { ty = ty; form = form.Active layout index }

-- a read, and a write
abbrev pub typed_read : Ty → ℕ → ℕ → List TypedExpr → TypedExpr
typed_read ty layout place index = record { ty = ty; form = form.Read layout place index }

-- a write as the statement of this number
abbrev pub write_stmt : ℕ → ℕ → ℕ → List TypedExpr → Way → TypedExpr → TypedStmt
write_stmt number layout place index way value = record { number = number; kind = kind.Write layout place index way value }
