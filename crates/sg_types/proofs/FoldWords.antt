-- Folds of expressions and statements, one layer down.
use Rattle.std.proofs.Common.{◌≡◌}
use Rattle.sg_types.specs.declared.typed.TypedExpr.{TypedExpr, fold-TypedExpr, fold-roll-TypedExpr}
use Rattle.sg_types.specs.declared.typed.Form.{fold-Form}
use Rattle.sg_types.specs.declared.typed.Form.TheOpen.{Form-F, TypedExpr-F}
use Rattle.sg_types.specs.declared.typed.TypedStmt.{TypedStmt, fold-TypedStmt, fold-roll-TypedStmt}
use Rattle.sg_types.specs.declared.typed.TypedKind.{fold-TypedKind}
use Rattle.sg_types.specs.declared.typed.TypedKind.TheOpen.{TypedKind-F, TypedStmt-F}

pub fold-expr : (A A' : Type 0) (s : Form-F A A' → A) (s' : TypedExpr-F A A' → A') (e : TypedExpr) → fold-TypedExpr A A' s s' e ≡ s' (record { ty = e.ty; form = fold-Form A A' s s' e.form })
fold-expr A A' s s' e = fold-roll-TypedExpr A A' s s' (record { ty = e.ty; form = e.form })

pub fold-stmt : (A A' : Type 0) (s : TypedKind-F A A' → A) (s' : TypedStmt-F A A' → A') (e : TypedStmt) → fold-TypedStmt A A' s s' e ≡ s' (record { number = e.number; kind = fold-TypedKind A A' s s' e.kind })
fold-stmt A A' s s' e = fold-roll-TypedStmt A A' s s' (record { number = e.number; kind = e.kind })
