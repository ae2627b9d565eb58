-- Induction over typed expressions and statements.
use Rattle.std.proofs.Common.{◌≡◌, ℕ, Bool, List, [], ◌∷◌, map, subst}
use Rattle.std.specs.List.{AllByRecursion}
use Rattle.sg_words.specs.declared.operators.Ty.{Ty}
use Rattle.sg_words.specs.declared.operators.BinOp.{BinOp}
use Rattle.sg_words.specs.declared.operators.UnOp.{UnOp}
use Rattle.sg_flat.specs.declared.effects.Way.{Way}
use Rattle.sg_types.specs.declared.typed.TypedExpr.{TypedExpr, ind-TypedExpr}
use Rattle.sg_types.specs.declared.typed.Form.{Form, roll-Form, map-Form}
use Rattle.sg_types.specs.declared.typed.Form.TheVariants as form
use Rattle.sg_types.specs.declared.typed.Form.TheVariants.{rolls-Literal, rolls-Constant, rolls-Var, rolls-Read, rolls-Paren, rolls-Un, rolls-Bin, rolls-Mulq, rolls-Convert, rolls-Active}
use Rattle.sg_types.specs.declared.typed.Form.TheOpen as f
use Rattle.sg_types.specs.declared.typed.Form.TheOpen.{Form-F}
use Rattle.sg_types.specs.declared.typed.TypedRange.{TypedRange}
use Rattle.sg_types.specs.declared.typed.TypedStmt.{TypedStmt, ind-TypedStmt}
use Rattle.sg_types.specs.declared.typed.TypedKind.{TypedKind, roll-TypedKind, map-TypedKind}
use Rattle.sg_types.specs.declared.typed.TypedKind.TheVariants as kind
use Rattle.sg_types.specs.declared.typed.TypedKind.TheVariants.{rolls-Let, rolls-Assign, rolls-Write, rolls-If, rolls-For}
use Rattle.sg_types.specs.declared.typed.TypedKind.TheOpen as k
use Rattle.sg_types.specs.declared.typed.TypedKind.TheOpen.{TypedKind-F}

-- what holds of each part
all_parts : {A B : Type 0} (P : B → Type 0) (b : A → B) → ((u : A) → P (b u)) → (parts : List A) → AllByRecursion P (map b parts)
all_parts P b h [] = tt
all_parts P b h (u ∷ parts) = (h u, all_parts P b h parts)

-- a claim on every expression, from the claim on each form if it holds of the parts
module _ (P : TypedExpr → Type 0)
    (on_literal : (ty : Ty) (word : ℕ) → P (record { ty = ty; form = form.Literal word }))
    (on_constant : (ty : Ty) (word : ℕ) → P (record { ty = ty; form = form.Constant word }))
    (on_var : (ty : Ty) (var : ℕ) → P (record { ty = ty; form = form.Var var }))
    (on_read : (ty : Ty) (layout place : ℕ) (index : List TypedExpr) → AllByRecursion P index → P (record { ty = ty; form = form.Read layout place index }))
    (on_paren : (ty : Ty) (inner : TypedExpr) → P inner → P (record { ty = ty; form = form.Paren inner }))
    (on_un : (ty : Ty) (op : UnOp) (operand : TypedExpr) → P operand → P (record { ty = ty; form = form.Un op operand }))
    (on_bin : (ty : Ty) (op : BinOp) (left right : TypedExpr) → P left → P right → P (record { ty = ty; form = form.Bin op left right }))
    (on_mulq : (ty : Ty) (a b shift : TypedExpr) → P a → P b → P shift → P (record { ty = ty; form = form.Mulq a b shift }))
    (on_convert : (ty : Ty) (inner : TypedExpr) → P inner → P (record { ty = ty; form = form.Convert inner }))
    (on_active : (ty : Ty) (layout : ℕ) (index : List TypedExpr) → AllByRecursion P index → P (record { ty = ty; form = form.Active layout index })) where
  abbrev AtForm : Form → Type 0
  AtForm it = (ty : Ty) → P (record { ty = ty; form = it })

  form_layer : {A B : Type 0} (a : A → Form) (b : B → TypedExpr) → ((u : B) → P (b u)) → (y : Form-F A B) → AtForm (roll-Form (map-Form A B Form TypedExpr a b y))
  form_layer a b h (f.Literal word) ty = rw (rolls-Literal word) (on_literal ty word)
  form_layer a b h (f.Constant word) ty = rw (rolls-Constant word) (on_constant ty word)
  form_layer a b h (f.Var var) ty = rw (rolls-Var var) (on_var ty var)
  form_layer a b h (f.Read layout place index) ty = rw (rolls-Read layout place (map b index)) (on_read ty layout place (map b index) (all_parts P b h index))
  form_layer a b h (f.Paren inner) ty = rw (rolls-Paren (b inner)) (on_paren ty (b inner) (h inner))
  form_layer a b h (f.Un op operand) ty = rw (rolls-Un op (b operand)) (on_un ty op (b operand) (h operand))
  form_layer a b h (f.Bin op left right) ty = rw (rolls-Bin op (b left) (b right)) (on_bin ty op (b left) (b right) (h left) (h right))
  form_layer a b h (f.Mulq x y shift) ty = rw (rolls-Mulq (b x) (b y) (b shift)) (on_mulq ty (b x) (b y) (b shift) (h x) (h y) (h shift))
  form_layer a b h (f.Convert inner) ty = rw (rolls-Convert (b inner)) (on_convert ty (b inner) (h inner))
  form_layer a b h (f.Active layout index) ty = rw (rolls-Active layout (map b index)) (on_active ty layout (map b index) (all_parts P b h index))

  pub by_exprs : (expr : TypedExpr) → P expr
  by_exprs = ind-TypedExpr AtForm P (λ x y e. subst (λ x. AtForm (roll-Form x)) e (form_layer (λ u. u.0) (λ u. u.0) (λ u. u.1) y))
      (λ x y e. subst (λ x. P (record { ty = x.ty; form = x.form })) e (y.form.1 y.ty))

  pub all_exprs : (exprs : List TypedExpr) → AllByRecursion P exprs
  all_exprs [] = tt
  all_exprs (expr ∷ exprs) = (by_exprs expr, all_exprs exprs)

-- a claim on every statement, from the claim on each kind if it holds of the statements in it
module _ (P : TypedStmt → Type 0)
    (on_let : (number : ℕ) (var : ℕ) (value : TypedExpr) → P (record { number = number; kind = kind.Let var value }))
    (on_assign : (number : ℕ) (var : ℕ) (value : TypedExpr) → P (record { number = number; kind = kind.Assign var value }))
    (on_write : (number : ℕ) (layout place : ℕ) (index : List TypedExpr) (way : Way) (value : TypedExpr) → P (record { number = number; kind = kind.Write layout place index way value }))
    (on_if : (number : ℕ) (condition : TypedExpr) (block otherwise : List TypedStmt) (has_else : Bool) → AllByRecursion P block → AllByRecursion P otherwise → P (record { number = number; kind = kind.If condition block otherwise has_else }))
    (on_for : (number : ℕ) (var : ℕ) (range : TypedRange) (body : List TypedStmt) → AllByRecursion P body → P (record { number = number; kind = kind.For var range body })) where
  abbrev AtKind : TypedKind → Type 0
  AtKind it = (number : ℕ) → P (record { number = number; kind = it })

  kind_layer : {A B : Type 0} (a : A → TypedKind) (b : B → TypedStmt) → ((u : B) → P (b u)) → (y : TypedKind-F A B) → AtKind (roll-TypedKind (map-TypedKind A B TypedKind TypedStmt a b y))
  kind_layer a b h (k.Let var value) number = rw (rolls-Let var value) (on_let number var value)
  kind_layer a b h (k.Assign var value) number = rw (rolls-Assign var value) (on_assign number var value)
  kind_layer a b h (k.Write layout place index way value) number = rw (rolls-Write layout place index way value) (on_write number layout place index way value)
  kind_layer a b h (k.If condition block otherwise has_else) number = rw (rolls-If condition (map b block) (map b otherwise) has_else) (on_if number condition (map b block) (map b otherwise) has_else (all_parts P b h block) (all_parts P b h otherwise))
  kind_layer a b h (k.For var range body) number = rw (rolls-For var range (map b body)) (on_for number var range (map b body) (all_parts P b h body))

  pub by_stmts : (stmt : TypedStmt) → P stmt
  by_stmts = ind-TypedStmt AtKind P (λ x y e. subst (λ x. AtKind (roll-TypedKind x)) e (kind_layer (λ u. u.0) (λ u. u.0) (λ u. u.1) y))
      (λ x y e. subst (λ x. P (record { number = x.number; kind = x.kind })) e (y.kind.1 y.number))

  pub all_stmts : (stmts : List TypedStmt) → AllByRecursion P stmts
  all_stmts [] = tt
  all_stmts (stmt ∷ stmts) = (by_stmts stmt, all_stmts stmts)
