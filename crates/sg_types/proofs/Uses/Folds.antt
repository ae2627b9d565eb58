-- What a fold over typed expressions or statements is at each form, over any step.
use Rattle.std.proofs.Common.{◌≡◌, ℕ, Bool, List, map, sym, ap, ◌∙◌}
use Rattle.sg_words.specs.declared.operators.Ty.{Ty}
use Rattle.sg_words.specs.declared.operators.BinOp.{BinOp}
use Rattle.sg_words.specs.declared.operators.UnOp.{UnOp}
use Rattle.sg_flat.specs.declared.effects.Way.{Way}
use Rattle.sg_types.specs.declared.typed.TypedExpr.{TypedExpr, fold-TypedExpr, fold-roll-TypedExpr}
use Rattle.sg_types.specs.declared.typed.Form.{Form, fold-Form, fold-roll-Form}
use Rattle.sg_types.specs.declared.typed.Form.TheVariants as form
use Rattle.sg_types.specs.declared.typed.Form.TheVariants.{rolls-Literal, rolls-Constant, rolls-Var, rolls-Read, rolls-Paren, rolls-Un, rolls-Bin, rolls-Mulq, rolls-Convert, rolls-Active}
use Rattle.sg_types.specs.declared.typed.Form.TheOpen as f
use Rattle.sg_types.specs.declared.typed.Form.TheOpen.{Form-F, TypedExpr-F}
use Rattle.sg_types.specs.declared.typed.TypedRange.{TypedRange}
use Rattle.sg_types.specs.declared.typed.TypedKind.{TypedKind, fold-TypedKind, fold-roll-TypedKind}
use Rattle.sg_types.specs.declared.typed.TypedKind.TheVariants as kind
use Rattle.sg_types.specs.declared.typed.TypedKind.TheVariants.{rolls-Let, rolls-Assign, rolls-Write, rolls-If, rolls-For}
use Rattle.sg_types.specs.declared.typed.TypedKind.TheOpen as k
use Rattle.sg_types.specs.declared.typed.TypedKind.TheOpen.{TypedKind-F, TypedStmt-F}
use Rattle.sg_types.specs.declared.typed.TypedStmt.{TypedStmt, fold-TypedStmt, fold-roll-TypedStmt}

module _ {A A' : Type 0} (s : Form-F A A' → A) (s' : TypedExpr-F A A' → A') where
  abbrev whole : TypedExpr → A'
  whole = fold-TypedExpr A A' s s'

  abbrev in_form : Form → A
  in_form = fold-Form A A' s s'

  at_form : (ty : Ty) (it : Form) → whole (record { ty = ty; form = it }) ≡ s' (record { ty = ty; form = in_form it })
  at_form ty it = fold-roll-TypedExpr A A' s s' (record { ty = ty; form = it })

  pub fold-Literal : (ty : Ty) (word : ℕ) → fold-TypedExpr A A' s s' (record { ty = ty; form = form.Literal word }) ≡ s' (record { ty = ty; form = s (f.Literal word) })
  fold-Literal ty word = at_form ty (form.Literal word) ∙ ap (λ (it : A). s' (record { ty = ty; form = it })) (ap in_form (sym (rolls-Literal word)) ∙ fold-roll-Form A A' s s' (f.Literal word))

  pub fold-Constant : (ty : Ty) (word : ℕ) → fold-TypedExpr A A' s s' (record { ty = ty; form = form.Constant word }) ≡ s' (record { ty = ty; form = s (f.Constant word) })
  fold-Constant ty word = at_form ty (form.Constant word) ∙ ap (λ (it : A). s' (record { ty = ty; form = it })) (ap in_form (sym (rolls-Constant word)) ∙ fold-roll-Form A A' s s' (f.Constant word))

  pub fold-Var : (ty : Ty) (var : ℕ) → fold-TypedExpr A A' s s' (record { ty = ty; form = form.Var var }) ≡ s' (record { ty = ty; form = s (f.Var var) })
  fold-Var ty var = at_form ty (form.Var var) ∙ ap (λ (it : A). s' (record { ty = ty; form = it })) (ap in_form (sym (rolls-Var var)) ∙ fold-roll-Form A A' s s' (f.Var var))

  pub fold-Read : (ty : Ty) (layout place : ℕ) (index : List TypedExpr) → fold-TypedExpr A A' s s' (record { ty = ty; form = form.Read layout place index }) ≡ s' (record { ty = ty; form = s (f.Read layout place (map whole index)) })
  fold-Read ty layout place index = at_form ty (form.Read layout place index) ∙ ap (λ (it : A). s' (record { ty = ty; form = it })) (ap in_form (sym (rolls-Read layout place index)) ∙ fold-roll-Form A A' s s' (f.Read layout place index))

  pub fold-Paren : (ty : Ty) (inner : TypedExpr) → fold-TypedExpr A A' s s' (record { ty = ty; form = form.Paren inner }) ≡ s' (record { ty = ty; form = s (f.Paren (whole inner)) })
  fold-Paren ty inner = at_form ty (form.Paren inner) ∙ ap (λ (it : A). s' (record { ty = ty; form = it })) (ap in_form (sym (rolls-Paren inner)) ∙ fold-roll-Form A A' s s' (f.Paren inner))

  pub fold-Un : (ty : Ty) (op : UnOp) (operand : TypedExpr) → fold-TypedExpr A A' s s' (record { ty = ty; form = form.Un op operand }) ≡ s' (record { ty = ty; form = s (f.Un op (whole operand)) })
  fold-Un ty op operand = at_form ty (form.Un op operand) ∙ ap (λ (it : A). s' (record { ty = ty; form = it })) (ap in_form (sym (rolls-Un op operand)) ∙ fold-roll-Form A A' s s' (f.Un op operand))

  pub fold-Bin : (ty : Ty) (op : BinOp) (left right : TypedExpr) → fold-TypedExpr A A' s s' (record { ty = ty; form = form.Bin op left right }) ≡ s' (record { ty = ty; form = s (f.Bin op (whole left) (whole right)) })
  fold-Bin ty op left right = at_form ty (form.Bin op left right) ∙ ap (λ (it : A). s' (record { ty = ty; form = it })) (ap in_form (sym (rolls-Bin op left right)) ∙ fold-roll-Form A A' s s' (f.Bin op left right))

  pub fold-Mulq : (ty : Ty) (a b shift : TypedExpr) → fold-TypedExpr A A' s s' (record { ty = ty; form = form.Mulq a b shift }) ≡ s' (record { ty = ty; form = s (f.Mulq (whole a) (whole b) (whole shift)) })
  fold-Mulq ty a b shift = at_form ty (form.Mulq a b shift) ∙ ap (λ (it : A). s' (record { ty = ty; form = it })) (ap in_form (sym (rolls-Mulq a b shift)) ∙ fold-roll-Form A A' s s' (f.Mulq a b shift))

  pub fold-Convert : (ty : Ty) (inner : TypedExpr) → fold-TypedExpr A A' s s' (record { ty = ty; form = form.Convert inner }) ≡ s' (record { ty = ty; form = s (f.Convert (whole inner)) })
  fold-Convert ty inner = at_form ty (form.Convert inner) ∙ ap (λ (it : A). s' (record { ty = ty; form = it })) (ap in_form (sym (rolls-Convert inner)) ∙ fold-roll-Form A A' s s' (f.Convert inner))

  pub fold-Active : (ty : Ty) (layout : ℕ) (index : List TypedExpr) → fold-TypedExpr A A' s s' (record { ty = ty; form = form.Active layout index }) ≡ s' (record { ty = ty; form = s (f.Active layout (map whole index)) })
  fold-Active ty layout index = at_form ty (form.Active layout index) ∙ ap (λ (it : A). s' (record { ty = ty; form = it })) (ap in_form (sym (rolls-Active layout index)) ∙ fold-roll-Form A A' s s' (f.Active layout index))

module _ {A A' : Type 0} (s : TypedKind-F A A' → A) (s' : TypedStmt-F A A' → A') where
  abbrev whole_stmt : TypedStmt → A'
  whole_stmt = fold-TypedStmt A A' s s'

  abbrev in_kind : TypedKind → A
  in_kind = fold-TypedKind A A' s s'

  at_kind : (number : ℕ) (it : TypedKind) → whole_stmt (record { number = number; kind = it }) ≡ s' (record { number = number; kind = in_kind it })
  at_kind number it = fold-roll-TypedStmt A A' s s' (record { number = number; kind = it })

  pub fold-Let : (number : ℕ) (var : ℕ) (value : TypedExpr) → fold-TypedStmt A A' s s' (record { number = number; kind = kind.Let var value }) ≡ s' (record { number = number; kind = s (k.Let var value) })
  fold-Let number var value = at_kind number (kind.Let var value) ∙ ap (λ (it : A). s' (record { number = number; kind = it })) (ap in_kind (sym (rolls-Let var value)) ∙ fold-roll-TypedKind A A' s s' (k.Let var value))

  pub fold-Assign : (number : ℕ) (var : ℕ) (value : TypedExpr) → fold-TypedStmt A A' s s' (record { number = number; kind = kind.Assign var value }) ≡ s' (record { number = number; kind = s (k.Assign var value) })
  fold-Assign number var value = at_kind number (kind.Assign var value) ∙ ap (λ (it : A). s' (record { number = number; kind = it })) (ap in_kind (sym (rolls-Assign var value)) ∙ fold-roll-TypedKind A A' s s' (k.Assign var value))

  pub fold-Write : (number : ℕ) (layout place : ℕ) (index : List TypedExpr) (way : Way) (value : TypedExpr) → fold-TypedStmt A A' s s' (record { number = number; kind = kind.Write layout place index way value }) ≡ s' (record { number = number; kind = s (k.Write layout place index way value) })
  fold-Write number layout place index way value = at_kind number (kind.Write layout place index way value) ∙ ap (λ (it : A). s' (record { number = number; kind = it })) (ap in_kind (sym (rolls-Write layout place index way value)) ∙ fold-roll-TypedKind A A' s s' (k.Write layout place index way value))

  pub fold-If : (number : ℕ) (condition : TypedExpr) (block otherwise : List TypedStmt) (has_else : Bool) → fold-TypedStmt A A' s s' (record { number = number; kind = kind.If condition block otherwise has_else }) ≡ s' (record { number = number; kind = s (k.If condition (map whole_stmt block) (map whole_stmt otherwise) has_else) })
  fold-If number condition block otherwise has_else = at_kind number (kind.If condition block otherwise has_else) ∙ ap (λ (it : A). s' (record { number = number; kind = it })) (ap in_kind (sym (rolls-If condition block otherwise has_else)) ∙ fold-roll-TypedKind A A' s s' (k.If condition block otherwise has_else))

  pub fold-For : (number : ℕ) (var : ℕ) (range : TypedRange) (body : List TypedStmt) → fold-TypedStmt A A' s s' (record { number = number; kind = kind.For var range body }) ≡ s' (record { number = number; kind = s (k.For var range (map whole_stmt body)) })
  fold-For number var range body = at_kind number (kind.For var range body) ∙ ap (λ (it : A). s' (record { number = number; kind = it })) (ap in_kind (sym (rolls-For var range body)) ∙ fold-roll-TypedKind A A' s s' (k.For var range body))

-- all of them, to compute with
pub ruleset expr_folds = (fold-Literal, fold-Constant, fold-Var, fold-Read, fold-Paren, fold-Un, fold-Bin, fold-Mulq, fold-Convert, fold-Active)

pub ruleset stmt_folds = (fold-Let, fold-Assign, fold-Write, fold-If, fold-For)
