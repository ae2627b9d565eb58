-- What it is to be well typed at each form of expression and kind of statement.
use Rattle.std.proofs.Common.{◌≡◌, ℕ, Bool, true, false, ◌&&◌, ◌||◌, nat_lt, List, [], ◌∷◌, map, length, slice_get, refl, sym, ap, ◌∙◌}
use Rattle.std.specs.List.{list_all}
use Rattle.std.proofs.lemmas.List.Folds.{list_all-map}
use Rattle.std.proofs.Math.ListN.{length-map}
use Rattle.sg_words.specs.declared.operators.Ty.{Ty}
use Rattle.sg_words.specs.declared.operators.Ty.TheVariants as ty
use Rattle.sg_words.specs.declared.operators.BinOp.{BinOp}
use Rattle.sg_words.specs.declared.operators.UnOp.{UnOp}
use Rattle.sg_layout.specs.declared.shape.Shape.{Shape}
use Rattle.sg_flat.specs.declared.effects.Way.{Way}
use Rattle.sg_types.specs.declared.typed.TypedExpr.{TypedExpr}
use Rattle.sg_types.specs.declared.typed.Form.{Form, fold-Form, fold-roll-Form}
use Rattle.sg_types.specs.declared.typed.Form.TheVariants as form
use Rattle.sg_types.specs.declared.typed.Form.TheVariants.{rolls-Literal, rolls-Constant, rolls-Var, rolls-Read, rolls-Paren, rolls-Un, rolls-Bin, rolls-Mulq, rolls-Convert, rolls-Active}
use Rattle.sg_types.specs.declared.typed.Form.TheOpen as f
use Rattle.sg_types.specs.declared.typed.Form.TheOpen.{TypedExpr-F}
use Rattle.sg_types.specs.declared.typed.TypedRange.{TypedRange}
use Rattle.sg_types.specs.declared.typed.TypedKind.{TypedKind, fold-TypedKind, fold-roll-TypedKind}
use Rattle.sg_types.specs.declared.typed.TypedKind.TheVariants as kind
use Rattle.sg_types.specs.declared.typed.TypedKind.TheVariants.{rolls-Let, rolls-Assign, rolls-Write, rolls-If, rolls-For}
use Rattle.sg_types.specs.declared.typed.TypedKind.TheOpen as k
use Rattle.sg_types.specs.declared.typed.TypedKind.TheOpen.{TypedStmt-F}
use Rattle.sg_types.specs.declared.typed.TypedStmt.{TypedStmt}
use Rattle.sg_types.specs.TypeTable.{is_numeric, is_signed, is_truth, same_ty, bin_ty, un_ty}
use Rattle.sg_types.specs.Expressions.{equals_some}
use Rattle.sg_types.specs.WellTyped.{Visible, Surroundings, setting, Judged, form_step, is_index, judged_expr, is_well_typed_expr, is_ty, field_in, axes_in, is_visible, is_local, Fitting, all_fit, kind_fits, fitting, is_well_typed_range}
use Rattle.sg_types.proofs.FoldWords.{fold-expr, fold-stmt}

abbrev shown_judged : TypedExpr-F (Ty → Bool) Judged → Judged
shown_judged expr = (expr.ty, expr.form expr.ty)

abbrev shown_fitting : TypedStmt-F Fitting Fitting → Fitting
shown_fitting statement = statement.kind

list_all-same : {X : Type 0} (p q : X → Bool) → ((x : X) → p x ≡ q x) → (xs : List X) → list_all p xs ≡ list_all q xs
list_all-same p q h [] = refl
list_all-same p q h (x ∷ xs) = ap (λ b. b && list_all p xs) (h x) ∙ ap (λ b. q x && b) (list_all-same p q h xs)

type_judged : (at : Surroundings) (expr : TypedExpr) → (judged_expr at expr).0 ≡ expr.ty
type_judged at expr = ap (λ (p : Judged). p.0) (fold-expr (Ty → Bool) Judged (form_step at) shown_judged expr)

module _ (at : Surroundings) (given : Ty) where
  abbrev has : Form → Bool
  has it = fold-Form (Ty → Bool) Judged (form_step at) shown_judged it given

  has_form : (it : Form) → is_well_typed_expr at (record { ty = given; form = it }) ≡ has it
  has_form it = ap (λ (p : Judged). p.1) (fold-expr (Ty → Bool) Judged (form_step at) shown_judged (record { ty = given; form = it }))

  index_is : (part : TypedExpr) → is_index (judged_expr at part) ≡ (is_signed part.ty && is_well_typed_expr at part)
  index_is part = ap (λ (t : Ty). is_signed t && is_well_typed_expr at part) (type_judged at part)

  pub fits-Literal : (word : ℕ) → is_well_typed_expr at (record { ty = given; form = form.Literal word }) ≡ (is_numeric given || nat_lt word 2)
  fits-Literal word = has_form (form.Literal word) ∙ (ap has (sym (rolls-Literal word)) ∙ ap (λ (it : Ty → Bool). it given) (fold-roll-Form (Ty → Bool) Judged (form_step at) shown_judged (f.Literal word)))

  pub fits-Constant : (word : ℕ) → is_well_typed_expr at (record { ty = given; form = form.Constant word }) ≡ is_numeric given
  fits-Constant word = has_form (form.Constant word) ∙ (ap has (sym (rolls-Constant word)) ∙ ap (λ (it : Ty → Bool). it given) (fold-roll-Form (Ty → Bool) Judged (form_step at) shown_judged (f.Constant word)))

  pub fits-Var : (var : ℕ) → is_well_typed_expr at (record { ty = given; form = form.Var var }) ≡ (is_visible at.scope var && is_ty (slice_get at.types var) given)
  fits-Var var = has_form (form.Var var) ∙ (ap has (sym (rolls-Var var)) ∙ ap (λ (it : Ty → Bool). it given) (fold-roll-Form (Ty → Bool) Judged (form_step at) shown_judged (f.Var var)))

  pub fits-Read : (layout place : ℕ) (index : List TypedExpr) → is_well_typed_expr at (record { ty = given; form = form.Read layout place index })
      ≡ (is_ty (field_in at.shapes layout place) given && (equals_some (axes_in at.shapes layout) (length index) && list_all (λ part. is_signed part.ty && is_well_typed_expr at part) index))
  fits-Read layout place index = has_form (form.Read layout place index) ∙ (ap has (sym (rolls-Read layout place index)) ∙ (ap (λ (it : Ty → Bool). it given) (fold-roll-Form (Ty → Bool) Judged (form_step at) shown_judged (f.Read layout place index))
      ∙ (rw (length-map, list_all-map) refl ∙ ap (λ x. is_ty (field_in at.shapes layout place) given && (equals_some (axes_in at.shapes layout) (length index) && x)) (list_all-same (λ part. is_index (judged_expr at part)) (λ part. is_signed part.ty && is_well_typed_expr at part) index_is index))))

  pub fits-Paren : (inner : TypedExpr) → is_well_typed_expr at (record { ty = given; form = form.Paren inner }) ≡ (same_ty inner.ty given && is_well_typed_expr at inner)
  fits-Paren inner = has_form (form.Paren inner) ∙ (ap has (sym (rolls-Paren inner)) ∙ (ap (λ (it : Ty → Bool). it given) (fold-roll-Form (Ty → Bool) Judged (form_step at) shown_judged (f.Paren inner)) ∙ ap (λ (t : Ty). same_ty t given && is_well_typed_expr at inner) (type_judged at inner)))

  pub fits-Un : (op : UnOp) (operand : TypedExpr) → is_well_typed_expr at (record { ty = given; form = form.Un op operand }) ≡ (is_ty (un_ty op operand.ty) given && is_well_typed_expr at operand)
  fits-Un op operand = has_form (form.Un op operand) ∙ (ap has (sym (rolls-Un op operand)) ∙ (ap (λ (it : Ty → Bool). it given) (fold-roll-Form (Ty → Bool) Judged (form_step at) shown_judged (f.Un op operand)) ∙ ap (λ (t : Ty). is_ty (un_ty op t) given && is_well_typed_expr at operand) (type_judged at operand)))

  pub fits-Bin : (op : BinOp) (left right : TypedExpr) → is_well_typed_expr at (record { ty = given; form = form.Bin op left right }) ≡ (is_ty (bin_ty op left.ty right.ty) given && (is_well_typed_expr at left && is_well_typed_expr at right))
  fits-Bin op left right = has_form (form.Bin op left right) ∙ (ap has (sym (rolls-Bin op left right)) ∙ (ap (λ (it : Ty → Bool). it given) (fold-roll-Form (Ty → Bool) Judged (form_step at) shown_judged (f.Bin op left right)) ∙ (ap (λ (t : Ty). is_ty (bin_ty op t (judged_expr at right).0) given && (is_well_typed_expr at left && is_well_typed_expr at right)) (type_judged at left) ∙ ap (λ (t : Ty). is_ty (bin_ty op left.ty t) given && (is_well_typed_expr at left && is_well_typed_expr at right)) (type_judged at right))))

  pub fits-Mulq : (a b s : TypedExpr) → is_well_typed_expr at (record { ty = given; form = form.Mulq a b s })
      ≡ (is_signed given && ((is_signed a.ty && is_well_typed_expr at a) && ((is_signed b.ty && is_well_typed_expr at b) && (is_signed s.ty && is_well_typed_expr at s))))
  fits-Mulq a b s = has_form (form.Mulq a b s) ∙ (ap has (sym (rolls-Mulq a b s)) ∙ (ap (λ (it : Ty → Bool). it given) (fold-roll-Form (Ty → Bool) Judged (form_step at) shown_judged (f.Mulq a b s)) ∙ (ap (λ x. is_signed given && (x && (is_index (judged_expr at b) && is_index (judged_expr at s)))) (index_is a) ∙ (ap (λ x. is_signed given && ((is_signed a.ty && is_well_typed_expr at a) && (x && is_index (judged_expr at s)))) (index_is b) ∙ ap (λ x. is_signed given && ((is_signed a.ty && is_well_typed_expr at a) && ((is_signed b.ty && is_well_typed_expr at b) && x))) (index_is s)))))

  pub fits-Convert : (inner : TypedExpr) → is_well_typed_expr at (record { ty = given; form = form.Convert inner }) ≡ (is_numeric given && (is_numeric inner.ty && is_well_typed_expr at inner))
  fits-Convert inner = has_form (form.Convert inner) ∙ (ap has (sym (rolls-Convert inner)) ∙ (ap (λ (it : Ty → Bool). it given) (fold-roll-Form (Ty → Bool) Judged (form_step at) shown_judged (f.Convert inner)) ∙ ap (λ (t : Ty). is_numeric given && (is_numeric t && is_well_typed_expr at inner)) (type_judged at inner)))

  pub fits-Active : (layout : ℕ) (index : List TypedExpr) → is_well_typed_expr at (record { ty = given; form = form.Active layout index })
      ≡ (is_truth given && (equals_some (axes_in at.shapes layout) (length index) && list_all (λ part. is_signed part.ty && is_well_typed_expr at part) index))
  fits-Active layout index = has_form (form.Active layout index) ∙ (ap has (sym (rolls-Active layout index)) ∙ (ap (λ (it : Ty → Bool). it given) (fold-roll-Form (Ty → Bool) Judged (form_step at) shown_judged (f.Active layout index))
      ∙ (rw (length-map, list_all-map) refl ∙ ap (λ x. is_truth given && (equals_some (axes_in at.shapes layout) (length index) && x)) (list_all-same (λ part. is_index (judged_expr at part)) (λ part. is_signed part.ty && is_well_typed_expr at part) index_is index))))

module _ (shapes : List Shape) (types : List Ty) (number : ℕ) where
  abbrev fits_as : TypedKind → Fitting
  fits_as = fold-TypedKind Fitting Fitting (kind_fits shapes types) shown_fitting

  fits_kind : (it : TypedKind) (scope : List Visible) → fitting shapes types (record { number = number; kind = it }) scope ≡ fits_as it scope
  fits_kind it scope = ap (λ (step : Fitting). step scope) (fold-stmt Fitting Fitting (kind_fits shapes types) shown_fitting (record { number = number; kind = it }))

  pub fitting-Let : (var : ℕ) (value : TypedExpr) (scope : List Visible) → fitting shapes types (record { number = number; kind = kind.Let var value }) scope
      ≡ (is_well_typed_expr (setting shapes types scope) value && is_ty (slice_get types var) value.ty, record { var = var; is_loop = false } ∷ scope)
  fitting-Let var value scope = fits_kind (kind.Let var value) scope ∙ (ap (λ (it : TypedKind). fits_as it scope) (sym (rolls-Let var value)) ∙ ap (λ (it : Fitting). it scope) (fold-roll-TypedKind Fitting Fitting (kind_fits shapes types) shown_fitting (k.Let var value)))

  pub fitting-Assign : (var : ℕ) (value : TypedExpr) (scope : List Visible) → fitting shapes types (record { number = number; kind = kind.Assign var value }) scope
      ≡ (is_local scope var && (is_well_typed_expr (setting shapes types scope) value && is_ty (slice_get types var) value.ty), scope)
  fitting-Assign var value scope = fits_kind (kind.Assign var value) scope ∙ (ap (λ (it : TypedKind). fits_as it scope) (sym (rolls-Assign var value)) ∙ ap (λ (it : Fitting). it scope) (fold-roll-TypedKind Fitting Fitting (kind_fits shapes types) shown_fitting (k.Assign var value)))

  pub fitting-Write : (layout place : ℕ) (index : List TypedExpr) (way : Way) (value : TypedExpr) (scope : List Visible) → fitting shapes types (record { number = number; kind = kind.Write layout place index way value }) scope
      ≡ (
        (is_ty (field_in shapes layout place) value.ty && is_well_typed_expr (setting shapes types scope) value)
            && (equals_some (axes_in shapes layout) (length index) && list_all (λ part. is_signed part.ty && is_well_typed_expr (setting shapes types scope) part) index),
        scope,
      )
  fitting-Write layout place index way value scope = fits_kind (kind.Write layout place index way value) scope ∙ (ap (λ (it : TypedKind). fits_as it scope) (sym (rolls-Write layout place index way value)) ∙ ap (λ (it : Fitting). it scope) (fold-roll-TypedKind Fitting Fitting (kind_fits shapes types) shown_fitting (k.Write layout place index way value)))

  pub fitting-If : (condition : TypedExpr) (block otherwise : List TypedStmt) (has_else : Bool) (scope : List Visible) → fitting shapes types (record { number = number; kind = kind.If condition block otherwise has_else }) scope
      ≡ (
        (is_truth condition.ty && is_well_typed_expr (setting shapes types scope) condition)
            && ((all_fit (map (fitting shapes types) block) scope).0 && (all_fit (map (fitting shapes types) otherwise) scope).0),
        scope,
      )
  fitting-If condition block otherwise has_else scope = fits_kind (kind.If condition block otherwise has_else) scope ∙ (ap (λ (it : TypedKind). fits_as it scope) (sym (rolls-If condition block otherwise has_else)) ∙ ap (λ (it : Fitting). it scope) (fold-roll-TypedKind Fitting Fitting (kind_fits shapes types) shown_fitting (k.If condition block otherwise has_else)))

  pub fitting-For : (var : ℕ) (range : TypedRange) (body : List TypedStmt) (scope : List Visible) → fitting shapes types (record { number = number; kind = kind.For var range body }) scope
      ≡ (
        is_well_typed_range (setting shapes types scope) range
            && (is_ty (slice_get types var) ty.I32 && (all_fit (map (fitting shapes types) body) (record { var = var; is_loop = true } ∷ scope)).0),
        scope,
      )
  fitting-For var range body scope = fits_kind (kind.For var range body) scope ∙ (ap (λ (it : TypedKind). fits_as it scope) (sym (rolls-For var range body)) ∙ ap (λ (it : Fitting). it scope) (fold-roll-TypedKind Fitting Fitting (kind_fits shapes types) shown_fitting (k.For var range body)))
