-- Whether an expression is clean, at each form.
use Rattle.std.proofs.Common.{◌≡◌, ℕ, Bool, true, false, not, ◌&&◌, List, ◌∙◌, ap}
use Rattle.std.specs.List.{list_all}
use Rattle.std.proofs.lemmas.List.Folds.{list_all-map}
use Rattle.sg_words.specs.declared.operators.Ty.{Ty}
use Rattle.sg_words.specs.declared.operators.BinOp.{BinOp}
use Rattle.sg_words.specs.declared.operators.UnOp.{UnOp}
use Rattle.sg_types.specs.declared.typed.TypedExpr.{TypedExpr}
use Rattle.sg_types.specs.declared.typed.Form.{Form}
use Rattle.sg_types.specs.declared.typed.Form.TheVariants as form
use Rattle.sg_types.specs.declared.typed.Form.TheOpen.{TypedExpr-F}
use Rattle.sg_admit.specs.Clean.{Unclean, clean_step, is_clean}
use Rattle.sg_admit.specs.Bounds.{constant_step, is_constant}
use Rattle.sg_types.proofs.Uses as folds

abbrev its_form : TypedExpr-F Bool Bool → Bool
its_form expr = expr.form

module _ (unclean : Unclean) where
  pub clean-Literal : (ty : Ty) (word : ℕ) → is_clean unclean (record { ty = ty; form = form.Literal word }) ≡ true
  clean-Literal ty word = folds.fold-Literal (clean_step unclean) its_form ty word

  pub clean-Constant : (ty : Ty) (word : ℕ) → is_clean unclean (record { ty = ty; form = form.Constant word }) ≡ true
  clean-Constant ty word = folds.fold-Constant (clean_step unclean) its_form ty word

  pub clean-Var : (ty : Ty) (var : ℕ) → is_clean unclean (record { ty = ty; form = form.Var var }) ≡ not (unclean.vars var)
  clean-Var ty var = folds.fold-Var (clean_step unclean) its_form ty var

  pub clean-Read : (ty : Ty) (layout place : ℕ) (index : List TypedExpr) → is_clean unclean (record { ty = ty; form = form.Read layout place index }) ≡ (not (unclean.fields layout place) && list_all (is_clean unclean) index)
  clean-Read ty layout place index = folds.fold-Read (clean_step unclean) its_form ty layout place index ∙ ap (λ (clean : Bool). not (unclean.fields layout place) && clean) (list_all-map (λ (clean : Bool). clean) (is_clean unclean) index)

  pub clean-Paren : (ty : Ty) (inner : TypedExpr) → is_clean unclean (record { ty = ty; form = form.Paren inner }) ≡ is_clean unclean inner
  clean-Paren ty inner = folds.fold-Paren (clean_step unclean) its_form ty inner

  pub clean-Un : (ty : Ty) (op : UnOp) (operand : TypedExpr) → is_clean unclean (record { ty = ty; form = form.Un op operand }) ≡ is_clean unclean operand
  clean-Un ty op operand = folds.fold-Un (clean_step unclean) its_form ty op operand

  pub clean-Bin : (ty : Ty) (op : BinOp) (left right : TypedExpr) → is_clean unclean (record { ty = ty; form = form.Bin op left right }) ≡ (is_clean unclean left && is_clean unclean right)
  clean-Bin ty op left right = folds.fold-Bin (clean_step unclean) its_form ty op left right

  pub clean-Mulq : (ty : Ty) (a b shift : TypedExpr) → is_clean unclean (record { ty = ty; form = form.Mulq a b shift }) ≡ (is_clean unclean a && (is_clean unclean b && is_clean unclean shift))
  clean-Mulq ty a b shift = folds.fold-Mulq (clean_step unclean) its_form ty a b shift

  pub clean-Convert : (ty : Ty) (inner : TypedExpr) → is_clean unclean (record { ty = ty; form = form.Convert inner }) ≡ is_clean unclean inner
  clean-Convert ty inner = folds.fold-Convert (clean_step unclean) its_form ty inner

  pub clean-Active : (ty : Ty) (layout : ℕ) (index : List TypedExpr) → is_clean unclean (record { ty = ty; form = form.Active layout index }) ≡ list_all (is_clean unclean) index
  clean-Active ty layout index = folds.fold-Active (clean_step unclean) its_form ty layout index ∙ list_all-map (λ (clean : Bool). clean) (is_clean unclean) index

-- whether it is constant
pub constant-Literal : (ty : Ty) (word : ℕ) → is_constant (record { ty = ty; form = form.Literal word }) ≡ true
constant-Literal ty word = folds.fold-Literal constant_step its_form ty word

pub constant-Constant : (ty : Ty) (word : ℕ) → is_constant (record { ty = ty; form = form.Constant word }) ≡ true
constant-Constant ty word = folds.fold-Constant constant_step its_form ty word

pub constant-Var : (ty : Ty) (var : ℕ) → is_constant (record { ty = ty; form = form.Var var }) ≡ false
constant-Var ty var = folds.fold-Var constant_step its_form ty var

pub constant-Read : (ty : Ty) (layout place : ℕ) (index : List TypedExpr) → is_constant (record { ty = ty; form = form.Read layout place index }) ≡ false
constant-Read ty layout place index = folds.fold-Read constant_step its_form ty layout place index

pub constant-Paren : (ty : Ty) (inner : TypedExpr) → is_constant (record { ty = ty; form = form.Paren inner }) ≡ is_constant inner
constant-Paren ty inner = folds.fold-Paren constant_step its_form ty inner

pub constant-Un : (ty : Ty) (op : UnOp) (operand : TypedExpr) → is_constant (record { ty = ty; form = form.Un op operand }) ≡ is_constant operand
constant-Un ty op operand = folds.fold-Un constant_step its_form ty op operand

pub constant-Bin : (ty : Ty) (op : BinOp) (left right : TypedExpr) → is_constant (record { ty = ty; form = form.Bin op left right }) ≡ (is_constant left && is_constant right)
constant-Bin ty op left right = folds.fold-Bin constant_step its_form ty op left right

pub constant-Mulq : (ty : Ty) (a b shift : TypedExpr) → is_constant (record { ty = ty; form = form.Mulq a b shift }) ≡ (is_constant a && (is_constant b && is_constant shift))
constant-Mulq ty a b shift = folds.fold-Mulq constant_step its_form ty a b shift

pub constant-Convert : (ty : Ty) (inner : TypedExpr) → is_constant (record { ty = ty; form = form.Convert inner }) ≡ is_constant inner
constant-Convert ty inner = folds.fold-Convert constant_step its_form ty inner

pub constant-Active : (ty : Ty) (layout : ℕ) (index : List TypedExpr) → is_constant (record { ty = ty; form = form.Active layout index }) ≡ false
constant-Active ty layout index = folds.fold-Active constant_step its_form ty layout index

-- a read, by its form, of a field that counts as unwritten
pub clean_read : (unclean : Unclean) (expr : TypedExpr) (layout place : ℕ) (index : List TypedExpr) → expr.form ≡ form.Read layout place index → unclean.fields layout place ≡ false
    → is_clean unclean expr ≡ list_all (is_clean unclean) index
clean_read unclean expr layout place index is unwritten =
    ap (λ (it : Form). is_clean unclean (record { ty = expr.ty; form = it })) is
    ∙ (clean-Read unclean expr.ty layout place index ∙ ap (λ (written : Bool). not written && list_all (is_clean unclean) index) unwritten)

-- a question, by its form
pub clean_active : (unclean : Unclean) (expr : TypedExpr) (layout : ℕ) (index : List TypedExpr) → expr.form ≡ form.Active layout index
    → is_clean unclean expr ≡ list_all (is_clean unclean) index
clean_active unclean expr layout index is =
    ap (λ (it : Form). is_clean unclean (record { ty = expr.ty; form = it })) is ∙ clean-Active unclean expr.ty layout index
