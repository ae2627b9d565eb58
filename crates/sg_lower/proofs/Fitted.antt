-- What can be lowered, at each form of expression and kind of statement.
use Rattle.std.proofs.Common.{◌≡◌, ℕ, Bool, ◌&&◌, nat_le, List, [], ◌∷◌, map, length, Option, refl, ap, ◌∙◌}
use Rattle.std.specs.List.{list_all}
use Rattle.std.proofs.lemmas.List.{length-map}
use Rattle.std.proofs.lemmas.List.Folds.{list_all-map}
use Rattle.sg_words.specs.declared.operators.Ty.{Ty}
use Rattle.sg_words.specs.declared.operators.BinOp.{BinOp}
use Rattle.sg_words.specs.declared.operators.UnOp.{UnOp}
use Rattle.sg_flat.specs.declared.effects.Way.{Way}
use Rattle.sg_types.specs.declared.typed.TypedExpr.{TypedExpr}
use Rattle.sg_types.specs.declared.typed.Form.TheVariants as form
use Rattle.sg_types.specs.declared.typed.Form.TheOpen.{TypedExpr-F}
use Rattle.sg_types.specs.declared.typed.TypedRange.{TypedRange}
use Rattle.sg_types.specs.declared.typed.TypedKind.TheVariants as kind
use Rattle.sg_types.specs.declared.typed.TypedKind.TheOpen.{TypedStmt-F}
use Rattle.sg_types.specs.declared.typed.TypedStmt.{TypedStmt}
use Rattle.sg_types.specs.Expressions.{equals_some}
use Rattle.sg_types.specs.WellTyped.{axes_in}
use Rattle.sg_types.proofs.Uses as folds
use Rattle.sg_admit.specs.Bounds.{is_constant_range}
use Rattle.sg_admit.specs.Rules.{are_names}
use Rattle.sg_lower.specs.steps.Basis.{Basis}
use Rattle.sg_lower.specs.steps.Fitting.{Fitted, fits_owned, fit_step, fitted, can_be_lowered, is_own_index, write_fits, lowered_layer, stmt_fits, typed_active, typed_read, write_stmt}

abbrev its_form : TypedExpr-F Fitted Fitted → Fitted
its_form expr = expr.form

abbrev its_kind : TypedStmt-F Bool Bool → Bool
its_kind stmt = stmt.kind

map-map : {A B C : Type 0} (g : B → C) (h : A → B) (xs : List A) → map g (map h xs) ≡ map (λ x. g (h x)) xs
map-map g h [] = refl
map-map g h (x ∷ xs) = ap (λ more. g (h x) ∷ more) (map-map g h xs)

module _ (basis : Basis) where
  pub fits-Paren : (ty : Ty) (inner : TypedExpr) → can_be_lowered basis (record { ty = ty; form = form.Paren inner }) ≡ can_be_lowered basis inner
  fits-Paren ty inner = ap (λ (p : Fitted). p.1) (folds.fold-Paren (fit_step basis) its_form ty inner)

  pub fits-Un : (ty : Ty) (op : UnOp) (operand : TypedExpr) → can_be_lowered basis (record { ty = ty; form = form.Un op operand }) ≡ can_be_lowered basis operand
  fits-Un ty op operand = ap (λ (p : Fitted). p.1) (folds.fold-Un (fit_step basis) its_form ty op operand)

  pub fits-Bin : (ty : Ty) (op : BinOp) (left right : TypedExpr) → can_be_lowered basis (record { ty = ty; form = form.Bin op left right }) ≡ (can_be_lowered basis left && can_be_lowered basis right)
  fits-Bin ty op left right = ap (λ (p : Fitted). p.1) (folds.fold-Bin (fit_step basis) its_form ty op left right)

  pub fits-Mulq : (ty : Ty) (a b shift : TypedExpr) → can_be_lowered basis (record { ty = ty; form = form.Mulq a b shift }) ≡ (can_be_lowered basis a && (can_be_lowered basis b && can_be_lowered basis shift))
  fits-Mulq ty a b shift = ap (λ (p : Fitted). p.1) (folds.fold-Mulq (fit_step basis) its_form ty a b shift)

  pub fits-Convert : (ty : Ty) (inner : TypedExpr) → can_be_lowered basis (record { ty = ty; form = form.Convert inner }) ≡ can_be_lowered basis inner
  fits-Convert ty inner = ap (λ (p : Fitted). p.1) (folds.fold-Convert (fit_step basis) its_form ty inner)

  read_parts : (layout place n : ℕ) (names : List (Option ℕ)) (parts : Bool) (index : List TypedExpr)
      → length (map (fitted basis) index) ≡ n → map (λ (part : Fitted). part.0) (map (fitted basis) index) ≡ names → list_all (λ (part : Fitted). part.1) (map (fitted basis) index) ≡ parts
      → (equals_some (axes_in basis.shapes layout) (length (map (fitted basis) index))
      && (fits_owned basis layout place (are_names basis.vars 0 (map (λ (part : Fitted). part.0) (map (fitted basis) index))) && list_all (λ (part : Fitted). part.1) (map (fitted basis) index)))
      ≡ (equals_some (axes_in basis.shapes layout) n && (fits_owned basis layout place (are_names basis.vars 0 names) && parts))
  read_parts layout place n names parts index h g k =
      ap (λ (m : ℕ). equals_some (axes_in basis.shapes layout) m && (fits_owned basis layout place (are_names basis.vars 0 (map (λ (part : Fitted). part.0) (map (fitted basis) index))) && list_all (λ (part : Fitted). part.1) (map (fitted basis) index))) h
      ∙ (ap (λ (it : List (Option ℕ)). equals_some (axes_in basis.shapes layout) n && (fits_owned basis layout place (are_names basis.vars 0 it) && list_all (λ (part : Fitted). part.1) (map (fitted basis) index))) g
      ∙ ap (λ (it : Bool). equals_some (axes_in basis.shapes layout) n && (fits_owned basis layout place (are_names basis.vars 0 names) && it)) k)

  pub fits-Read : (ty : Ty) (layout place : ℕ) (index : List TypedExpr) → can_be_lowered basis (typed_read ty layout place index)
      ≡ (equals_some (axes_in basis.shapes layout) (length index) && (fits_owned basis layout place (is_own_index basis index) && list_all (can_be_lowered basis) index))
  fits-Read ty layout place index =
      ap (λ (p : Fitted). p.1) (folds.fold-Read (fit_step basis) its_form ty layout place index)
      ∙ read_parts layout place (length index) (map (λ expr. (fitted basis expr).0) index) (list_all (can_be_lowered basis) index) index
      (length-map index (fitted basis)) (map-map (λ (part : Fitted). part.0) (fitted basis) index) (list_all-map (λ (part : Fitted). part.1) (fitted basis) index)

  pub fits-Active : (ty : Ty) (layout : ℕ) (index : List TypedExpr) → can_be_lowered basis (typed_active ty layout index)
      ≡ (equals_some (axes_in basis.shapes layout) (length index) && list_all (can_be_lowered basis) index)
  fits-Active ty layout index =
      ap (λ (p : Fitted). p.1) (folds.fold-Active (fit_step basis) its_form ty layout index)
      ∙ (ap (λ (n : ℕ). equals_some (axes_in basis.shapes layout) n && list_all (λ (part : Fitted). part.1) (map (fitted basis) index)) (length-map index (fitted basis))
      ∙ ap (λ (b : Bool). equals_some (axes_in basis.shapes layout) (length index) && b) (list_all-map (λ (part : Fitted). part.1) (fitted basis) index))

  pub fits-Let : (number var : ℕ) (value : TypedExpr) → stmt_fits basis (record { number = number; kind = kind.Let var value }) ≡ (nat_le basis.vars var && can_be_lowered basis value)
  fits-Let number var value = folds.fold-Let (lowered_layer basis) its_kind number var value

  pub fits-Assign : (number var : ℕ) (value : TypedExpr) → stmt_fits basis (record { number = number; kind = kind.Assign var value }) ≡ (nat_le basis.vars var && can_be_lowered basis value)
  fits-Assign number var value = folds.fold-Assign (lowered_layer basis) its_kind number var value

  pub fits-Write : (number layout place : ℕ) (index : List TypedExpr) (way : Way) (value : TypedExpr) → stmt_fits basis (write_stmt number layout place index way value) ≡ write_fits basis layout place index way value
  fits-Write number layout place index way value = folds.fold-Write (lowered_layer basis) its_kind number layout place index way value

  pub fits-If : (number : ℕ) (condition : TypedExpr) (block otherwise : List TypedStmt) (has_else : Bool) → stmt_fits basis (record { number = number; kind = kind.If condition block otherwise has_else })
      ≡ (can_be_lowered basis condition && (list_all (stmt_fits basis) block && list_all (stmt_fits basis) otherwise))
  fits-If number condition block otherwise has_else =
      folds.fold-If (lowered_layer basis) its_kind number condition block otherwise has_else
      ∙ (ap (λ (it : Bool). can_be_lowered basis condition && (it && list_all (λ (it : Bool). it) (map (stmt_fits basis) otherwise))) (list_all-map (λ (it : Bool). it) (stmt_fits basis) block)
      ∙ ap (λ (it : Bool). can_be_lowered basis condition && (list_all (stmt_fits basis) block && it)) (list_all-map (λ (it : Bool). it) (stmt_fits basis) otherwise))

  pub fits-For : (number var : ℕ) (range : TypedRange) (body : List TypedStmt) → stmt_fits basis (record { number = number; kind = kind.For var range body })
      ≡ (nat_le basis.vars var && (is_constant_range range && list_all (stmt_fits basis) body))
  fits-For number var range body =
      folds.fold-For (lowered_layer basis) its_kind number var range body
      ∙ ap (λ (it : Bool). nat_le basis.vars var && (is_constant_range range && it)) (list_all-map (λ (it : Bool). it) (stmt_fits basis) body)
