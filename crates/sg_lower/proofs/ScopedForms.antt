-- Clean expressions are well typed wherever their clean variables are in scope.
use Rattle.std.proofs.Common.{◌≡◌, ℕ, Bool, true, false, not, ◌&&◌, List, [], ◌∷◌, map, length, slice_get, refl, sym, ap, ◌∙◌}
use Rattle.std.specs.List.{list_all, AllByRecursion}
use Rattle.std.proofs.lemmas.Bool.{and_parts, and_from, both_ways, not-true}
use Rattle.std.proofs.lemmas.List.{length-map}
use Rattle.sg_words.specs.declared.operators.Ty.{Ty}
use Rattle.sg_layout.specs.declared.shape.Shape.{Shape}
use Rattle.sg_types.specs.declared.typed.TypedExpr.{TypedExpr}
use Rattle.sg_types.specs.declared.typed.Form.TheOpen.{TypedExpr-F}
use Rattle.sg_types.specs.declared.typed.TypedRange.{TypedRange}
use Rattle.sg_types.specs.Expressions.{equals_some}
use Rattle.sg_types.specs.TypeTable.{is_numeric, is_signed, is_truth, same_ty, bin_ty, un_ty}
use Rattle.sg_types.specs.WellTyped.{Visible, Surroundings, setting, is_visible, is_ty, field_in, axes_in, Judged, is_index, form_step, judged_expr, is_well_typed_expr, is_well_typed_range}
use Rattle.sg_types.proofs.Uses as folds
use Rattle.sg_types.proofs.Uses.{by_exprs}
use Rattle.sg_admit.specs.Clean.{Unclean, clean_step, is_clean}
use Rattle.sg_admit.specs.Bounds.{constant_step, is_constant, is_constant_range}
use Rattle.sg_lower.specs.steps.Typing.{is_part}
use Rattle.sg_lower.proofs.ExprFits.{its_clean}
use Rattle.sg_lower.proofs.TypeWords.{judged_ty}

abbrev its_judged : TypedExpr-F (Ty → Bool) Judged → Judged
its_judged expr = (expr.ty, expr.form expr.ty)

abbrev its_constant : TypedExpr-F Bool Bool → Bool
its_constant expr = expr.form

abbrev well_in : Judged → Bool
well_in part = part.1

-- what is constant is clean
module _ (unclean : Unclean) where
  abbrev IsClean : TypedExpr → Type 0
  IsClean expr = is_constant expr ≡ true → is_clean unclean expr ≡ true

  pub constant_clean : (expr : TypedExpr) → IsClean expr
  constant_clean = by_exprs IsClean
      (λ ty word h. folds.fold-Literal (clean_step unclean) its_clean ty word)
      (λ ty word h. folds.fold-Constant (clean_step unclean) its_clean ty word)
      (λ ty var h. absurd (both_ways false refl (sym (folds.fold-Var constant_step its_constant ty var) ∙ h)))
      (λ ty layout place index all h. absurd (both_ways false refl (sym (folds.fold-Read constant_step its_constant ty layout place index) ∙ h)))
      (λ ty inner k h. folds.fold-Paren (clean_step unclean) its_clean ty inner ∙ k (sym (folds.fold-Paren constant_step its_constant ty inner) ∙ h))
      (λ ty op operand k h. folds.fold-Un (clean_step unclean) its_clean ty op operand ∙ k (sym (folds.fold-Un constant_step its_constant ty op operand) ∙ h))
      (λ ty op left right k l h.
      let p = and_parts (is_constant left) (is_constant right) (sym (folds.fold-Bin constant_step its_constant ty op left right) ∙ h) in
      folds.fold-Bin (clean_step unclean) its_clean ty op left right ∙ and_from (is_clean unclean left) (is_clean unclean right) (k p.0) (l p.1))
      (λ ty a b shift k l m h.
      let p = and_parts (is_constant a) (is_constant b && is_constant shift) (sym (folds.fold-Mulq constant_step its_constant ty a b shift) ∙ h) in
      let q = and_parts (is_constant b) (is_constant shift) p.1 in
      folds.fold-Mulq (clean_step unclean) its_clean ty a b shift ∙ and_from (is_clean unclean a) (is_clean unclean b && is_clean unclean shift) (k p.0) (and_from (is_clean unclean b) (is_clean unclean shift) (l q.0) (m q.1)))
      (λ ty inner k h. folds.fold-Convert (clean_step unclean) its_clean ty inner ∙ k (sym (folds.fold-Convert constant_step its_constant ty inner) ∙ h))
      (λ ty layout index all h. absurd (both_ways false refl (sym (folds.fold-Active constant_step its_constant ty layout index) ∙ h)))

module _ (shapes : List Shape) (types : List Ty) (unclean : Unclean) (scope other : List Visible)
    (seen : (var : ℕ) → unclean.vars var ≡ false → is_visible scope var ≡ true → is_visible other var ≡ true) where
  abbrev here : Surroundings
  here = setting shapes types scope

  abbrev there : Surroundings
  there = setting shapes types other

  abbrev Moves : TypedExpr → Type 0
  Moves expr = is_clean unclean expr ≡ true → is_well_typed_expr here expr ≡ true → is_well_typed_expr there expr ≡ true

  type_same : (expr : TypedExpr) → (judged_expr here expr).0 ≡ (judged_expr there expr).0
  type_same expr = judged_ty here expr ∙ sym (judged_ty there expr)

  index_moves : (expr : TypedExpr) → Moves expr → is_clean unclean expr ≡ true → is_index (judged_expr here expr) ≡ true → is_index (judged_expr there expr) ≡ true
  index_moves expr moves clean h =
      let p = and_parts (is_signed (judged_expr here expr).0) (judged_expr here expr).1 h in
      and_from (is_signed (judged_expr there expr).0) (judged_expr there expr).1 (ap is_signed (sym (type_same expr)) ∙ p.0) (moves clean p.1)

  indices_move : (index : List TypedExpr) → AllByRecursion Moves index → list_all (λ clean. clean) (map (is_clean unclean) index) ≡ true → list_all is_index (map (judged_expr here) index) ≡ true
      → list_all is_index (map (judged_expr there) index) ≡ true
  indices_move [] all clean h = refl
  indices_move (expr ∷ index) all clean h =
      let c = and_parts (is_clean unclean expr) (list_all (λ clean. clean) (map (is_clean unclean) index)) clean in
      let p = and_parts (is_index (judged_expr here expr)) (list_all is_index (map (judged_expr here) index)) h in
      and_from (is_index (judged_expr there expr)) (list_all is_index (map (judged_expr there) index)) (index_moves expr all.0 c.0 p.0) (indices_move index all.1 c.1 p.1)

  pub expr_moves : (expr : TypedExpr) → Moves expr
  expr_moves = by_exprs Moves
      (λ ty word c h. ap well_in (folds.fold-Literal (form_step there) its_judged ty word) ∙ (sym (ap well_in (folds.fold-Literal (form_step here) its_judged ty word)) ∙ h))
      (λ ty word c h. ap well_in (folds.fold-Constant (form_step there) its_judged ty word) ∙ (sym (ap well_in (folds.fold-Constant (form_step here) its_judged ty word)) ∙ h))
      (λ ty var c h.
      let p = and_parts (is_visible scope var) (is_ty (slice_get types var) ty) (sym (ap well_in (folds.fold-Var (form_step here) its_judged ty var)) ∙ h) in
      let clean = not-true (unclean.vars var) (sym (folds.fold-Var (clean_step unclean) its_clean ty var) ∙ c) in
      ap well_in (folds.fold-Var (form_step there) its_judged ty var) ∙ and_from (is_visible other var) (is_ty (slice_get types var) ty) (seen var clean p.0) p.1)
      (λ ty layout place index all c h.
      let d = and_parts (not (unclean.fields layout place)) (list_all (λ clean. clean) (map (is_clean unclean) index)) (sym (folds.fold-Read (clean_step unclean) its_clean ty layout place index) ∙ c) in
      let p = and_parts (is_ty (field_in shapes layout place) ty) (equals_some (axes_in shapes layout) (length (map (judged_expr here) index)) && list_all is_index (map (judged_expr here) index))
      (sym (ap well_in (folds.fold-Read (form_step here) its_judged ty layout place index)) ∙ h) in
      let q = and_parts (equals_some (axes_in shapes layout) (length (map (judged_expr here) index))) (list_all is_index (map (judged_expr here) index)) p.1 in
      let count = length-map index (judged_expr here) ∙ sym (length-map index (judged_expr there)) in
      ap well_in (folds.fold-Read (form_step there) its_judged ty layout place index)
      ∙ and_from (is_ty (field_in shapes layout place) ty) (equals_some (axes_in shapes layout) (length (map (judged_expr there) index)) && list_all is_index (map (judged_expr there) index)) p.0
      (and_from (equals_some (axes_in shapes layout) (length (map (judged_expr there) index))) (list_all is_index (map (judged_expr there) index))
      (ap (equals_some (axes_in shapes layout)) (sym count) ∙ q.0) (indices_move index all d.1 q.1)))
      (λ ty inner k c h.
      let p = and_parts (same_ty (judged_expr here inner).0 ty) (judged_expr here inner).1 (sym (ap well_in (folds.fold-Paren (form_step here) its_judged ty inner)) ∙ h) in
      ap well_in (folds.fold-Paren (form_step there) its_judged ty inner)
      ∙ and_from (same_ty (judged_expr there inner).0 ty) (judged_expr there inner).1 (ap (λ (t : Ty). same_ty t ty) (sym (type_same inner)) ∙ p.0) (k (sym (folds.fold-Paren (clean_step unclean) its_clean ty inner) ∙ c) p.1))
      (λ ty op operand k c h.
      let p = and_parts (is_ty (un_ty op (judged_expr here operand).0) ty) (judged_expr here operand).1 (sym (ap well_in (folds.fold-Un (form_step here) its_judged ty op operand)) ∙ h) in
      ap well_in (folds.fold-Un (form_step there) its_judged ty op operand)
      ∙ and_from (is_ty (un_ty op (judged_expr there operand).0) ty) (judged_expr there operand).1 (ap (λ (t : Ty). is_ty (un_ty op t) ty) (sym (type_same operand)) ∙ p.0) (k (sym (folds.fold-Un (clean_step unclean) its_clean ty op operand) ∙ c) p.1))
      (λ ty op left right k l c h.
      let d = and_parts (is_clean unclean left) (is_clean unclean right) (sym (folds.fold-Bin (clean_step unclean) its_clean ty op left right) ∙ c) in
      let p = and_parts (is_ty (bin_ty op (judged_expr here left).0 (judged_expr here right).0) ty) ((judged_expr here left).1 && (judged_expr here right).1) (sym (ap well_in (folds.fold-Bin (form_step here) its_judged ty op left right)) ∙ h) in
      let q = and_parts (judged_expr here left).1 (judged_expr here right).1 p.1 in
      ap well_in (folds.fold-Bin (form_step there) its_judged ty op left right)
      ∙ and_from (is_ty (bin_ty op (judged_expr there left).0 (judged_expr there right).0) ty) ((judged_expr there left).1 && (judged_expr there right).1)
      (ap (λ (t : Ty). is_ty (bin_ty op t (judged_expr there right).0) ty) (sym (type_same left)) ∙ (ap (λ (t : Ty). is_ty (bin_ty op (judged_expr here left).0 t) ty) (sym (type_same right)) ∙ p.0))
      (and_from (judged_expr there left).1 (judged_expr there right).1 (k d.0 q.0) (l d.1 q.1)))
      (λ ty a b shift k l m c h.
      let d = and_parts (is_clean unclean a) (is_clean unclean b && is_clean unclean shift) (sym (folds.fold-Mulq (clean_step unclean) its_clean ty a b shift) ∙ c) in
      let e = and_parts (is_clean unclean b) (is_clean unclean shift) d.1 in
      let p = and_parts (is_signed ty) (is_index (judged_expr here a) && (is_index (judged_expr here b) && is_index (judged_expr here shift))) (sym (ap well_in (folds.fold-Mulq (form_step here) its_judged ty a b shift)) ∙ h) in
      let q = and_parts (is_index (judged_expr here a)) (is_index (judged_expr here b) && is_index (judged_expr here shift)) p.1 in
      let r = and_parts (is_index (judged_expr here b)) (is_index (judged_expr here shift)) q.1 in
      ap well_in (folds.fold-Mulq (form_step there) its_judged ty a b shift)
      ∙ and_from (is_signed ty) (is_index (judged_expr there a) && (is_index (judged_expr there b) && is_index (judged_expr there shift))) p.0
      (and_from (is_index (judged_expr there a)) (is_index (judged_expr there b) && is_index (judged_expr there shift)) (index_moves a k d.0 q.0)
      (and_from (is_index (judged_expr there b)) (is_index (judged_expr there shift)) (index_moves b l e.0 r.0) (index_moves shift m e.1 r.1))))
      (λ ty inner k c h.
      let p = and_parts (is_numeric ty) (is_numeric (judged_expr here inner).0 && (judged_expr here inner).1) (sym (ap well_in (folds.fold-Convert (form_step here) its_judged ty inner)) ∙ h) in
      let q = and_parts (is_numeric (judged_expr here inner).0) (judged_expr here inner).1 p.1 in
      ap well_in (folds.fold-Convert (form_step there) its_judged ty inner)
      ∙ and_from (is_numeric ty) (is_numeric (judged_expr there inner).0 && (judged_expr there inner).1) p.0
      (and_from (is_numeric (judged_expr there inner).0) (judged_expr there inner).1 (ap is_numeric (sym (type_same inner)) ∙ q.0) (k (sym (folds.fold-Convert (clean_step unclean) its_clean ty inner) ∙ c) q.1)))
      (λ ty layout index all c h.
      let p = and_parts (is_truth ty) (equals_some (axes_in shapes layout) (length (map (judged_expr here) index)) && list_all is_index (map (judged_expr here) index))
      (sym (ap well_in (folds.fold-Active (form_step here) its_judged ty layout index)) ∙ h) in
      let q = and_parts (equals_some (axes_in shapes layout) (length (map (judged_expr here) index))) (list_all is_index (map (judged_expr here) index)) p.1 in
      let count = length-map index (judged_expr here) ∙ sym (length-map index (judged_expr there)) in
      ap well_in (folds.fold-Active (form_step there) its_judged ty layout index)
      ∙ and_from (is_truth ty) (equals_some (axes_in shapes layout) (length (map (judged_expr there) index)) && list_all is_index (map (judged_expr there) index)) p.0
      (and_from (equals_some (axes_in shapes layout) (length (map (judged_expr there) index))) (list_all is_index (map (judged_expr there) index))
      (ap (equals_some (axes_in shapes layout)) (sym count) ∙ q.0)
      (indices_move index all (sym (folds.fold-Active (clean_step unclean) its_clean ty layout index) ∙ c) q.1)))

  pub parts_move : (index : List TypedExpr) → list_all (is_clean unclean) index ≡ true → list_all (is_part here) index ≡ true → list_all (is_part there) index ≡ true
  parts_move [] c h = refl
  parts_move (expr ∷ index) c h =
      let d = and_parts (is_clean unclean expr) (list_all (is_clean unclean) index) c in
      let p = and_parts (is_part here expr) (list_all (is_part here) index) h in
      let q = and_parts (is_signed expr.ty) (is_well_typed_expr here expr) p.0 in
      and_from (is_part there expr) (list_all (is_part there) index) (and_from (is_signed expr.ty) (is_well_typed_expr there expr) q.0 (expr_moves expr d.0 q.1)) (parts_move index d.1 p.1)

  bound_moves : (bound : TypedExpr) → is_constant bound ≡ true → is_part here bound ≡ true → is_part there bound ≡ true
  bound_moves bound c h =
      let p = and_parts (is_signed bound.ty) (is_well_typed_expr here bound) h in
      and_from (is_signed bound.ty) (is_well_typed_expr there bound) p.0 (expr_moves bound (constant_clean unclean bound c) p.1)

  pub range_moves : (range : TypedRange) → is_constant_range range ≡ true → is_well_typed_range here range ≡ true → is_well_typed_range there range ≡ true
  range_moves range c h =
      let d = and_parts (is_constant range.lo) (is_constant range.hi) c in
      let p = and_parts (is_part here range.lo) (is_part here range.hi) h in
      and_from (is_part there range.lo) (is_part there range.hi) (bound_moves range.lo d.0 p.0) (bound_moves range.hi d.1 p.1)
