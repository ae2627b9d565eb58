-- Well-typed expressions with good reads can be lowered; clean ones have good reads.
use Rattle.std.proofs.Common.{◌≡◌, ℕ, Bool, true, not, ◌&&◌, List, [], ◌∷◌, map, length, Option, refl, sym, ap, ◌∙◌}
use Rattle.std.specs.List.{list_all, AllByRecursion}
use Rattle.std.proofs.lemmas.Bool.{and_parts, and_from}
use Rattle.std.proofs.lemmas.List.{length-map}
use Rattle.sg_words.specs.declared.operators.Ty.{Ty}
use Rattle.sg_layout.specs.declared.shape.Shape.{Shape}
use Rattle.sg_types.specs.declared.typed.TypedExpr.{TypedExpr}
use Rattle.sg_types.specs.declared.typed.Form.TheOpen.{TypedExpr-F}
use Rattle.sg_types.specs.Expressions.{equals_some}
use Rattle.sg_types.specs.TypeTable.{is_numeric, is_signed, is_truth, bin_ty, un_ty, same_ty}
use Rattle.sg_types.specs.WellTyped.{Surroundings, Judged, is_index, is_ty, field_in, axes_in, form_step, judged_expr, is_well_typed_expr}
use Rattle.sg_types.proofs.Uses as folds
use Rattle.sg_types.proofs.Uses.{by_exprs}
use Rattle.sg_admit.specs.Clean.{Unclean, clean_step, is_clean}
use Rattle.sg_admit.specs.Rules.{SeenPart, are_names, seen_step, reads_in, has_good_reads}
use Rattle.sg_lower.specs.steps.Basis.{Basis}
use Rattle.sg_lower.specs.steps.Fitting.{Fitted, fits_owned, fit_step, fitted, can_be_lowered, is_own_index}
use Rattle.sg_lower.proofs.Fitted.{fits-Read, fits-Paren, fits-Un, fits-Bin, fits-Mulq, fits-Convert, fits-Active}

abbrev pub its_fit : TypedExpr-F Fitted Fitted → Fitted
its_fit expr = expr.form

abbrev its_seen : TypedExpr-F SeenPart SeenPart → SeenPart
its_seen expr = expr.form

abbrev pub its_clean : TypedExpr-F Bool Bool → Bool
its_clean expr = expr.form

abbrev its_judged : TypedExpr-F (Ty → Bool) Judged → Judged
its_judged expr = (expr.ty, expr.form expr.ty)

abbrev name_in : SeenPart → Option ℕ
name_in part = part.0

abbrev good_in : SeenPart → Bool
good_in part = part.1

abbrev well_in : Judged → Bool
well_in part = part.1

module _ (basis : Basis) (at : Surroundings) (shapes_are : at.shapes ≡ basis.shapes) (good : ℕ → ℕ → Bool → Bool)
    (owned : (layout place : ℕ) (named : Bool) → good layout place named ≡ true → fits_owned basis layout place named ≡ true) where
  abbrev reads : TypedExpr → SeenPart
  reads = reads_in basis.vars good

  pub record Fit (expr : TypedExpr) : Type 0 where
    pub name : (reads expr).0 ≡ (fitted basis expr).0
    pub fit : has_good_reads basis.vars good expr ≡ true → is_well_typed_expr at expr ≡ true → can_be_lowered basis expr ≡ true

  names_same : (index : List TypedExpr) → AllByRecursion Fit index → map name_in (map reads index) ≡ map (λ expr. (fitted basis expr).0) index
  names_same [] all = refl
  names_same (expr ∷ index) all =
      ap (λ (name : Option ℕ). name ∷ map name_in (map reads index)) all.0.name ∙ ap (λ (names : List (Option ℕ)). (fitted basis expr).0 ∷ names) (names_same index all.1)

  parts_fit : (index : List TypedExpr) → AllByRecursion Fit index → list_all good_in (map reads index) ≡ true → list_all is_index (map (judged_expr at) index) ≡ true → list_all (can_be_lowered basis) index ≡ true
  parts_fit [] all g w = refl
  parts_fit (expr ∷ index) all g w =
      let gs = and_parts (reads expr).1 (list_all good_in (map reads index)) g in
      let ws = and_parts (is_index (judged_expr at expr)) (list_all is_index (map (judged_expr at) index)) w in
      let typed = and_parts (is_signed (judged_expr at expr).0) (judged_expr at expr).1 ws.0 in
      and_from (can_be_lowered basis expr) (list_all (can_be_lowered basis) index) (all.0.fit gs.0 typed.1) (parts_fit index all.1 gs.1 ws.1)

  pub expr_fit : (expr : TypedExpr) → Fit expr
  expr_fit = by_exprs Fit
      (λ ty word. record { name = ap name_in (folds.fold-Literal (seen_step basis.vars good) its_seen ty word) ∙ sym (ap name_in (folds.fold-Literal (fit_step basis) its_fit ty word)); fit = λ g w. ap good_in (folds.fold-Literal (fit_step basis) its_fit ty word) })
      (λ ty word. record { name = ap name_in (folds.fold-Constant (seen_step basis.vars good) its_seen ty word) ∙ sym (ap name_in (folds.fold-Constant (fit_step basis) its_fit ty word)); fit = λ g w. ap good_in (folds.fold-Constant (fit_step basis) its_fit ty word) })
      (λ ty var. record { name = ap name_in (folds.fold-Var (seen_step basis.vars good) its_seen ty var) ∙ sym (ap name_in (folds.fold-Var (fit_step basis) its_fit ty var)); fit = λ g w. ap good_in (folds.fold-Var (fit_step basis) its_fit ty var) })
      (λ ty layout place index all. record {
        name = ap name_in (folds.fold-Read (seen_step basis.vars good) its_seen ty layout place index) ∙ sym (ap name_in (folds.fold-Read (fit_step basis) its_fit ty layout place index));
        fit = λ g w.
            let gs = and_parts (good layout place (are_names basis.vars 0 (map name_in (map reads index)))) (list_all good_in (map reads index)) (sym (ap good_in (folds.fold-Read (seen_step basis.vars good) its_seen ty layout place index)) ∙ g) in
            let ws = and_parts (is_ty (field_in at.shapes layout place) ty) (equals_some (axes_in at.shapes layout) (length (map (judged_expr at) index)) && list_all is_index (map (judged_expr at) index)) (sym (ap well_in (folds.fold-Read (form_step at) its_judged ty layout place index)) ∙ w) in
            let us = and_parts (equals_some (axes_in at.shapes layout) (length (map (judged_expr at) index))) (list_all is_index (map (judged_expr at) index)) ws.1 in
            let axes = ap (λ (n : ℕ). equals_some (axes_in basis.shapes layout) n) (sym (length-map index (judged_expr at))) ∙ (ap (λ (shapes : List Shape). equals_some (axes_in shapes layout) (length (map (judged_expr at) index))) (sym shapes_are) ∙ us.0) in
            let named = owned layout place (is_own_index basis index) (ap (λ (names : List (Option ℕ)). good layout place (are_names basis.vars 0 names)) (sym (names_same index all)) ∙ gs.0) in
            fits-Read basis ty layout place index
            ∙ and_from (equals_some (axes_in basis.shapes layout) (length index)) (fits_owned basis layout place (is_own_index basis index) && list_all (can_be_lowered basis) index) axes
            (and_from (fits_owned basis layout place (is_own_index basis index)) (list_all (can_be_lowered basis) index) named (parts_fit index all gs.1 us.1));
      })
      (λ ty inner h. record {
        name = ap name_in (folds.fold-Paren (seen_step basis.vars good) its_seen ty inner) ∙ sym (ap name_in (folds.fold-Paren (fit_step basis) its_fit ty inner));
        fit = λ g w.
            let ws = and_parts (same_ty (judged_expr at inner).0 ty) (is_well_typed_expr at inner) (sym (ap well_in (folds.fold-Paren (form_step at) its_judged ty inner)) ∙ w) in
            fits-Paren basis ty inner ∙ h.fit (sym (ap good_in (folds.fold-Paren (seen_step basis.vars good) its_seen ty inner)) ∙ g) ws.1;
      })
      (λ ty op operand h. record {
        name = ap name_in (folds.fold-Un (seen_step basis.vars good) its_seen ty op operand) ∙ sym (ap name_in (folds.fold-Un (fit_step basis) its_fit ty op operand));
        fit = λ g w.
            let ws = and_parts (is_ty (un_ty op (judged_expr at operand).0) ty) (is_well_typed_expr at operand) (sym (ap well_in (folds.fold-Un (form_step at) its_judged ty op operand)) ∙ w) in
            fits-Un basis ty op operand ∙ h.fit (sym (ap good_in (folds.fold-Un (seen_step basis.vars good) its_seen ty op operand)) ∙ g) ws.1;
      })
      (λ ty op left right h k. record {
        name = ap name_in (folds.fold-Bin (seen_step basis.vars good) its_seen ty op left right) ∙ sym (ap name_in (folds.fold-Bin (fit_step basis) its_fit ty op left right));
        fit = λ g w.
            let gs = and_parts (reads left).1 (reads right).1 (sym (ap good_in (folds.fold-Bin (seen_step basis.vars good) its_seen ty op left right)) ∙ g) in
            let ws = and_parts (is_ty (bin_ty op (judged_expr at left).0 (judged_expr at right).0) ty) (is_well_typed_expr at left && is_well_typed_expr at right) (sym (ap well_in (folds.fold-Bin (form_step at) its_judged ty op left right)) ∙ w) in
            let us = and_parts (is_well_typed_expr at left) (is_well_typed_expr at right) ws.1 in
            fits-Bin basis ty op left right ∙ and_from (can_be_lowered basis left) (can_be_lowered basis right) (h.fit gs.0 us.0) (k.fit gs.1 us.1);
      })
      (λ ty a b shift h k l. record {
        name = ap name_in (folds.fold-Mulq (seen_step basis.vars good) its_seen ty a b shift) ∙ sym (ap name_in (folds.fold-Mulq (fit_step basis) its_fit ty a b shift));
        fit = λ g w.
            let gs = and_parts (reads a).1 ((reads b).1 && (reads shift).1) (sym (ap good_in (folds.fold-Mulq (seen_step basis.vars good) its_seen ty a b shift)) ∙ g) in
            let gt = and_parts (reads b).1 (reads shift).1 gs.1 in
            let ws = and_parts (is_signed ty) (is_index (judged_expr at a) && (is_index (judged_expr at b) && is_index (judged_expr at shift))) (sym (ap well_in (folds.fold-Mulq (form_step at) its_judged ty a b shift)) ∙ w) in
            let us = and_parts (is_index (judged_expr at a)) (is_index (judged_expr at b) && is_index (judged_expr at shift)) ws.1 in
            let vs = and_parts (is_index (judged_expr at b)) (is_index (judged_expr at shift)) us.1 in
            fits-Mulq basis ty a b shift ∙ and_from (can_be_lowered basis a) (can_be_lowered basis b && can_be_lowered basis shift) (h.fit gs.0 (indexed a us.0)) (and_from (can_be_lowered basis b) (can_be_lowered basis shift) (k.fit gt.0 (indexed b vs.0)) (l.fit gt.1 (indexed shift vs.1)));
      })
      (λ ty inner h. record {
        name = ap name_in (folds.fold-Convert (seen_step basis.vars good) its_seen ty inner) ∙ sym (ap name_in (folds.fold-Convert (fit_step basis) its_fit ty inner));
        fit = λ g w.
            let ws = and_parts (is_numeric ty) (is_numeric (judged_expr at inner).0 && is_well_typed_expr at inner) (sym (ap well_in (folds.fold-Convert (form_step at) its_judged ty inner)) ∙ w) in
            let us = and_parts (is_numeric (judged_expr at inner).0) (is_well_typed_expr at inner) ws.1 in
            fits-Convert basis ty inner ∙ h.fit (sym (ap good_in (folds.fold-Convert (seen_step basis.vars good) its_seen ty inner)) ∙ g) us.1;
      })
      (λ ty layout index all. record {
        name = ap name_in (folds.fold-Active (seen_step basis.vars good) its_seen ty layout index) ∙ sym (ap name_in (folds.fold-Active (fit_step basis) its_fit ty layout index));
        fit = λ g w.
            let ws = and_parts (is_truth ty) (equals_some (axes_in at.shapes layout) (length (map (judged_expr at) index)) && list_all is_index (map (judged_expr at) index)) (sym (ap well_in (folds.fold-Active (form_step at) its_judged ty layout index)) ∙ w) in
            let us = and_parts (equals_some (axes_in at.shapes layout) (length (map (judged_expr at) index))) (list_all is_index (map (judged_expr at) index)) ws.1 in
            let axes = ap (λ (n : ℕ). equals_some (axes_in basis.shapes layout) n) (sym (length-map index (judged_expr at))) ∙ (ap (λ (shapes : List Shape). equals_some (axes_in shapes layout) (length (map (judged_expr at) index))) (sym shapes_are) ∙ us.0) in
            fits-Active basis ty layout index
            ∙ and_from (equals_some (axes_in basis.shapes layout) (length index)) (list_all (can_be_lowered basis) index) axes
            (parts_fit index all (sym (ap good_in (folds.fold-Active (seen_step basis.vars good) its_seen ty layout index)) ∙ g) us.1);
      })
    where
      indexed : (expr : TypedExpr) → is_index (judged_expr at expr) ≡ true → is_well_typed_expr at expr ≡ true
      indexed expr h = (and_parts (is_signed (judged_expr at expr).0) (is_well_typed_expr at expr) h).1

-- ---- clean expressions read no written field

module _ (unclean : Unclean) (vars : ℕ) where
  abbrev pub unwritten : ℕ → ℕ → Bool → Bool
  unwritten layout place named = not (unclean.fields layout place)

  abbrev CleanReads : TypedExpr → Type 0
  CleanReads expr = is_clean unclean expr ≡ true → has_good_reads vars unwritten expr ≡ true

  all_clean_reads : (index : List TypedExpr) → AllByRecursion CleanReads index → list_all (λ clean. clean) (map (is_clean unclean) index) ≡ true → list_all good_in (map (reads_in vars unwritten) index) ≡ true
  all_clean_reads [] all h = refl
  all_clean_reads (expr ∷ index) all h =
      let p = and_parts (is_clean unclean expr) (list_all (λ clean. clean) (map (is_clean unclean) index)) h in
      and_from (has_good_reads vars unwritten expr) (list_all good_in (map (reads_in vars unwritten) index)) (all.0 p.0) (all_clean_reads index all.1 p.1)

  pub clean_reads : (expr : TypedExpr) → CleanReads expr
  clean_reads = by_exprs CleanReads
      (λ ty word h. ap good_in (folds.fold-Literal (seen_step vars unwritten) its_seen ty word))
      (λ ty word h. ap good_in (folds.fold-Constant (seen_step vars unwritten) its_seen ty word))
      (λ ty var h. ap good_in (folds.fold-Var (seen_step vars unwritten) its_seen ty var))
      (λ ty layout place index all h.
      let p = and_parts (not (unclean.fields layout place)) (list_all (λ clean. clean) (map (is_clean unclean) index)) (sym (folds.fold-Read (clean_step unclean) its_clean ty layout place index) ∙ h) in
      ap good_in (folds.fold-Read (seen_step vars unwritten) its_seen ty layout place index)
      ∙ and_from (not (unclean.fields layout place)) (list_all good_in (map (reads_in vars unwritten) index)) p.0 (all_clean_reads index all p.1))
      (λ ty inner k h. ap good_in (folds.fold-Paren (seen_step vars unwritten) its_seen ty inner) ∙ k (sym (folds.fold-Paren (clean_step unclean) its_clean ty inner) ∙ h))
      (λ ty op operand k h. ap good_in (folds.fold-Un (seen_step vars unwritten) its_seen ty op operand) ∙ k (sym (folds.fold-Un (clean_step unclean) its_clean ty op operand) ∙ h))
      (λ ty op left right k l h.
      let p = and_parts (is_clean unclean left) (is_clean unclean right) (sym (folds.fold-Bin (clean_step unclean) its_clean ty op left right) ∙ h) in
      ap good_in (folds.fold-Bin (seen_step vars unwritten) its_seen ty op left right) ∙ and_from (has_good_reads vars unwritten left) (has_good_reads vars unwritten right) (k p.0) (l p.1))
      (λ ty a b shift k l m h.
      let p = and_parts (is_clean unclean a) (is_clean unclean b && is_clean unclean shift) (sym (folds.fold-Mulq (clean_step unclean) its_clean ty a b shift) ∙ h) in
      let q = and_parts (is_clean unclean b) (is_clean unclean shift) p.1 in
      ap good_in (folds.fold-Mulq (seen_step vars unwritten) its_seen ty a b shift)
      ∙ and_from (has_good_reads vars unwritten a) (has_good_reads vars unwritten b && has_good_reads vars unwritten shift) (k p.0) (and_from (has_good_reads vars unwritten b) (has_good_reads vars unwritten shift) (l q.0) (m q.1)))
      (λ ty inner k h. ap good_in (folds.fold-Convert (seen_step vars unwritten) its_seen ty inner) ∙ k (sym (folds.fold-Convert (clean_step unclean) its_clean ty inner) ∙ h))
      (λ ty layout index all h. ap good_in (folds.fold-Active (seen_step vars unwritten) its_seen ty layout index) ∙ all_clean_reads index all (sym (folds.fold-Active (clean_step unclean) its_clean ty layout index) ∙ h))
