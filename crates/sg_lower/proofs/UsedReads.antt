-- Lowered expressions write no field, and read no field that is accumulated, nor one that is owned at other coordinates.
use Rattle.std.proofs.Common.{◌≡◌, ℕ, Bool, true, false, not, ◌&&◌, List, [], ◌∷◌, ◌++◌, map, Option, refl, sym, ap, subst, ◌∙◌}
use Rattle.std.specs.List.{list_all, flat_map, AllByRecursion}
use Rattle.std.proofs.lemmas.Bool.{and_parts, not-true}
use Rattle.sg_types.specs.declared.typed.TypedExpr.{TypedExpr}
use Rattle.sg_types.specs.declared.typed.Form.TheOpen.{TypedExpr-F}
use Rattle.sg_types.proofs.Uses as folds
use Rattle.sg_types.proofs.Uses.{by_exprs}
use Rattle.sg_admit.specs.Rules.{SeenPart, seen_step, reads_in, has_good_reads}
use Rattle.sg_ir.specs.Apt.{Use, Writes, Reads, ReadsOwn}
use Rattle.sg_lower.specs.declared.lowering.Field.{Field}
use Rattle.sg_lower.specs.steps.Basis.{is_owned}
use Rattle.sg_lower.specs.steps.Using.{read_uses, use_step, expr_uses, all_uses}

abbrev its_uses : TypedExpr-F (List Use) (List Use) → List Use
its_uses expr = expr.form

abbrev its_seen : TypedExpr-F SeenPart SeenPart → SeenPart
its_seen expr = expr.form

abbrev good_in : SeenPart → Bool
good_in part = part.1

abbrev name_in : SeenPart → Option ℕ
name_in part = part.0

pub all_append : {X : Type 0} (P : X → Type 0) (xs ys : List X) → AllByRecursion P xs → AllByRecursion P ys → AllByRecursion P (xs ++ ys)
all_append P [] ys h g = g
all_append P (x ∷ xs) ys h g = (h.0, all_append P xs ys h.1 g)

module _ (owned : List Field) (acc : ℕ → ℕ → Bool) (vars : ℕ) where
  abbrev pub GoodRead : Use → Type 0
  GoodRead (Writes layout field way) = ⊥
  GoodRead (Reads layout field) = (is_owned owned layout field ≡ false) × (acc layout field ≡ false)
  GoodRead (ReadsOwn layout field) = acc layout field ≡ false

  abbrev pub unaccumulated : ℕ → ℕ → Bool → Bool
  unaccumulated layout place named = not (acc layout place)

  abbrev AllGood : List Use → Type 0
  AllGood = AllByRecursion GoodRead

  abbrev ReadsWell : TypedExpr → Type 0
  ReadsWell expr = has_good_reads vars unaccumulated expr ≡ true → AllGood (expr_uses owned expr)

  parts_well : (index : List TypedExpr) → AllByRecursion ReadsWell index → list_all good_in (map (reads_in vars unaccumulated) index) ≡ true → AllGood (flat_map (λ uses. uses) (map (expr_uses owned) index))
  parts_well [] all h = tt
  parts_well (expr ∷ index) all h =
      let p = and_parts (has_good_reads vars unaccumulated expr) (list_all good_in (map (reads_in vars unaccumulated) index)) h in
      all_append GoodRead (expr_uses owned expr) (flat_map (λ uses. uses) (map (expr_uses owned) index)) (all.0 p.0) (parts_well index all.1 p.1)

  read_well : (b : Bool) (layout place : ℕ) (uses : List Use) → is_owned owned layout place ≡ b → acc layout place ≡ false → AllGood uses → AllGood (read_uses b layout place uses)
  read_well true layout place uses own free all = (free, tt)
  read_well false layout place uses own free all = all_append GoodRead uses (Reads layout place ∷ []) all ((own, free), tt)

  pub reads_well : (expr : TypedExpr) → ReadsWell expr
  reads_well = by_exprs ReadsWell
      (λ ty word h. subst AllGood (sym (folds.fold-Literal (use_step owned) its_uses ty word)) tt)
      (λ ty word h. subst AllGood (sym (folds.fold-Constant (use_step owned) its_uses ty word)) tt)
      (λ ty var h. subst AllGood (sym (folds.fold-Var (use_step owned) its_uses ty var)) tt)
      (λ ty layout place index all h.
      let p = and_parts (not (acc layout place)) (list_all good_in (map (reads_in vars unaccumulated) index)) (sym (ap good_in (folds.fold-Read (seen_step vars unaccumulated) its_seen ty layout place index)) ∙ h) in
      subst AllGood (sym (folds.fold-Read (use_step owned) its_uses ty layout place index))
      (read_well (is_owned owned layout place) layout place (flat_map (λ uses. uses) (map (expr_uses owned) index)) refl (not-true (acc layout place) p.0) (parts_well index all p.1)))
      (λ ty inner k h. subst AllGood (sym (folds.fold-Paren (use_step owned) its_uses ty inner)) (k (sym (ap good_in (folds.fold-Paren (seen_step vars unaccumulated) its_seen ty inner)) ∙ h)))
      (λ ty op operand k h. subst AllGood (sym (folds.fold-Un (use_step owned) its_uses ty op operand)) (k (sym (ap good_in (folds.fold-Un (seen_step vars unaccumulated) its_seen ty op operand)) ∙ h)))
      (λ ty op left right k l h.
      let p = and_parts (has_good_reads vars unaccumulated left) (has_good_reads vars unaccumulated right) (sym (ap good_in (folds.fold-Bin (seen_step vars unaccumulated) its_seen ty op left right)) ∙ h) in
      subst AllGood (sym (folds.fold-Bin (use_step owned) its_uses ty op left right)) (all_append GoodRead (expr_uses owned left) (expr_uses owned right) (k p.0) (l p.1)))
      (λ ty a b shift k l m h.
      let p = and_parts (has_good_reads vars unaccumulated a) (has_good_reads vars unaccumulated b && has_good_reads vars unaccumulated shift) (sym (ap good_in (folds.fold-Mulq (seen_step vars unaccumulated) its_seen ty a b shift)) ∙ h) in
      let q = and_parts (has_good_reads vars unaccumulated b) (has_good_reads vars unaccumulated shift) p.1 in
      subst AllGood (sym (folds.fold-Mulq (use_step owned) its_uses ty a b shift))
      (all_append GoodRead (expr_uses owned a) (expr_uses owned b ++ expr_uses owned shift) (k p.0) (all_append GoodRead (expr_uses owned b) (expr_uses owned shift) (l q.0) (m q.1))))
      (λ ty inner k h. subst AllGood (sym (folds.fold-Convert (use_step owned) its_uses ty inner)) (k (sym (ap good_in (folds.fold-Convert (seen_step vars unaccumulated) its_seen ty inner)) ∙ h)))
      (λ ty layout index all h. subst AllGood (sym (folds.fold-Active (use_step owned) its_uses ty layout index)) (parts_well index all (sym (ap good_in (folds.fold-Active (seen_step vars unaccumulated) its_seen ty layout index)) ∙ h)))

  pub all_read_well : (index : List TypedExpr) → list_all (has_good_reads vars unaccumulated) index ≡ true → AllGood (all_uses owned index)
  all_read_well [] h = tt
  all_read_well (expr ∷ index) h =
      let p = and_parts (has_good_reads vars unaccumulated expr) (list_all (has_good_reads vars unaccumulated) index) h in
      all_append GoodRead (expr_uses owned expr) (all_uses owned index) (reads_well expr p.0) (all_read_well index p.1)
