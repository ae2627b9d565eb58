-- Constant expressions have one word everywhere.
use Rattle.std.proofs.Common.{◌≡◌, ℕ, Bool, true, false, ◌&&◌, refl, sym, ap, ◌∙◌}
use Rattle.std.proofs.lemmas.Bool.{and_parts, both_ways}
use Rattle.sg_words.specs.Words.{applied, applied_un, mulq_of}
use Rattle.sg_types.specs.declared.typed.TypedExpr.{TypedExpr}
use Rattle.sg_types.specs.declared.typed.Form.TheOpen.{TypedExpr-F}
use Rattle.sg_types.specs.Values.{World, Moment, expr_word}
use Rattle.sg_types.specs.Iterations.{before_all}
use Rattle.sg_types.proofs.Uses as folds
use Rattle.sg_types.proofs.Uses.{by_exprs, value-Literal, value-Constant, value-Paren, value-Un, value-Bin, value-Mulq, value-Convert}
use Rattle.sg_admit.specs.Bounds.{constant_step, is_constant, nowhere, constant_word}

abbrev its_form : TypedExpr-F Bool Bool → Bool
its_form expr = expr.form

module _ (world : World) (now : Moment) where
  pub constant_there : (expr : TypedExpr) → is_constant expr ≡ true → expr_word world now expr ≡ constant_word expr
  constant_there = by_exprs (λ expr. is_constant expr ≡ true → expr_word world now expr ≡ constant_word expr)
      (λ ty word h. value-Literal world now ty word ∙ sym (value-Literal nowhere before_all ty word))
      (λ ty word h. value-Constant world now ty word ∙ sym (value-Constant nowhere before_all ty word))
      (λ ty var h. absurd (both_ways false refl (sym (folds.fold-Var constant_step its_form ty var) ∙ h)))
      (λ ty layout place index all h. absurd (both_ways false refl (sym (folds.fold-Read constant_step its_form ty layout place index) ∙ h)))
      (λ ty inner hi h. value-Paren world now ty inner ∙ (hi (sym (folds.fold-Paren constant_step its_form ty inner) ∙ h) ∙ sym (value-Paren nowhere before_all ty inner)))
      (λ ty op operand hi h. value-Un world now ty op operand ∙ (ap (applied_un op) (hi (sym (folds.fold-Un constant_step its_form ty op operand) ∙ h)) ∙ sym (value-Un nowhere before_all ty op operand)))
      (λ ty op left right hl hr h.
      let p = and_parts (is_constant left) (is_constant right) (sym (folds.fold-Bin constant_step its_form ty op left right) ∙ h) in
      value-Bin world now ty op left right
      ∙ (ap (λ (word : ℕ). applied op left.ty word (expr_word world now right)) (hl p.0)
      ∙ (ap (λ (word : ℕ). applied op left.ty (constant_word left) word) (hr p.1) ∙ sym (value-Bin nowhere before_all ty op left right))))
      (λ ty a b shift ha hb hs h.
      let p = and_parts (is_constant a) (is_constant b && is_constant shift) (sym (folds.fold-Mulq constant_step its_form ty a b shift) ∙ h) in
      let q = and_parts (is_constant b) (is_constant shift) p.1 in
      value-Mulq world now ty a b shift
      ∙ (ap (λ (word : ℕ). mulq_of word (expr_word world now b) (expr_word world now shift)) (ha p.0)
      ∙ (ap (λ (word : ℕ). mulq_of (constant_word a) word (expr_word world now shift)) (hb q.0)
      ∙ (ap (λ (word : ℕ). mulq_of (constant_word a) (constant_word b) word) (hs q.1) ∙ sym (value-Mulq nowhere before_all ty a b shift)))))
      (λ ty inner hi h. value-Convert world now ty inner ∙ (hi (sym (folds.fold-Convert constant_step its_form ty inner) ∙ h) ∙ sym (value-Convert nowhere before_all ty inner)))
      (λ ty layout index all h. absurd (both_ways false refl (sym (folds.fold-Active constant_step its_form ty layout index) ∙ h)))
