-- Constant expressions are clean, and have one word everywhere.
use Rattle.std.proofs.Common.{◌≡◌, ℕ, true, false, ◌&&◌, List, [], ◌∷◌, map, refl, sym, ap, ◌∙◌}
use Rattle.std.specs.List.{list_all, AllByRecursion}
use Rattle.std.proofs.lemmas.Bool.{and_parts, and_from, both_ways}
use Rattle.sg_words.specs.Words.{applied, applied_un, mulq_of}
use Rattle.sg_flat.specs.declared.effects.Domain.TheVariants.{Range}
use Rattle.sg_types.specs.declared.typed.TypedExpr.{TypedExpr}
use Rattle.sg_types.specs.declared.typed.TypedRange.{TypedRange}
use Rattle.sg_types.specs.declared.typed.TypedDomain.TheVariants as domain
use Rattle.sg_types.specs.Values.{World, Moment, coord_of, expr_word}
use Rattle.sg_types.specs.Iterations.{before_all, domain_of}
use Rattle.sg_types.proofs.Uses.{value-Literal, value-Constant, value-Paren, value-Un, value-Bin, value-Mulq, value-Convert}
use Rattle.sg_admit.specs.Clean.{Unclean, is_clean}
use Rattle.sg_admit.specs.Bounds.{is_constant, is_constant_range}
use Rattle.sg_admit.proofs.CleanWords.{clean-Literal, clean-Constant, clean-Paren, clean-Un, clean-Bin, clean-Mulq, clean-Convert, constant-Var, constant-Read, constant-Paren, constant-Un, constant-Bin, constant-Mulq, constant-Convert, constant-Active}
use Rattle.sg_types.proofs.Uses.{by_exprs}

pub constant_is_clean : (unclean : Unclean) (expr : TypedExpr) → is_constant expr ≡ true → is_clean unclean expr ≡ true
constant_is_clean unclean = by_exprs (λ expr. is_constant expr ≡ true → is_clean unclean expr ≡ true)
    (λ ty word h. clean-Literal unclean ty word)
    (λ ty word h. clean-Constant unclean ty word)
    (λ ty var h. absurd (both_ways false refl (sym (constant-Var ty var) ∙ h)))
    (λ ty layout place index all h. absurd (both_ways false refl (sym (constant-Read ty layout place index) ∙ h)))
    (λ ty inner hi h. clean-Paren unclean ty inner ∙ hi (sym (constant-Paren ty inner) ∙ h))
    (λ ty op operand hi h. clean-Un unclean ty op operand ∙ hi (sym (constant-Un ty op operand) ∙ h))
    (λ ty op left right hl hr h.
    let p = and_parts (is_constant left) (is_constant right) (sym (constant-Bin ty op left right) ∙ h) in
    clean-Bin unclean ty op left right ∙ and_from (is_clean unclean left) (is_clean unclean right) (hl p.0) (hr p.1))
    (λ ty a b shift ha hb hs h.
    let p = and_parts (is_constant a) (is_constant b && is_constant shift) (sym (constant-Mulq ty a b shift) ∙ h) in
    let q = and_parts (is_constant b) (is_constant shift) p.1 in
    clean-Mulq unclean ty a b shift
    ∙ and_from (is_clean unclean a) (is_clean unclean b && is_clean unclean shift) (ha p.0) (and_from (is_clean unclean b) (is_clean unclean shift) (hb q.0) (hs q.1)))
    (λ ty inner hi h. clean-Convert unclean ty inner ∙ hi (sym (constant-Convert ty inner) ∙ h))
    (λ ty layout index all h. absurd (both_ways false refl (sym (constant-Active ty layout index) ∙ h)))

module _ (world other : World) (now then_now : Moment) where
  pub constant_word_same : (expr : TypedExpr) → is_constant expr ≡ true → expr_word world now expr ≡ expr_word other then_now expr
  constant_word_same = by_exprs (λ expr. is_constant expr ≡ true → expr_word world now expr ≡ expr_word other then_now expr)
      (λ ty word h. value-Literal world now ty word ∙ sym (value-Literal other then_now ty word))
      (λ ty word h. value-Constant world now ty word ∙ sym (value-Constant other then_now ty word))
      (λ ty var h. absurd (both_ways false refl (sym (constant-Var ty var) ∙ h)))
      (λ ty layout place index all h. absurd (both_ways false refl (sym (constant-Read ty layout place index) ∙ h)))
      (λ ty inner hi h. value-Paren world now ty inner ∙ (hi (sym (constant-Paren ty inner) ∙ h) ∙ sym (value-Paren other then_now ty inner)))
      (λ ty op operand hi h. value-Un world now ty op operand ∙ (ap (applied_un op) (hi (sym (constant-Un ty op operand) ∙ h)) ∙ sym (value-Un other then_now ty op operand)))
      (λ ty op left right hl hr h.
      let p = and_parts (is_constant left) (is_constant right) (sym (constant-Bin ty op left right) ∙ h) in
      value-Bin world now ty op left right
      ∙ (ap (λ (word : ℕ). applied op left.ty word (expr_word world now right)) (hl p.0)
      ∙ (ap (λ (word : ℕ). applied op left.ty (expr_word other then_now left) word) (hr p.1) ∙ sym (value-Bin other then_now ty op left right))))
      (λ ty a b shift ha hb hs h.
      let p = and_parts (is_constant a) (is_constant b && is_constant shift) (sym (constant-Mulq ty a b shift) ∙ h) in
      let q = and_parts (is_constant b) (is_constant shift) p.1 in
      value-Mulq world now ty a b shift
      ∙ (ap (λ (word : ℕ). mulq_of word (expr_word world now b) (expr_word world now shift)) (ha p.0)
      ∙ (ap (λ (word : ℕ). mulq_of (expr_word other then_now a) word (expr_word world now shift)) (hb q.0)
      ∙ (ap (λ (word : ℕ). mulq_of (expr_word other then_now a) (expr_word other then_now b) word) (hs q.1) ∙ sym (value-Mulq other then_now ty a b shift)))))
      (λ ty inner hi h. value-Convert world now ty inner ∙ (hi (sym (constant-Convert ty inner) ∙ h) ∙ sym (value-Convert other then_now ty inner)))
      (λ ty layout index all h. absurd (both_ways false refl (sym (constant-Active ty layout index) ∙ h)))

module _ (world other : World) where
  bounds_same : (bound : TypedRange → TypedExpr) (ranges : List TypedRange) → AllByRecursion (λ range. is_constant (bound range) ≡ true) ranges
      → map (λ range. expr_word world before_all (bound range)) ranges ≡ map (λ range. expr_word other before_all (bound range)) ranges
  bounds_same bound [] all = refl
  bounds_same bound (range ∷ ranges) all =
      ap (λ (word : ℕ). word ∷ map (λ range. expr_word world before_all (bound range)) ranges) (constant_word_same world other before_all before_all (bound range) all.0)
      ∙ ap (λ (words : List ℕ). expr_word other before_all (bound range) ∷ words) (bounds_same bound ranges all.1)

  los : (ranges : List TypedRange) → list_all is_constant_range ranges ≡ true → AllByRecursion (λ range. is_constant range.lo ≡ true) ranges
  los [] h = tt
  los (range ∷ ranges) h =
      let p = and_parts (is_constant_range range) (list_all is_constant_range ranges) h in
      ((and_parts (is_constant range.lo) (is_constant range.hi) p.0).0, los ranges p.1)

  his : (ranges : List TypedRange) → list_all is_constant_range ranges ≡ true → AllByRecursion (λ range. is_constant range.hi ≡ true) ranges
  his [] h = tt
  his (range ∷ ranges) h =
      let p = and_parts (is_constant_range range) (list_all is_constant_range ranges) h in
      ((and_parts (is_constant range.lo) (is_constant range.hi) p.0).1, his ranges p.1)

  pub box_same : (ranges : List TypedRange) → list_all is_constant_range ranges ≡ true → domain_of world (domain.Ranges ranges) ≡ domain_of other (domain.Ranges ranges)
  box_same ranges h =
      ap (λ (words : List ℕ). Range (coord_of words) (coord_of (map (λ range. expr_word world before_all range.hi) ranges))) (bounds_same (λ range. range.lo) ranges (los ranges h))
      ∙ ap (λ (words : List ℕ). Range (coord_of (map (λ range. expr_word other before_all range.lo) ranges)) (coord_of words)) (bounds_same (λ range. range.hi) ranges (his ranges h))
