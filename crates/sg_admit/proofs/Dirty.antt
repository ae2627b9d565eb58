-- The dirty variables are the least closed set.
use Rattle.std.proofs.Common.{◌≡◌, ℕ, zero, suc, ◌<◌, ◌≤◌, Bool, true, false, not, ◌&&◌, ◌==◌, cond, List, [], ◌∷◌, map, length, refl, sym, ap, subst, ◌∙◌, ◌⊎◌, inl, inr, ⊎_elim, arith}
use Rattle.std.specs.List.{list_all, list_any, filter, AllByRecursion}
use Rattle.std.proofs.Math.ListN.{length-map}
use Rattle.std.proofs.lemmas.Bool.{and_parts, and_from, both_ways, eqb-true, eq-eqb, or_cases, or_left, or_right, not_from_false, not-true, false_from_ne_true}
use Rattle.sg_types.specs.declared.typed.TypedExpr.{TypedExpr}
use Rattle.sg_admit.specs.Clean.{Unclean, is_clean, Giving, unclean_with, is_clean_giving, next_dirty, times_over, dirty_among}
use Rattle.sg_admit.specs.Laws.{IsClosed, DirtyIsClosed, DirtyIsLeast}
use Rattle.sg_admit.proofs.CleanWords.{clean-Literal, clean-Constant, clean-Var, clean-Read, clean-Paren, clean-Un, clean-Bin, clean-Mulq, clean-Convert, clean-Active}
use Rattle.sg_types.proofs.Uses.{by_exprs}

-- ---- what is clean beside more is clean beside less

abbrev Within : (ℕ → Bool) → (ℕ → Bool) → Type 0
Within fewer more = (var : ℕ) → fewer var ≡ true → more var ≡ true

module _ (fields : ℕ → ℕ → Bool) (fewer more : ℕ → Bool) (within : Within fewer more) where
  abbrev beside_fewer : Unclean
  beside_fewer = record { fields = fields; vars = fewer }

  abbrev beside_more : Unclean
  beside_more = record { fields = fields; vars = more }

  abbrev Stays : TypedExpr → Type 0
  Stays expr = is_clean beside_more expr ≡ true → is_clean beside_fewer expr ≡ true

  not_below : (var : ℕ) → not (more var) ≡ true → not (fewer var) ≡ true
  not_below var h = not_from_false (fewer var) (false_from_ne_true (fewer var) (λ e. both_ways (more var) (not-true (more var) h) (within var e)))

  pub all_stay : (exprs : List TypedExpr) → AllByRecursion Stays exprs → list_all (is_clean beside_more) exprs ≡ true → list_all (is_clean beside_fewer) exprs ≡ true
  all_stay [] all h = refl
  all_stay (expr ∷ exprs) all h =
      let p = and_parts (is_clean beside_more expr) (list_all (is_clean beside_more) exprs) h in
      and_from (is_clean beside_fewer expr) (list_all (is_clean beside_fewer) exprs) (all.0 p.0) (all_stay exprs all.1 p.1)

  two_stay : (x y : TypedExpr) → Stays x → Stays y → (is_clean beside_more x && is_clean beside_more y) ≡ true → (is_clean beside_fewer x && is_clean beside_fewer y) ≡ true
  two_stay x y hx hy h = let p = and_parts (is_clean beside_more x) (is_clean beside_more y) h in and_from (is_clean beside_fewer x) (is_clean beside_fewer y) (hx p.0) (hy p.1)

  pub clean_stays : (expr : TypedExpr) → Stays expr
  clean_stays = by_exprs Stays
      (λ ty word h. clean-Literal beside_fewer ty word)
      (λ ty word h. clean-Constant beside_fewer ty word)
      (λ ty var h. clean-Var beside_fewer ty var ∙ not_below var (sym (clean-Var beside_more ty var) ∙ h))
      (λ ty layout place index all h.
      let p = and_parts (not (fields layout place)) (list_all (is_clean beside_more) index) (sym (clean-Read beside_more ty layout place index) ∙ h) in
      clean-Read beside_fewer ty layout place index ∙ and_from (not (fields layout place)) (list_all (is_clean beside_fewer) index) p.0 (all_stay index all p.1))
      (λ ty inner hi h. clean-Paren beside_fewer ty inner ∙ hi (sym (clean-Paren beside_more ty inner) ∙ h))
      (λ ty op operand hi h. clean-Un beside_fewer ty op operand ∙ hi (sym (clean-Un beside_more ty op operand) ∙ h))
      (λ ty op left right hl hr h. clean-Bin beside_fewer ty op left right ∙ two_stay left right hl hr (sym (clean-Bin beside_more ty op left right) ∙ h))
      (λ ty a b shift ha hb hs h.
      let p = and_parts (is_clean beside_more a) (is_clean beside_more b && is_clean beside_more shift) (sym (clean-Mulq beside_more ty a b shift) ∙ h) in
      clean-Mulq beside_fewer ty a b shift ∙ and_from (is_clean beside_fewer a) (is_clean beside_fewer b && is_clean beside_fewer shift) (ha p.0) (two_stay b shift hb hs p.1))
      (λ ty inner hi h. clean-Convert beside_fewer ty inner ∙ hi (sym (clean-Convert beside_more ty inner) ∙ h))
      (λ ty layout index all h. clean-Active beside_fewer ty layout index ∙ all_stay index all (sym (clean-Active beside_more ty layout index) ∙ h))

  each_stays : (exprs : List TypedExpr) → AllByRecursion Stays exprs
  each_stays [] = tt
  each_stays (expr ∷ exprs) = (clean_stays expr, each_stays exprs)

  pub giving_stays : (giving : Giving) → is_clean_giving beside_more giving ≡ true → is_clean_giving beside_fewer giving ≡ true
  giving_stays giving = all_stay giving.hangs_on (each_stays giving.hangs_on)

  pub unclean_grows : (giving : Giving) → not (is_clean_giving beside_fewer giving) ≡ true → not (is_clean_giving beside_more giving) ≡ true
  unclean_grows giving h =
      not_from_false (is_clean_giving beside_more giving)
      (false_from_ne_true (is_clean_giving beside_more giving) (λ e. both_ways (is_clean_giving beside_fewer giving) (not-true (is_clean_giving beside_fewer giving) h) (giving_stays giving e)))

-- ---- filters

module _ {X : Type 0} (p q : X → Bool) (grows : (x : X) → p x ≡ true → q x ≡ true) where
  -- a filter that keeps more gives the same list or a longer one
  filter_grows : (xs : List X) → (filter q xs ≡ filter p xs) ⊎ (length (filter p xs) < length (filter q xs))
  filter_grows [] = inl refl
  filter_grows (x ∷ xs) = at_head (p x) (q x) (grows x) (filter_grows xs)
    where
      at_head : (here there : Bool) → (here ≡ true → there ≡ true) → (filter q xs ≡ filter p xs) ⊎ (length (filter p xs) < length (filter q xs))
          → (cond there (x ∷ filter q xs) (filter q xs) ≡ cond here (x ∷ filter p xs) (filter p xs)) ⊎ (length (cond here (x ∷ filter p xs) (filter p xs)) < length (cond there (x ∷ filter q xs) (filter q xs)))
      at_head true true h (inl e) = inl (ap (λ (more : List X). x ∷ more) e)
      at_head true true h (inr l) = inr (omega arith)
      at_head true false h r = absurd (both_ways false refl (h refl))
      at_head false true h (inl e) = inr (rw e (omega arith))
      at_head false true h (inr l) = inr (omega arith)
      at_head false false h r = r

filter_short : {X : Type 0} (p : X → Bool) (xs : List X) → length (filter p xs) ≤ length xs
filter_short p [] = omega arith
filter_short p (x ∷ xs) = at_head (p x) (filter_short p xs)
  where
    at_head : (here : Bool) → length (filter p xs) ≤ length xs → length (cond here (x ∷ filter p xs) (filter p xs)) ≤ length (x ∷ xs)
    at_head true h = omega arith
    at_head false h = omega arith

-- ---- the passes

abbrev vars_of : List Giving → List ℕ
vars_of = map (λ giving. giving.var)

module _ (fields : ℕ → ℕ → Bool) (all : List Giving) where
  abbrev step : List ℕ → List ℕ
  step = next_dirty fields all

  abbrev is_given : List ℕ → Giving → Bool
  is_given dirty giving = not (is_clean_giving (unclean_with fields dirty) giving)

  abbrev kept : List ℕ → List Giving
  kept dirty = filter (is_given dirty) all

  abbrev passed : ℕ → List ℕ
  passed n = times_over n step []

  abbrev among : List ℕ → ℕ → Bool
  among dirty var = list_any (λ it. it == var) dirty

  -- a variable of one that is kept where less is kept
  given_within : (p q : Giving → Bool) → ((giving : Giving) → p giving ≡ true → q giving ≡ true) → (givings : List Giving) (var : ℕ)
      → among (map (λ giving. giving.var) (filter p givings)) var ≡ true → among (map (λ giving. giving.var) (filter q givings)) var ≡ true
  given_within p q grows [] var h = h
  given_within p q grows (giving ∷ givings) var h = at_head (p giving) (q giving) (grows giving) (given_within p q grows givings var) h
    where
      at_head : (here there : Bool) → (here ≡ true → there ≡ true) → (among (vars_of (filter p givings)) var ≡ true → among (vars_of (filter q givings)) var ≡ true)
          → among (vars_of (cond here (giving ∷ filter p givings) (filter p givings))) var ≡ true → among (vars_of (cond there (giving ∷ filter q givings) (filter q givings))) var ≡ true
      at_head true true grows more h =
          ⊎_elim (λ e. or_left (giving.var == var) (among (vars_of (filter q givings)) var) e) (λ e. or_right (giving.var == var) (among (vars_of (filter q givings)) var) (more e))
          (or_cases (giving.var == var) (among (vars_of (filter p givings)) var) h)
      at_head true false grows more h = absurd (both_ways false refl (grows refl))
      at_head false true grows more h = or_right (giving.var == var) (among (vars_of (filter q givings)) var) (more h)
      at_head false false grows more h = more h

  step_grows : (fewer more : List ℕ) → Within (among fewer) (among more) → Within (among (step fewer)) (among (step more))
  step_grows fewer more within = given_within (is_given fewer) (is_given more) (unclean_grows fields (among fewer) (among more) within) all

  passes_grow : (n : ℕ) → Within (among (passed n)) (among (passed (suc n)))
  passes_grow zero var h = absurd (both_ways false refl h)
  passes_grow (suc n) var h = step_grows (passed n) (passed (suc n)) (passes_grow n) var h

  abbrev Settled : ℕ → Type 0
  Settled n = (passed (suc n) ≡ passed n) ⊎ (suc n ≤ length (passed (suc n)))

  settled : (n : ℕ) → Settled n
  settled zero = at_start (step [])
    where
      at_start : (first : List ℕ) → (first ≡ []) ⊎ (suc zero ≤ length first)
      at_start [] = inl refl
      at_start (var ∷ first) = inr (omega arith)
  settled (suc n) = ⊎_elim (λ e. inl (ap step e)) next (settled n)
    where
      next : suc n ≤ length (passed (suc n)) → Settled (suc n)
      next h =
          ⊎_elim (λ e. inl (ap vars_of e))
          (λ l. inr (omega (arith, l, h, length-map (kept (passed n)) (λ (giving : Giving). giving.var), length-map (kept (passed (suc n))) (λ (giving : Giving). giving.var))))
          (filter_grows (is_given (passed n)) (is_given (passed (suc n))) (unclean_grows fields (among (passed n)) (among (passed (suc n))) (passes_grow n)) all)

  fixed : step (dirty_among fields all) ≡ dirty_among fields all
  fixed = ⊎_elim (λ e. e)
      (λ h. absurd (omega (arith, h, length-map (kept (passed (length all))) (λ (giving : Giving). giving.var), filter_short (is_given (passed (length all))) all)))
      (settled (length all))

  -- a variable that is given is one of those that a pass gives
  given_among : (p : Giving → Bool) (givings : List Giving)
      → AllByRecursion (λ giving. p giving ≡ true → among (map (λ giving. giving.var) (filter p givings)) giving.var ≡ true) givings
  given_among p [] = tt
  given_among p (giving ∷ givings) = (
    λ e. at_head (p giving) e,
    later (p giving) givings (given_among p givings),
  )
    where
      at_head : (here : Bool) → here ≡ true → among (vars_of (cond here (giving ∷ filter p givings) (filter p givings))) giving.var ≡ true
      at_head true e = or_left (giving.var == giving.var) (among (vars_of (filter p givings)) giving.var) (eq-eqb giving.var giving.var refl)
      at_head false e = absurd (both_ways false refl e)

      more : (here : Bool) (var : ℕ) → among (vars_of (filter p givings)) var ≡ true → among (vars_of (cond here (giving ∷ filter p givings) (filter p givings))) var ≡ true
      more true var h = or_right (giving.var == var) (among (vars_of (filter p givings)) var) h
      more false var h = h

      later : (here : Bool) (rest : List Giving) → AllByRecursion (λ it. p it ≡ true → among (vars_of (filter p givings)) it.var ≡ true) rest
          → AllByRecursion (λ it. p it ≡ true → among (vars_of (cond here (giving ∷ filter p givings) (filter p givings))) it.var ≡ true) rest
      later here [] h = tt
      later here (it ∷ rest) h = (λ e. more here it.var (h.0 e), later here rest h.1)

  pub is_closed : IsClosed fields all (unclean_with fields (dirty_among fields all)).vars
  is_closed = from_given all (given_among (is_given (dirty_among fields all)) all)
    where
      from_given : (givings : List Giving) → AllByRecursion (λ giving. is_given (dirty_among fields all) giving ≡ true → among (step (dirty_among fields all)) giving.var ≡ true) givings
          → AllByRecursion (λ giving. is_clean_giving (unclean_with fields (dirty_among fields all)) giving ≡ false → among (dirty_among fields all) giving.var ≡ true) givings
      from_given [] h = tt
      from_given (giving ∷ givings) h = (
        λ e. ap (λ (dirty : List ℕ). among dirty giving.var) (sym fixed) ∙ h.0 (not_from_false (is_clean_giving (unclean_with fields (dirty_among fields all)) giving) e),
        from_given givings h.1,
      )

  module _ (vars : ℕ → Bool) (closed : IsClosed fields all vars) where
    in_closed : (p : Giving → Bool) → ((giving : Giving) → p giving ≡ true → is_clean_giving (record { fields = fields; vars = vars }) giving ≡ false) → (givings : List Giving)
        → IsClosed fields givings vars → (var : ℕ) → among (map (λ giving. giving.var) (filter p givings)) var ≡ true → vars var ≡ true
    in_closed p unclean [] h var e = absurd (both_ways false refl e)
    in_closed p unclean (giving ∷ givings) h var e = at_head (p giving) (unclean giving) (in_closed p unclean givings h.1 var) e
      where
        at_head : (here : Bool) → (here ≡ true → is_clean_giving (record { fields = fields; vars = vars }) giving ≡ false)
            → (among (map (λ giving. giving.var) (filter p givings)) var ≡ true → vars var ≡ true)
            → among (map (λ giving. giving.var) (cond here (giving ∷ filter p givings) (filter p givings))) var ≡ true → vars var ≡ true
        at_head true u more e =
            ⊎_elim (λ same. subst (λ (var : ℕ). vars var ≡ true) (eqb-true giving.var var same) (h.0 (u refl))) more
            (or_cases (giving.var == var) (among (map (λ giving. giving.var) (filter p givings)) var) e)
        at_head false u more e = more e

    least_after : (n : ℕ) → Within (among (passed n)) vars
    least_after zero var e = absurd (both_ways false refl e)
    least_after (suc n) var h =
        in_closed (is_given (passed n)) (λ giving e. not-true (is_clean_giving (record { fields = fields; vars = vars }) giving) (unclean_grows fields (among (passed n)) vars (least_after n) giving e)) all closed var h

pub dirty_is_closed : DirtyIsClosed
dirty_is_closed = is_closed

pub dirty_is_least : DirtyIsLeast
dirty_is_least fields all vars closed = least_after fields all vars closed (length all)
