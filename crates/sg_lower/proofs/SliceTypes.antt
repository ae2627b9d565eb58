-- The address slice of a well-typed kernel is well typed, and declares no variable that the kernel doesn't.
use Rattle.std.proofs.Common.{◌≡◌, ℕ, ◌+◌, ◌≤◌, Bool, true, false, not, ◌&&◌, ◌||◌, ◌==◌, List, [], ◌∷◌, ◌++◌, map, length, slice_get, Option, refl, sym, ap, subst, ◌∙◌, arith}
use Rattle.std.specs.List.{list_all, AllByRecursion}
use Rattle.std.proofs.lemmas.Bool.{and_parts, and_from, both_ways, eqb-true, not-true}
use Rattle.sg_words.specs.declared.operators.Ty.{Ty}
use Rattle.sg_words.specs.declared.operators.Ty.TheVariants as ty
use Rattle.sg_layout.specs.declared.shape.Shape.{Shape}
use Rattle.sg_flat.specs.declared.effects.Way.{Way}
use Rattle.sg_types.specs.declared.typed.TypedExpr.{TypedExpr}
use Rattle.sg_types.specs.declared.typed.Form.TheOpen.{TypedExpr-F}
use Rattle.sg_types.specs.declared.typed.TypedRange.{TypedRange}
use Rattle.sg_types.specs.declared.typed.TypedKind.TheVariants as kind
use Rattle.sg_types.specs.declared.typed.TypedStmt.{TypedStmt}
use Rattle.sg_types.specs.Expressions.{equals_some}
use Rattle.sg_types.specs.TypeTable.{is_numeric, is_truth}
use Rattle.sg_types.specs.WellTyped.{Visible, Surroundings, setting, is_visible, is_local, is_ty, field_in, axes_in, Judged, form_step, is_well_typed_expr, is_well_typed_range, Fitting, all_fit, kind_fits, fitting}
use Rattle.sg_types.specs.Numbers.{var_step, stmt_vars, block_vars}
use Rattle.sg_types.proofs.Uses as folds
use Rattle.sg_types.proofs.Uses.{all_stmts}
use Rattle.sg_admit.specs.Clean.{Unclean, is_clean}
use Rattle.sg_admit.specs.Lines.{Deed, Sets, Writes, Tests, Turns, Opens, Around, Line, within_if, within_loop, stmt_lines, block_lines}
use Rattle.sg_admit.specs.Slices.{may_activate, no_value, stmt_of, stmt_if, slice_step, stmt_slice, block_slice}
use Rattle.sg_admit.specs.Bounds.{is_constant_range}
use Rattle.sg_lower.specs.steps.Typing.{is_part}
use Rattle.sg_lower.proofs.Counts.{zero_le, add_zero, sum_le, add_le, at_most, one_if, times, times-append}
use Rattle.sg_lower.proofs.KernelFits.{its_typed, its_vars, its_slice}
use Rattle.sg_lower.proofs.LineWords.{lines-Let, lines-Assign, lines-Write, lines-If, lines-For, all_front, all_back}
use Rattle.sg_lower.proofs.ScopedForms.{expr_moves, parts_move, range_moves}

-- ---- how often a variable is declared

module _ (walked : Option ℕ) (unclean : Unclean) (v : ℕ) where
  abbrev Fewer : TypedStmt → Type 0
  Fewer stmt = times v (block_vars (stmt_slice walked unclean stmt)) ≤ times v (stmt_vars stmt)

  vars_both : (xs ys : List TypedStmt) → times v (block_vars (xs ++ ys)) ≡ times v (block_vars xs) + times v (block_vars ys)
  vars_both [] ys = add_zero (times v (block_vars ys))
  vars_both (stmt ∷ xs) ys =
      let one = times-append v (stmt_vars stmt) (block_vars (xs ++ ys)) in
      let two = times-append v (stmt_vars stmt) (block_vars xs) in
      let more = vars_both xs ys in
      by_sums _ _ _ _ _ _ one two more
    where
      by_sums : (t a r s b c : ℕ) → t ≡ a + r → s ≡ a + b → r ≡ b + c → t ≡ s + c
      by_sums t a r s b c h k l = omega (arith, h, k, l)

  block_fewer : (block : List TypedStmt) → AllByRecursion Fewer block → times v (block_vars (block_slice walked unclean block)) ≤ times v (block_vars block)
  block_fewer [] all = zero_le 0
  block_fewer (stmt ∷ block) all =
      let first = all.0 in
      let more = block_fewer block all.1 in
      let split = vars_both (stmt_slice walked unclean stmt) (block_slice walked unclean block) in
      let declared = times-append v (stmt_vars stmt) (block_vars block) in
      sum_le _ _ _ _ _ _ split declared first more

  -- a statement that is kept or not
  kept_fewer : (b : Bool) (stmt : TypedStmt) (n : ℕ) → times v (stmt_vars stmt) ≤ n → times v (block_vars (stmt_if b stmt)) ≤ n
  kept_fewer true stmt n h = at_most _ _ n (times-append v (stmt_vars stmt) []) h
  kept_fewer false stmt n h = zero_le n

  fewer_of : (stmt kept : TypedStmt) (b : Bool) (names declared : List ℕ) → stmt_slice walked unclean stmt ≡ stmt_if b kept → stmt_vars kept ≡ names → stmt_vars stmt ≡ declared → times v names ≤ times v declared → Fewer stmt
  fewer_of stmt kept b names declared sliced few all h =
      subst (λ (list : List TypedStmt). times v (block_vars list) ≤ times v (stmt_vars stmt)) (sym sliced)
      (kept_fewer b kept (times v (stmt_vars stmt)) (subst (λ (list : List ℕ). times v (stmt_vars kept) ≤ times v list) (sym all) (subst (λ (list : List ℕ). times v list ≤ times v declared) (sym few) h)))

  same : (xs : List ℕ) → times v xs ≤ times v xs
  same xs = by_number (times v xs)
    where
      by_number : (n : ℕ) → n ≤ n
      by_number n = omega arith

  pub slice_fewer : (block : List TypedStmt) → times v (block_vars (block_slice walked unclean block)) ≤ times v (block_vars block)
  slice_fewer block = block_fewer block (all_stmts Fewer
      (λ number var value. fewer_of (stmt_of number (kind.Let var value)) (stmt_of number (kind.Let var value)) (not (unclean.vars var)) _ _
      (folds.fold-Let (slice_step walked unclean) its_slice number var value) (folds.fold-Let var_step its_vars number var value) (folds.fold-Let var_step its_vars number var value) (same (var ∷ [])))
      (λ number var value. fewer_of (stmt_of number (kind.Assign var value)) (stmt_of number (kind.Assign var value)) (not (unclean.vars var)) _ _
      (folds.fold-Assign (slice_step walked unclean) its_slice number var value) (folds.fold-Assign var_step its_vars number var value) (folds.fold-Assign var_step its_vars number var value) (same []))
      (λ number layout place index way value. fewer_of (stmt_of number (kind.Write layout place index way value)) (stmt_of number (kind.Write layout place index way (no_value value))) (may_activate walked layout way) _ _
      (folds.fold-Write (slice_step walked unclean) its_slice number layout place index way value) (folds.fold-Write var_step its_vars number layout place index way (no_value value)) (folds.fold-Write var_step its_vars number layout place index way value) (same []))
      (λ number condition yes no has_else on_yes on_no.
      let a = block_slice walked unclean yes in
      let b = block_slice walked unclean no in
      let split = times-append v (block_vars a) (block_vars b) in
      let declared = times-append v (block_vars yes) (block_vars no) in
      let one = block_fewer yes on_yes in
      let two = block_fewer no on_no in
      fewer_of (stmt_of number (kind.If condition yes no has_else)) (stmt_of number (kind.If condition a b has_else)) (is_clean unclean condition) _ _
      (folds.fold-If (slice_step walked unclean) its_slice number condition yes no has_else) (folds.fold-If var_step its_vars number condition a b has_else) (folds.fold-If var_step its_vars number condition yes no has_else) (sum_le _ _ _ _ _ _ split declared one two))
      (λ number var range body on_body.
      let a = block_slice walked unclean body in
      let one = block_fewer body on_body in
      fewer_of (stmt_of number (kind.For var range body)) (stmt_of number (kind.For var range a)) true _ _
      (folds.fold-For (slice_step walked unclean) its_slice number var range body) (folds.fold-For var_step its_vars number var range a) (folds.fold-For var_step its_vars number var range body) (add_le (one_if (var == v)) _ _ one))
      block)

-- ---- what of a well-typed block is kept is well typed

or_true : (b : Bool) → (b || true) ≡ true
or_true true = refl
or_true false = refl

module _ (walked : Option ℕ) (unclean : Unclean) where
  -- what a line keeps to
  abbrev pub NeedsDeed : Deed → Type 0
  NeedsDeed (Sets var value) = unclean.vars var ≡ false → is_clean unclean value ≡ true
  NeedsDeed (Writes layout place index way value) = may_activate walked layout way ≡ true → list_all (is_clean unclean) index ≡ true
  NeedsDeed (Tests condition) = Unit {0}
  NeedsDeed (Turns var range) = is_constant_range range ≡ true
  NeedsDeed (Opens ranges) = Unit {0}

  abbrev pub Needs : Line → Type 0
  Needs line = NeedsDeed line.deed

module _ (shapes : List Shape) (types : List Ty) (walked : Option ℕ) (unclean : Unclean) where
  abbrev fit : List TypedStmt → Fitting
  fit stmts = all_fit (map (fitting shapes types) stmts)

  -- a scope has the clean variables of another
  pub record Covers (scope other : List Visible) : Type 0 where
    pub seen : (var : ℕ) → unclean.vars var ≡ false → is_visible scope var ≡ true → is_visible other var ≡ true
    pub local : (var : ℕ) → unclean.vars var ≡ false → is_local scope var ≡ true → is_local other var ≡ true

  or_more : (b x y : Bool) → (x ≡ true → y ≡ true) → (b || x) ≡ true → (b || y) ≡ true
  or_more true x y h g = refl
  or_more false x y h g = h g

  covers_one : (one : Visible) (scope other : List Visible) → Covers scope other → Covers (one ∷ scope) (one ∷ other)
  covers_one one scope other c = record {
    seen = λ var clean. or_more (one.var == var) (is_visible scope var) (is_visible other var) (c.seen var clean);
    local = λ var clean. or_more ((one.var == var) && not one.is_loop) (is_local scope var) (is_local other var) (c.local var clean);
  }

  covers_dirty : (name : ℕ) (scope other : List Visible) → unclean.vars name ≡ true → Covers scope other → Covers (record { var = name; is_loop = false } ∷ scope) other
  covers_dirty name scope other dirty c = record {
    seen = λ var clean h. by_seen var clean (name == var) refl h;
    local = λ var clean h. by_local var clean (name == var) refl h;
  }
    where
      by_seen : (var : ℕ) → unclean.vars var ≡ false → (b : Bool) → (name == var) ≡ b → (b || is_visible scope var) ≡ true → is_visible other var ≡ true
      by_seen var clean true e g = absurd (both_ways (unclean.vars var) clean (ap unclean.vars (sym (eqb-true name var e)) ∙ dirty))
      by_seen var clean false e g = c.seen var clean g

      by_local : (var : ℕ) → unclean.vars var ≡ false → (b : Bool) → (name == var) ≡ b → ((b && true) || is_local scope var) ≡ true → is_local other var ≡ true
      by_local var clean true e g = absurd (both_ways (unclean.vars var) clean (ap unclean.vars (sym (eqb-true name var e)) ∙ dirty))
      by_local var clean false e g = c.local var clean g

  -- what is kept is well typed in a scope that covers, and its scope covers on
  pub record Sliced (behind : List Visible) (kept : List TypedStmt) (other : List Visible) : Type 0 where
    pub typed : (fit kept other).0 ≡ true
    pub covers : Covers behind (fit kept other).1

  fit_both : (xs ys : List TypedStmt) (scope : List Visible) → (fit xs scope).0 ≡ true → (fit ys (fit xs scope).1).0 ≡ true → (fit (xs ++ ys) scope).0 ≡ true
  fit_both [] ys scope h g = g
  fit_both (stmt ∷ xs) ys scope h g =
      let p = and_parts (fitting shapes types stmt scope).0 (fit xs (fitting shapes types stmt scope).1).0 h in
      and_from (fitting shapes types stmt scope).0 (fit (xs ++ ys) (fitting shapes types stmt scope).1).0 p.0 (fit_both xs ys (fitting shapes types stmt scope).1 p.1 g)

  scope_both : (xs ys : List TypedStmt) (scope : List Visible) → (fit (xs ++ ys) scope).1 ≡ (fit ys (fit xs scope).1).1
  scope_both [] ys scope = refl
  scope_both (stmt ∷ xs) ys scope = scope_both xs ys (fitting shapes types stmt scope).1

  sliced_both : (behind : List Visible) (xs ys : List TypedStmt) (other : List Visible) → (fit xs other).0 ≡ true → Sliced behind ys (fit xs other).1 → Sliced behind (xs ++ ys) other
  sliced_both behind xs ys other h s = record { typed = fit_both xs ys other h s.typed; covers = subst (Covers behind) (sym (scope_both xs ys other)) s.covers }

  -- one statement, kept or not
  kept_sliced : (b : Bool) (stmt : TypedStmt) (behind other : List Visible) → (b ≡ true → ((fitting shapes types stmt other).0 ≡ true) × Covers behind (fitting shapes types stmt other).1) → (b ≡ false → Covers behind other)
      → Sliced behind (stmt_if b stmt) other
  kept_sliced true stmt behind other h g = record { typed = and_from (fitting shapes types stmt other).0 true (h refl).0 refl; covers = (h refl).1 }
  kept_sliced false stmt behind other h g = record { typed = refl; covers = g refl }

  abbrev Claim : TypedStmt → Type 0
  Claim stmt = (around : Around) → AllByRecursion (Needs walked unclean) (stmt_lines stmt around) → (scope other : List Visible) → Covers scope other → (fitting shapes types stmt scope).0 ≡ true
      → Sliced (fitting shapes types stmt scope).1 (stmt_slice walked unclean stmt) other

  block_claim : (block : List TypedStmt) → AllByRecursion Claim block → (around : Around) → AllByRecursion (Needs walked unclean) (block_lines block around) → (scope other : List Visible) → Covers scope other → (fit block scope).0 ≡ true
      → Sliced (fit block scope).1 (block_slice walked unclean block) other
  block_claim [] all around lines scope other c typed = record { typed = refl; covers = c }
  block_claim (stmt ∷ block) all around lines scope other c typed =
      let p = and_parts (fitting shapes types stmt scope).0 (fit block (fitting shapes types stmt scope).1).0 typed in
      let one = all.0 around (all_front (Needs walked unclean) (stmt_lines stmt around) (block_lines block around) lines) scope other c p.0 in
      let kept = stmt_slice walked unclean stmt in
      let more = block_claim block all.1 around (all_back (Needs walked unclean) (stmt_lines stmt around) (block_lines block around) lines) (fitting shapes types stmt scope).1 (fit kept other).1 one.covers p.1 in
      sliced_both (fit (stmt ∷ block) scope).1 kept (block_slice walked unclean block) other one.typed more

  -- a claim from the fits of a statement in both scopes
  sliced_of : (stmt kept : TypedStmt) (b : Bool) (scope other : List Visible) (fits held : Fitting) → stmt_slice walked unclean stmt ≡ stmt_if b kept → fitting shapes types stmt ≡ fits → fitting shapes types kept ≡ held
      → (b ≡ true → ((held other).0 ≡ true) × Covers (fits scope).1 (held other).1) → (b ≡ false → Covers (fits scope).1 other) → Sliced (fitting shapes types stmt scope).1 (stmt_slice walked unclean stmt) other
  sliced_of stmt kept b scope other fits held is whole part h g =
      subst (λ (list : List TypedStmt). Sliced (fitting shapes types stmt scope).1 list other) (sym is)
      (kept_sliced b kept (fitting shapes types stmt scope).1 other
      (λ e. subst (λ (it : Fitting). ((it other).0 ≡ true) × Covers (fitting shapes types stmt scope).1 (it other).1) (sym part) (subst (λ (it : Fitting). ((held other).0 ≡ true) × Covers (it scope).1 (held other).1) (sym whole) (h e)))
      (λ e. subst (λ (it : Fitting). Covers (it scope).1 other) (sym whole) (g e)))

  lets : (number var : ℕ) (value : TypedExpr) → Claim (stmt_of number (kind.Let var value))
  lets number var value around lines scope other c typed =
      let line = (subst (AllByRecursion (Needs walked unclean)) (lines-Let number var value around) lines).0 in
      let S = setting shapes types scope in
      let T = setting shapes types other in
      let f = and_parts (is_well_typed_expr S value) (is_ty (slice_get types var) value.ty) (sym (ap (λ (it : Fitting). (it scope).0) (folds.fold-Let (kind_fits shapes types) its_typed number var value)) ∙ typed) in
      let stmt = stmt_of number (kind.Let var value) in
      sliced_of stmt stmt (not (unclean.vars var)) scope other _ _ (folds.fold-Let (slice_step walked unclean) its_slice number var value)
      (folds.fold-Let (kind_fits shapes types) its_typed number var value) (folds.fold-Let (kind_fits shapes types) its_typed number var value)
      (λ e. (
        and_from (is_well_typed_expr T value) (is_ty (slice_get types var) value.ty) (expr_moves shapes types unclean scope other c.seen value (line (not-true (unclean.vars var) e)) f.0) f.1,
        covers_one (record { var = var; is_loop = false }) scope other c,
      ))
      (λ e. covers_dirty var scope other (not-false (unclean.vars var) e) c)
    where
      not-false : (b : Bool) → not b ≡ false → b ≡ true
      not-false true h = refl
      not-false false h = absurd (both_ways true h refl)

  assigns : (number var : ℕ) (value : TypedExpr) → Claim (stmt_of number (kind.Assign var value))
  assigns number var value around lines scope other c typed =
      let line = (subst (AllByRecursion (Needs walked unclean)) (lines-Assign number var value around) lines).0 in
      let S = setting shapes types scope in
      let T = setting shapes types other in
      let g = and_parts (is_local scope var) (is_well_typed_expr S value && is_ty (slice_get types var) value.ty) (sym (ap (λ (it : Fitting). (it scope).0) (folds.fold-Assign (kind_fits shapes types) its_typed number var value)) ∙ typed) in
      let f = and_parts (is_well_typed_expr S value) (is_ty (slice_get types var) value.ty) g.1 in
      let stmt = stmt_of number (kind.Assign var value) in
      sliced_of stmt stmt (not (unclean.vars var)) scope other _ _ (folds.fold-Assign (slice_step walked unclean) its_slice number var value)
      (folds.fold-Assign (kind_fits shapes types) its_typed number var value) (folds.fold-Assign (kind_fits shapes types) its_typed number var value)
      (λ e. (
        and_from (is_local other var) (is_well_typed_expr T value && is_ty (slice_get types var) value.ty) (c.local var (not-true (unclean.vars var) e) g.0)
            (and_from (is_well_typed_expr T value) (is_ty (slice_get types var) value.ty) (expr_moves shapes types unclean scope other c.seen value (line (not-true (unclean.vars var) e)) f.0) f.1),
        c,
      ))
      (λ e. c)

  abbrev its_judged : TypedExpr-F (Ty → Bool) Judged → Judged
  its_judged expr = (expr.ty, expr.form expr.ty)

  -- what stands for a value is well typed
  no_value_typed : (at : Surroundings) (value : TypedExpr) → is_well_typed_expr at (no_value value) ≡ true
  no_value_typed at value = ap (λ (it : Judged). it.1) (folds.fold-Literal (form_step at) its_judged value.ty 0) ∙ or_true (is_numeric value.ty)

  writes : (number layout place : ℕ) (index : List TypedExpr) (way : Way) (value : TypedExpr) → Claim (stmt_of number (kind.Write layout place index way value))
  writes number layout place index way value around lines scope other c typed =
      let line = (subst (AllByRecursion (Needs walked unclean)) (lines-Write number layout place index way value around) lines).0 in
      let S = setting shapes types scope in
      let T = setting shapes types other in
      let g = and_parts (is_ty (field_in shapes layout place) value.ty && is_well_typed_expr S value) (equals_some (axes_in shapes layout) (length index) && list_all (is_part S) index)
      (sym (ap (λ (it : Fitting). (it scope).0) (folds.fold-Write (kind_fits shapes types) its_typed number layout place index way value)) ∙ typed) in
      let f = and_parts (is_ty (field_in shapes layout place) value.ty) (is_well_typed_expr S value) g.0 in
      let i = and_parts (equals_some (axes_in shapes layout) (length index)) (list_all (is_part S) index) g.1 in
      sliced_of (stmt_of number (kind.Write layout place index way value)) (stmt_of number (kind.Write layout place index way (no_value value))) (may_activate walked layout way) scope other _ _
      (folds.fold-Write (slice_step walked unclean) its_slice number layout place index way value)
      (folds.fold-Write (kind_fits shapes types) its_typed number layout place index way value) (folds.fold-Write (kind_fits shapes types) its_typed number layout place index way (no_value value))
      (λ e. (
        and_from (is_ty (field_in shapes layout place) value.ty && is_well_typed_expr T (no_value value)) (equals_some (axes_in shapes layout) (length index) && list_all (is_part T) index)
            (and_from (is_ty (field_in shapes layout place) value.ty) (is_well_typed_expr T (no_value value)) f.0 (no_value_typed T value))
            (and_from (equals_some (axes_in shapes layout) (length index)) (list_all (is_part T) index) i.0 (parts_move shapes types unclean scope other c.seen index (line e) i.1)),
        c,
      ))
      (λ e. c)

  ifs : (number : ℕ) (condition : TypedExpr) (block otherwise : List TypedStmt) (has_else : Bool) → AllByRecursion Claim block → AllByRecursion Claim otherwise → Claim (stmt_of number (kind.If condition block otherwise has_else))
  ifs number condition block otherwise has_else on_block on_otherwise around lines scope other c typed =
      let all = subst (AllByRecursion (Needs walked unclean)) (lines-If number condition block otherwise has_else around) lines in
      let inside = within_if condition around in
      let S = setting shapes types scope in
      let T = setting shapes types other in
      let f = and_parts (is_truth condition.ty && is_well_typed_expr S condition) ((fit block scope).0 && (fit otherwise scope).0)
      (sym (ap (λ (it : Fitting). (it scope).0) (folds.fold-If (kind_fits shapes types) its_typed number condition block otherwise has_else)) ∙ typed) in
      let t = and_parts (is_truth condition.ty) (is_well_typed_expr S condition) f.0 in
      let b = and_parts (fit block scope).0 (fit otherwise scope).0 f.1 in
      let one = block_claim block on_block inside (all_front (Needs walked unclean) (block_lines block inside) (block_lines otherwise inside) all.1) scope other c b.0 in
      let two = block_claim otherwise on_otherwise inside (all_back (Needs walked unclean) (block_lines block inside) (block_lines otherwise inside) all.1) scope other c b.1 in
      let x = block_slice walked unclean block in
      let y = block_slice walked unclean otherwise in
      sliced_of (stmt_of number (kind.If condition block otherwise has_else)) (stmt_of number (kind.If condition x y has_else)) (is_clean unclean condition) scope other _ _
      (folds.fold-If (slice_step walked unclean) its_slice number condition block otherwise has_else)
      (folds.fold-If (kind_fits shapes types) its_typed number condition block otherwise has_else) (folds.fold-If (kind_fits shapes types) its_typed number condition x y has_else)
      (λ e. (
        and_from (is_truth condition.ty && is_well_typed_expr T condition) ((fit x other).0 && (fit y other).0)
            (and_from (is_truth condition.ty) (is_well_typed_expr T condition) t.0 (expr_moves shapes types unclean scope other c.seen condition e t.1)) (and_from (fit x other).0 (fit y other).0 one.typed two.typed),
        c,
      ))
      (λ e. c)

  fors : (number var : ℕ) (range : TypedRange) (body : List TypedStmt) → AllByRecursion Claim body → Claim (stmt_of number (kind.For var range body))
  fors number var range body on_body around lines scope other c typed =
      let all = subst (AllByRecursion (Needs walked unclean)) (lines-For number var range body around) lines in
      let inside = within_loop range around in
      let S = setting shapes types scope in
      let T = setting shapes types other in
      let turned : Visible = record { var = var; is_loop = true } in
      let f = and_parts (is_well_typed_range S range) (is_ty (slice_get types var) ty.I32 && (fit body (turned ∷ scope)).0)
      (sym (ap (λ (it : Fitting). (it scope).0) (folds.fold-For (kind_fits shapes types) its_typed number var range body)) ∙ typed) in
      let b = and_parts (is_ty (slice_get types var) ty.I32) (fit body (turned ∷ scope)).0 f.1 in
      let one = block_claim body on_body inside all.1 (turned ∷ scope) (turned ∷ other) (covers_one turned scope other c) b.1 in
      let x = block_slice walked unclean body in
      sliced_of (stmt_of number (kind.For var range body)) (stmt_of number (kind.For var range x)) true scope other _ _
      (folds.fold-For (slice_step walked unclean) its_slice number var range body)
      (folds.fold-For (kind_fits shapes types) its_typed number var range body) (folds.fold-For (kind_fits shapes types) its_typed number var range x)
      (λ e. (
        and_from (is_well_typed_range T range) (is_ty (slice_get types var) ty.I32 && (fit x (turned ∷ other)).0) (range_moves shapes types unclean scope other c.seen range all.0 f.0)
            (and_from (is_ty (slice_get types var) ty.I32) (fit x (turned ∷ other)).0 b.0 one.typed),
        c,
      ))
      (λ e. c)

  pub slice_typed : (block : List TypedStmt) (around : Around) → AllByRecursion (Needs walked unclean) (block_lines block around) → (scope : List Visible) → (fit block scope).0 ≡ true → (fit (block_slice walked unclean block) scope).0 ≡ true
  slice_typed block around lines scope typed =
      (block_claim block (all_stmts Claim lets assigns writes ifs fors block) around lines scope scope (record { seen = λ var clean h. h; local = λ var clean h. h }) typed).typed
