-- Statements of admitted kernels and of their address slices can be lowered.
use Rattle.std.proofs.Common.{◌≡◌, ℕ, ◌≤◌, Bool, true, false, not, ◌&&◌, ◌||◌, ◌==◌, nat_le, List, [], slice_get, ◌∷◌, ◌++◌, map, length, Option, refl, sym, ap, subst, ◌∙◌, ⊎_elim, arith}
use Rattle.std.specs.List.{list_all, AllByRecursion}
use Rattle.std.proofs.lemmas.Bool.{and_parts, and_from, or_cases, both_ways, eqb-true, not-true, le-leb}
use Rattle.sg_words.specs.declared.operators.Ty.{Ty}
use Rattle.sg_words.specs.declared.operators.Ty.TheVariants as ty
use Rattle.sg_layout.specs.declared.shape.Shape.{Shape}
use Rattle.sg_flat.specs.declared.effects.Way.{Way}
use Rattle.sg_types.specs.declared.typed.TypedExpr.{TypedExpr}
use Rattle.sg_types.specs.declared.typed.Form.TheOpen.{TypedExpr-F}
use Rattle.sg_types.specs.declared.typed.TypedRange.{TypedRange}
use Rattle.sg_types.specs.declared.typed.TypedKind.TheVariants as kind
use Rattle.sg_types.specs.declared.typed.TypedKind.TheOpen.{TypedStmt-F}
use Rattle.sg_types.specs.declared.typed.TypedStmt.{TypedStmt}
use Rattle.sg_types.specs.Expressions.{equals_some}
use Rattle.sg_types.specs.TypeTable.{is_signed, is_truth}
use Rattle.sg_types.specs.Values.{is_own}
use Rattle.sg_types.specs.WellTyped.{Visible, setting, is_local, is_ty, field_in, axes_in, is_well_typed_expr, is_well_typed_range, Fitting, all_fit, kind_fits, fitting}
use Rattle.sg_types.specs.Numbers.{var_step, stmt_vars, block_vars}
use Rattle.sg_types.proofs.Uses as folds
use Rattle.sg_types.proofs.Uses.{by_exprs, by_stmts, all_stmts}
use Rattle.sg_admit.specs.Clean.{Unclean, is_clean}
use Rattle.sg_admit.specs.Lines.{Deed, Sets, Writes, Tests, Turns, Opens, Around, Line, within_if, within_loop, stmt_lines, block_lines}
use Rattle.sg_admit.specs.Slices.{may_activate, no_value, stmt_of, stmt_if, slice_step, stmt_slice, block_slice}
use Rattle.sg_admit.specs.Bounds.{is_constant_range}
use Rattle.sg_admit.specs.Rules.{name_step, name_of, are_names, has_good_reads}
use Rattle.sg_lower.specs.declared.lowering.Field.{Field}
use Rattle.sg_lower.specs.steps.Basis.{Basis, is_owned}
use Rattle.sg_lower.specs.steps.Fitting.{Fitted, fits_owned, fit_step, fitted, can_be_lowered, is_own_index, stmt_fits}
use Rattle.sg_lower.proofs.Fitted.{fits-Let, fits-Assign, fits-Write, fits-If, fits-For}
use Rattle.sg_lower.proofs.ExprFits.{its_fit, expr_fit, unwritten, clean_reads}
use Rattle.sg_lower.proofs.LineWords.{lines-Let, lines-Assign, lines-Write, lines-If, lines-For, all_front, all_back}

abbrev pub its_typed : TypedStmt-F Fitting Fitting → Fitting
its_typed stmt = stmt.kind

abbrev pub its_vars : TypedStmt-F (List ℕ) (List ℕ) → List ℕ
its_vars stmt = stmt.kind

abbrev pub its_slice : TypedStmt-F (ℕ → List TypedStmt) (List TypedStmt) → List TypedStmt
its_slice stmt = stmt.kind stmt.number

list_all_append : {X : Type 0} (p : X → Bool) (xs ys : List X) → list_all p xs ≡ true → list_all p ys ≡ true → list_all p (xs ++ ys) ≡ true
list_all_append p [] ys h g = g
list_all_append p (x ∷ xs) ys h g =
    let parts = and_parts (p x) (list_all p xs) h in
    and_from (p x) (list_all p (xs ++ ys)) parts.0 (list_all_append p xs ys parts.1 g)

abbrev first : Fitted → Option ℕ
first part = part.0

abbrev its_name : TypedExpr-F (Option ℕ) (Option ℕ) → Option ℕ
its_name expr = expr.form

-- the name of an expression is that which lowering sees
name_fitted : (basis : Basis) (expr : TypedExpr) → (fitted basis expr).0 ≡ name_of expr
name_fitted basis = by_exprs (λ expr. (fitted basis expr).0 ≡ name_of expr)
    (λ ty word. ap first (folds.fold-Literal (fit_step basis) its_fit ty word) ∙ sym (folds.fold-Literal name_step its_name ty word))
    (λ ty word. ap first (folds.fold-Constant (fit_step basis) its_fit ty word) ∙ sym (folds.fold-Constant name_step its_name ty word))
    (λ ty var. ap first (folds.fold-Var (fit_step basis) its_fit ty var) ∙ sym (folds.fold-Var name_step its_name ty var))
    (λ ty layout place index all. ap first (folds.fold-Read (fit_step basis) its_fit ty layout place index) ∙ sym (folds.fold-Read name_step its_name ty layout place index))
    (λ ty inner h. ap first (folds.fold-Paren (fit_step basis) its_fit ty inner) ∙ sym (folds.fold-Paren name_step its_name ty inner))
    (λ ty op operand h. ap first (folds.fold-Un (fit_step basis) its_fit ty op operand) ∙ sym (folds.fold-Un name_step its_name ty op operand))
    (λ ty op left right h k. ap first (folds.fold-Bin (fit_step basis) its_fit ty op left right) ∙ sym (folds.fold-Bin name_step its_name ty op left right))
    (λ ty a b shift h k l. ap first (folds.fold-Mulq (fit_step basis) its_fit ty a b shift) ∙ sym (folds.fold-Mulq name_step its_name ty a b shift))
    (λ ty inner h. ap first (folds.fold-Convert (fit_step basis) its_fit ty inner) ∙ sym (folds.fold-Convert name_step its_name ty inner))
    (λ ty layout index all. ap first (folds.fold-Active (fit_step basis) its_fit ty layout index) ∙ sym (folds.fold-Active name_step its_name ty layout index))

names_fitted : (basis : Basis) (index : List TypedExpr) → map (λ expr. (fitted basis expr).0) index ≡ map name_of index
names_fitted basis [] = refl
names_fitted basis (expr ∷ index) = ap (λ (name : Option ℕ). name ∷ map (λ expr. (fitted basis expr).0) index) (name_fitted basis expr) ∙ ap (λ (names : List (Option ℕ)). name_of expr ∷ names) (names_fitted basis index)

module _ (shapes : List Shape) (types : List Ty) (owned : List Field) (vars : ℕ) (walked : Option ℕ) (unclean : Unclean) (good : ℕ → ℕ → Bool → Bool)
    (good_owned : (layout place : ℕ) (named : Bool) → good layout place named ≡ true → (not (is_owned owned layout place) || named) ≡ true)
    (own_written : (layout place : ℕ) → is_owned owned layout place ≡ true → unclean.fields layout place ≡ true) where
  abbrev pub body : Basis
  body = record { shapes = shapes; owned = owned; vars = vars; slicing = false }

  abbrev pub slice : Basis
  slice = record { shapes = shapes; owned = owned; vars = vars; slicing = true }

  -- what a line keeps to
  abbrev pub SoundDeed : Deed → Type 0
  SoundDeed (Sets var value) = (has_good_reads vars good value ≡ true) × (unclean.vars var ≡ false → is_clean unclean value ≡ true)
  SoundDeed (Writes layout place index way value) =
      (list_all (has_good_reads vars good) index ≡ true) × (has_good_reads vars good value ≡ true)
      × (is_own way ≡ true → (are_names vars 0 (map name_of index) ≡ true) × (is_owned owned layout place ≡ true)) × (may_activate walked layout way ≡ true → list_all (is_clean unclean) index ≡ true)
  SoundDeed (Tests condition) = has_good_reads vars good condition ≡ true
  SoundDeed (Turns var range) = is_constant_range range ≡ true
  SoundDeed (Opens ranges) = Unit {0}

  abbrev pub Sound : Line → Type 0
  Sound line = SoundDeed line.deed

  body_expr : (scope : List Visible) (expr : TypedExpr) → has_good_reads vars good expr ≡ true → is_well_typed_expr (setting shapes types scope) expr ≡ true → can_be_lowered body expr ≡ true
  body_expr scope expr = (expr_fit body (setting shapes types scope) refl good good_owned expr).fit

  unwritten_owned : (layout place : ℕ) (named : Bool) → not (unclean.fields layout place) ≡ true → fits_owned slice layout place named ≡ true
  unwritten_owned layout place named h = by_test (is_owned owned layout place) refl
    where
      by_test : (b : Bool) → is_owned owned layout place ≡ b → (not (is_owned owned layout place) || (false && named)) ≡ true
      by_test false e = ap (λ (b : Bool). not b || (false && named)) e
      by_test true e = absurd (both_ways (unclean.fields layout place) (not-true (unclean.fields layout place) h) (own_written layout place e))

  slice_expr : (scope : List Visible) (expr : TypedExpr) → is_clean unclean expr ≡ true → is_well_typed_expr (setting shapes types scope) expr ≡ true → can_be_lowered slice expr ≡ true
  slice_expr scope expr clean = (expr_fit slice (setting shapes types scope) refl (unwritten unclean vars) unwritten_owned expr).fit (clean_reads unclean vars expr clean)

  abbrev IsPart : List Visible → TypedExpr → Bool
  IsPart scope part = is_signed part.ty && is_well_typed_expr (setting shapes types scope) part

  body_parts : (scope : List Visible) (index : List TypedExpr) → list_all (has_good_reads vars good) index ≡ true → list_all (IsPart scope) index ≡ true → list_all (can_be_lowered body) index ≡ true
  body_parts scope [] g w = refl
  body_parts scope (part ∷ index) g w =
      let gs = and_parts (has_good_reads vars good part) (list_all (has_good_reads vars good) index) g in
      let ws = and_parts (IsPart scope part) (list_all (IsPart scope) index) w in
      and_from (can_be_lowered body part) (list_all (can_be_lowered body) index) (body_expr scope part gs.0 (and_parts (is_signed part.ty) (is_well_typed_expr (setting shapes types scope) part) ws.0).1) (body_parts scope index gs.1 ws.1)

  slice_parts : (scope : List Visible) (index : List TypedExpr) → list_all (is_clean unclean) index ≡ true → list_all (IsPart scope) index ≡ true → list_all (can_be_lowered slice) index ≡ true
  slice_parts scope [] g w = refl
  slice_parts scope (part ∷ index) g w =
      let gs = and_parts (is_clean unclean part) (list_all (is_clean unclean) index) g in
      let ws = and_parts (IsPart scope part) (list_all (IsPart scope) index) w in
      and_from (can_be_lowered slice part) (list_all (can_be_lowered slice) index) (slice_expr scope part gs.0 (and_parts (is_signed part.ty) (is_well_typed_expr (setting shapes types scope) part) ws.0).1) (slice_parts scope index gs.1 ws.1)

  -- no local in scope is a variable of the loop
  abbrev pub LocalsPast : List Visible → Type 0
  LocalsPast = AllByRecursion (λ seen. seen.is_loop ≡ false → vars ≤ seen.var)

  local_past : (scope : List Visible) (var : ℕ) → LocalsPast scope → is_local scope var ≡ true → vars ≤ var
  local_past [] var past h = absurd (both_ways false refl h)
  local_past (seen ∷ scope) var past h =
      ⊎_elim
      (λ e.
      let p = and_parts (seen.var == var) (not seen.is_loop) e in
      let same = eqb-true seen.var var p.0 in
      let l : vars ≤ seen.var = past.0 (not-true seen.is_loop p.1) in
      omega (arith, same, l))
      (local_past scope var past.1) (or_cases ((seen.var == var) && not seen.is_loop) (is_local scope var) h)

  pub record FitsAt (stmt : TypedStmt) (scope : List Visible) : Type 0 where
    pub whole : stmt_fits body stmt ≡ true
    pub sliced : list_all (stmt_fits slice) (stmt_slice walked unclean stmt) ≡ true
    pub past : LocalsPast (fitting shapes types stmt scope).1

  abbrev Claim : TypedStmt → Type 0
  Claim stmt = (around : Around) → AllByRecursion Sound (stmt_lines stmt around) → (scope : List Visible) → LocalsPast scope → (fitting shapes types stmt scope).0 ≡ true
      → AllByRecursion (λ v. vars ≤ v) (stmt_vars stmt) → FitsAt stmt scope

  pub record BlockFits (block : List TypedStmt) : Type 0 where
    pub whole : list_all (stmt_fits body) block ≡ true
    pub sliced : list_all (stmt_fits slice) (block_slice walked unclean block) ≡ true

  block_claim : (block : List TypedStmt) → AllByRecursion Claim block → (around : Around) → AllByRecursion Sound (block_lines block around) → (scope : List Visible) → LocalsPast scope
      → (all_fit (map (fitting shapes types) block) scope).0 ≡ true → AllByRecursion (λ v. vars ≤ v) (block_vars block) → BlockFits block
  block_claim [] all around lines scope past typed numbers = record { whole = refl; sliced = refl }
  block_claim (stmt ∷ block) all around lines scope past typed numbers =
      let p = and_parts (fitting shapes types stmt scope).0 (all_fit (map (fitting shapes types) block) (fitting shapes types stmt scope).1).0 typed in
      let one = all.0 around (all_front Sound (stmt_lines stmt around) (block_lines block around) lines) scope past p.0 (all_front (λ v. vars ≤ v) (stmt_vars stmt) (block_vars block) numbers) in
      let more = block_claim block all.1 around (all_back Sound (stmt_lines stmt around) (block_lines block around) lines) (fitting shapes types stmt scope).1 one.past p.1 (all_back (λ v. vars ≤ v) (stmt_vars stmt) (block_vars block) numbers) in
      record {
        whole = and_from (stmt_fits body stmt) (list_all (stmt_fits body) block) one.whole more.whole;
        sliced = list_all_append (stmt_fits slice) (stmt_slice walked unclean stmt) (block_slice walked unclean block) one.sliced more.sliced;
      }

  kept_fits : (b : Bool) (stmt : TypedStmt) → (b ≡ true → stmt_fits slice stmt ≡ true) → list_all (stmt_fits slice) (stmt_if b stmt) ≡ true
  kept_fits true stmt h = and_from (stmt_fits slice stmt) true (h refl) refl
  kept_fits false stmt h = refl

  lets : (number var : ℕ) (value : TypedExpr) → Claim (stmt_of number (kind.Let var value))
  lets number var value around lines scope past typed numbers =
      let v : vars ≤ var = (subst (AllByRecursion (λ v. vars ≤ v)) (folds.fold-Let var_step its_vars number var value) numbers).0 in
      let line = (subst (AllByRecursion Sound) (lines-Let number var value around) lines).0 in
      let f = and_parts (is_well_typed_expr (setting shapes types scope) value) _ (sym (ap (λ (fit : Fitting). (fit scope).0) (folds.fold-Let (kind_fits shapes types) its_typed number var value)) ∙ typed) in
      record {
        whole = fits-Let body number var value ∙ and_from (nat_le vars var) (can_be_lowered body value) (le-leb vars var v) (body_expr scope value line.0 f.0);
        sliced = subst (λ (kept : List TypedStmt). list_all (stmt_fits slice) kept ≡ true) (sym (folds.fold-Let (slice_step walked unclean) its_slice number var value))
            (kept_fits (not (unclean.vars var)) (stmt_of number (kind.Let var value)) (λ e. fits-Let slice number var value ∙ and_from (nat_le vars var) (can_be_lowered slice value) (le-leb vars var v) (slice_expr scope value (line.1 (not-true (unclean.vars var) e)) f.0)));
        past = subst LocalsPast (sym (ap (λ (fit : Fitting). (fit scope).1) (folds.fold-Let (kind_fits shapes types) its_typed number var value))) (λ e. v, past);
      }

  assigns : (number var : ℕ) (value : TypedExpr) → Claim (stmt_of number (kind.Assign var value))
  assigns number var value around lines scope past typed numbers =
      let g = and_parts (is_local scope var) _ (sym (ap (λ (fit : Fitting). (fit scope).0) (folds.fold-Assign (kind_fits shapes types) its_typed number var value)) ∙ typed) in
      let f = and_parts (is_well_typed_expr (setting shapes types scope) value) _ g.1 in
      let v : vars ≤ var = local_past scope var past g.0 in
      let line = (subst (AllByRecursion Sound) (lines-Assign number var value around) lines).0 in
      record {
        whole = fits-Assign body number var value ∙ and_from (nat_le vars var) (can_be_lowered body value) (le-leb vars var v) (body_expr scope value line.0 f.0);
        sliced = subst (λ (kept : List TypedStmt). list_all (stmt_fits slice) kept ≡ true) (sym (folds.fold-Assign (slice_step walked unclean) its_slice number var value))
            (kept_fits (not (unclean.vars var)) (stmt_of number (kind.Assign var value)) (λ e. fits-Assign slice number var value ∙ and_from (nat_le vars var) (can_be_lowered slice value) (le-leb vars var v) (slice_expr scope value (line.1 (not-true (unclean.vars var) e)) f.0)));
        past = subst LocalsPast (sym (ap (λ (fit : Fitting). (fit scope).1) (folds.fold-Assign (kind_fits shapes types) its_typed number var value))) past;
      }

  own_or : (own it : Bool) → (own ≡ true → it ≡ true) → (not own || it) ≡ true
  own_or true it h = h refl
  own_or false it h = refl

  writes : (number layout place : ℕ) (index : List TypedExpr) (way : Way) (value : TypedExpr) → Claim (stmt_of number (kind.Write layout place index way value))
  writes number layout place index way value around lines scope past typed numbers =
      let line = (subst (AllByRecursion Sound) (lines-Write number layout place index way value around) lines).0 in
      let g = and_parts (is_ty (field_in shapes layout place) value.ty && is_well_typed_expr (setting shapes types scope) value) (equals_some (axes_in shapes layout) (length index) && list_all (IsPart scope) index)
      (sym (ap (λ (fit : Fitting). (fit scope).0) (folds.fold-Write (kind_fits shapes types) its_typed number layout place index way value)) ∙ typed) in
      let f = and_parts (is_ty (field_in shapes layout place) value.ty) (is_well_typed_expr (setting shapes types scope) value) g.0 in
      let i = and_parts (equals_some (axes_in shapes layout) (length index)) (list_all (IsPart scope) index) g.1 in
      record {
        whole = fits-Write body number layout place index way value
            ∙ and_from ((equals_some (axes_in shapes layout) (length index) && list_all (can_be_lowered body) index) && (false || (can_be_lowered body value && (not (is_own way) || is_own_index body index)))) (not (is_own way) || is_owned owned layout place)
            (and_from (equals_some (axes_in shapes layout) (length index) && list_all (can_be_lowered body) index) (false || (can_be_lowered body value && (not (is_own way) || is_own_index body index)))
            (and_from (equals_some (axes_in shapes layout) (length index)) (list_all (can_be_lowered body) index) i.0 (body_parts scope index line.0 i.1))
            (and_from (can_be_lowered body value) (not (is_own way) || is_own_index body index) (body_expr scope value line.1 f.1)
            (own_or (is_own way) (is_own_index body index) (λ own. ap (are_names vars 0) (names_fitted body index) ∙ (line.2 own).0))))
            (own_or (is_own way) (is_owned owned layout place) (λ own. (line.2 own).1));
        sliced = subst (λ (kept : List TypedStmt). list_all (stmt_fits slice) kept ≡ true) (sym (folds.fold-Write (slice_step walked unclean) its_slice number layout place index way value))
            (kept_fits (may_activate walked layout way) (stmt_of number (kind.Write layout place index way (no_value value))) (λ e.
            fits-Write slice number layout place index way (no_value value)
            ∙ and_from ((equals_some (axes_in shapes layout) (length index) && list_all (can_be_lowered slice) index) && true) (not (is_own way) || is_owned owned layout place)
            (and_from (equals_some (axes_in shapes layout) (length index) && list_all (can_be_lowered slice) index) true (and_from (equals_some (axes_in shapes layout) (length index)) (list_all (can_be_lowered slice) index) i.0 (slice_parts scope index (line.3 e) i.1)) refl)
            (own_or (is_own way) (is_owned owned layout place) (λ own. (line.2 own).1))));
        past = subst LocalsPast (sym (ap (λ (fit : Fitting). (fit scope).1) (folds.fold-Write (kind_fits shapes types) its_typed number layout place index way value))) past;
      }

  ifs : (number : ℕ) (condition : TypedExpr) (block otherwise : List TypedStmt) (has_else : Bool) → AllByRecursion Claim block → AllByRecursion Claim otherwise
      → Claim (stmt_of number (kind.If condition block otherwise has_else))
  ifs number condition block otherwise has_else on_block on_otherwise around lines scope past typed numbers =
      let all = subst (AllByRecursion Sound) (lines-If number condition block otherwise has_else around) lines in
      let inside = within_if condition around in
      let f = and_parts (is_truth condition.ty && is_well_typed_expr (setting shapes types scope) condition) ((all_fit (map (fitting shapes types) block) scope).0 && (all_fit (map (fitting shapes types) otherwise) scope).0)
      (sym (ap (λ (fit : Fitting). (fit scope).0) (folds.fold-If (kind_fits shapes types) its_typed number condition block otherwise has_else)) ∙ typed) in
      let t = and_parts (is_truth condition.ty) (is_well_typed_expr (setting shapes types scope) condition) f.0 in
      let b = and_parts (all_fit (map (fitting shapes types) block) scope).0 (all_fit (map (fitting shapes types) otherwise) scope).0 f.1 in
      let n = subst (AllByRecursion (λ v. vars ≤ v)) (folds.fold-If var_step its_vars number condition block otherwise has_else) numbers in
      let one = block_claim block on_block inside (all_front Sound (block_lines block inside) (block_lines otherwise inside) all.1) scope past b.0 (all_front (λ v. vars ≤ v) (block_vars block) (block_vars otherwise) n) in
      let two = block_claim otherwise on_otherwise inside (all_back Sound (block_lines block inside) (block_lines otherwise inside) all.1) scope past b.1 (all_back (λ v. vars ≤ v) (block_vars block) (block_vars otherwise) n) in
      record {
        whole = fits-If body number condition block otherwise has_else
            ∙ and_from (can_be_lowered body condition) (list_all (stmt_fits body) block && list_all (stmt_fits body) otherwise) (body_expr scope condition all.0 t.1) (and_from (list_all (stmt_fits body) block) (list_all (stmt_fits body) otherwise) one.whole two.whole);
        sliced = subst (λ (kept : List TypedStmt). list_all (stmt_fits slice) kept ≡ true) (sym (folds.fold-If (slice_step walked unclean) its_slice number condition block otherwise has_else))
            (kept_fits (is_clean unclean condition) (stmt_of number (kind.If condition (block_slice walked unclean block) (block_slice walked unclean otherwise) has_else)) (λ e.
            fits-If slice number condition (block_slice walked unclean block) (block_slice walked unclean otherwise) has_else
            ∙ and_from (can_be_lowered slice condition) (list_all (stmt_fits slice) (block_slice walked unclean block) && list_all (stmt_fits slice) (block_slice walked unclean otherwise)) (slice_expr scope condition e t.1)
            (and_from (list_all (stmt_fits slice) (block_slice walked unclean block)) (list_all (stmt_fits slice) (block_slice walked unclean otherwise)) one.sliced two.sliced)));
        past = subst LocalsPast (sym (ap (λ (fit : Fitting). (fit scope).1) (folds.fold-If (kind_fits shapes types) its_typed number condition block otherwise has_else))) past;
      }

  fors : (number var : ℕ) (range : TypedRange) (block : List TypedStmt) → AllByRecursion Claim block → Claim (stmt_of number (kind.For var range block))
  fors number var range block on_block around lines scope past typed numbers =
      let all = subst (AllByRecursion Sound) (lines-For number var range block around) lines in
      let f = and_parts (is_well_typed_range (setting shapes types scope) range) (is_ty (slice_get types var) ty.I32 && (all_fit (map (fitting shapes types) block) (record { var = var; is_loop = true } ∷ scope)).0)
      (sym (ap (λ (fit : Fitting). (fit scope).0) (folds.fold-For (kind_fits shapes types) its_typed number var range block)) ∙ typed) in
      let b = and_parts (is_ty (slice_get types var) ty.I32) (all_fit (map (fitting shapes types) block) (record { var = var; is_loop = true } ∷ scope)).0 f.1 in
      let n = subst (AllByRecursion (λ v. vars ≤ v)) (folds.fold-For var_step its_vars number var range block) numbers in
      let v : vars ≤ var = n.0 in
      let one = block_claim block on_block (within_loop range around) all.1 (record { var = var; is_loop = true } ∷ scope) (λ e. absurd (both_ways true e refl), past) b.1 n.1 in
      record {
        whole = fits-For body number var range block ∙ and_from (nat_le vars var) (is_constant_range range && list_all (stmt_fits body) block) (le-leb vars var v) (and_from (is_constant_range range) (list_all (stmt_fits body) block) all.0 one.whole);
        sliced = subst (λ (kept : List TypedStmt). list_all (stmt_fits slice) kept ≡ true) (sym (folds.fold-For (slice_step walked unclean) its_slice number var range block))
            (kept_fits true (stmt_of number (kind.For var range (block_slice walked unclean block))) (λ e.
            fits-For slice number var range (block_slice walked unclean block)
            ∙ and_from (nat_le vars var) (is_constant_range range && list_all (stmt_fits slice) (block_slice walked unclean block)) (le-leb vars var v)
            (and_from (is_constant_range range) (list_all (stmt_fits slice) (block_slice walked unclean block)) all.0 one.sliced)));
        past = subst LocalsPast (sym (ap (λ (fit : Fitting). (fit scope).1) (folds.fold-For (kind_fits shapes types) its_typed number var range block))) past;
      }

  all_claims : (block : List TypedStmt) → AllByRecursion Claim block
  all_claims = all_stmts Claim lets assigns writes ifs fors

  pub block_fits : (block : List TypedStmt) (around : Around) → AllByRecursion Sound (block_lines block around) → (scope : List Visible) → LocalsPast scope
      → (all_fit (map (fitting shapes types) block) scope).0 ≡ true → AllByRecursion (λ v. vars ≤ v) (block_vars block) → BlockFits block
  block_fits block = block_claim block (all_claims block)
