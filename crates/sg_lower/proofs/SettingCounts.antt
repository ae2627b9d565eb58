-- How often the lines of well-typed statements set a variable: that of an inner loop, which no `let` declares, only where its loop is.
use Rattle.std.proofs.Common.{◌≡◌, ℕ, ◌+◌, ◌≤◌, Bool, true, false, ◌&&◌, ◌||◌, ◌==◌, List, [], ◌∷◌, ◌++◌, map, slice_get, refl, sym, ap, subst, ◌∙◌, arith}
use Rattle.std.specs.List.{AllByRecursion}
use Rattle.std.proofs.lemmas.Bool.{and_parts, both_ways, eqb-true, or_from}
use Rattle.std.proofs.lemmas.List.Concat.{flat_map-append}
use Rattle.sg_words.specs.declared.operators.Ty.{Ty}
use Rattle.sg_words.specs.declared.operators.Ty.TheVariants as ty
use Rattle.sg_layout.specs.declared.shape.Shape.{Shape}
use Rattle.sg_flat.specs.declared.effects.Way.{Way}
use Rattle.sg_types.specs.declared.typed.TypedExpr.{TypedExpr}
use Rattle.sg_types.specs.declared.typed.TypedRange.{TypedRange}
use Rattle.sg_types.specs.declared.typed.TypedKind.TheVariants as kind
use Rattle.sg_types.specs.declared.typed.TypedStmt.{TypedStmt}
use Rattle.sg_types.specs.TypeTable as table
use Rattle.sg_types.specs.WellTyped.{Visible, setting, is_local, is_ty, is_well_typed_expr, is_well_typed_range, Fitting, all_fit, kind_fits, fitting}
use Rattle.sg_types.specs.Numbers.{var_step, stmt_vars, block_vars}
use Rattle.sg_types.proofs.Uses as folds
use Rattle.sg_types.proofs.Uses.{all_stmts}
use Rattle.sg_admit.specs.Lines.{Deed, Sets, Writes, Tests, Turns, Opens, Around, Line, within_if, within_loop, stmt_lines, block_lines}
use Rattle.sg_admit.specs.Slices.{stmt_of}
use Rattle.sg_ir.specs.WellTyped.{Frame}
use Rattle.sg_lower.specs.steps.Typing.{deed_sets, line_sets, deed_turns, line_turns, OnceDeed, Once}
use Rattle.sg_lower.proofs.Counts.{zero_le, sum_le, first_same, second_same, sum_same, add_le, cancel, there_first, there_more, one_if, times, times-append, itself}
use Rattle.sg_lower.proofs.KernelFits.{its_typed, its_vars}
use Rattle.sg_lower.proofs.LineWords.{lines-Let, lines-Assign, lines-Write, lines-If, lines-For}

sets_both : (v : ℕ) (xs ys : List Line) → times v (line_sets (xs ++ ys)) ≡ times v (line_sets xs) + times v (line_sets ys)
sets_both v xs ys = ap (times v) (flat_map-append (λ (line : Line). deed_sets line.deed) xs ys) ∙ times-append v (line_sets xs) (line_sets ys)

turns_both : (v : ℕ) (xs ys : List Line) → times v (line_turns (xs ++ ys)) ≡ times v (line_turns xs) + times v (line_turns ys)
turns_both v xs ys = ap (times v) (flat_map-append (λ (line : Line). deed_turns line.deed) xs ys) ∙ times-append v (line_turns xs) (line_turns ys)

-- a loop's variable is no local
pub no_local : (b rest : Bool) → rest ≡ false → ((b && false) || rest) ≡ false
no_local true rest h = h
no_local false rest h = h

module _ (shapes : List Shape) (types : List Ty) (v : ℕ) where
  -- Inner loops turn a variable at most as often as it is declared. Where only they declare it, nothing else sets it.
  pub record Counts (lines : List Line) (declared : List ℕ) (fit : Fitting) : Type 0 where
    pub turns : times v (line_turns lines) ≤ times v declared
    pub sets : (scope : List Visible) → (fit scope).0 ≡ true → is_local scope v ≡ false → times v declared ≡ times v (line_turns lines)
        → (times v (line_sets lines) ≡ times v (line_turns lines)) × (is_local (fit scope).1 v ≡ false)

  counts_of : (lines given : List Line) (declared names : List ℕ) (fit fits : Fitting) → lines ≡ given → declared ≡ names → fit ≡ fits → Counts given names fits → Counts lines declared fit
  counts_of lines given declared names fit fits p q r h = subst (λ (it : List Line). Counts it declared fit) (sym p) (subst (λ (it : List ℕ). Counts given it fit) (sym q) (subst (λ (it : Fitting). Counts given names it) (sym r) h))

  abbrev Claim : TypedStmt → Type 0
  Claim stmt = (around : Around) → Counts (stmt_lines stmt around) (stmt_vars stmt) (fitting shapes types stmt)

  abbrev BlockClaim : List TypedStmt → Type 0
  BlockClaim block = (around : Around) → Counts (block_lines block around) (block_vars block) (all_fit (map (fitting shapes types) block))

  block_claim : (block : List TypedStmt) → AllByRecursion Claim block → BlockClaim block
  block_claim [] all around = record { turns = zero_le 0; sets = λ scope typed fresh same. (refl, fresh) }
  block_claim (stmt ∷ block) all around =
      let one = all.0 around in
      let more = block_claim block all.1 around in
      let front = stmt_lines stmt around in
      let back = block_lines block around in
      let turned = turns_both v front back in
      let set = sets_both v front back in
      let declared = times-append v (stmt_vars stmt) (block_vars block) in
      let few = one.turns in
      let few_more = more.turns in
      record {
        turns = sum_le _ _ _ _ _ _ turned declared few few_more;
        sets = λ scope typed fresh same.
            let p = and_parts (fitting shapes types stmt scope).0 (all_fit (map (fitting shapes types) block) (fitting shapes types stmt scope).1).0 typed in
            let first = one.sets scope p.0 fresh (first_same _ _ _ _ _ _ turned declared few few_more same) in
            let second = more.sets (fitting shapes types stmt scope).1 p.1 first.1 (second_same _ _ _ _ _ _ turned declared few few_more same) in
            (sum_same _ _ _ _ _ _ set turned first.0 second.0, second.1);
      }

  unnamed : (b : Bool) → one_if b + 0 ≡ 0 → b ≡ false
  unnamed true h = absurd (omega (arith, h))
  unnamed false h = refl

  lets : (number var : ℕ) (value : TypedExpr) → Claim (stmt_of number (kind.Let var value))
  lets number var value around = counts_of _ _ _ _ _ _ (lines-Let number var value around) (folds.fold-Let var_step its_vars number var value) (folds.fold-Let (kind_fits shapes types) its_typed number var value)
      (record {
        turns = zero_le (times v (var ∷ []));
        sets = λ scope typed fresh same. (same, or_from ((var == v) && true) (is_local scope v) (ap (λ (b : Bool). b && true) (unnamed (var == v) same)) fresh);
      })

  assigned : (scope : List Visible) (var : ℕ) → is_local scope var ≡ true → is_local scope v ≡ false → one_if (var == v) + 0 ≡ 0
  assigned scope var there fresh = by_test (var == v) refl
    where
      by_test : (b : Bool) → (var == v) ≡ b → one_if b + 0 ≡ 0
      by_test true e = absurd (both_ways (is_local scope v) fresh (ap (λ (it : ℕ). is_local scope it) (sym (eqb-true var v e)) ∙ there))
      by_test false e = refl

  assigns : (number var : ℕ) (value : TypedExpr) → Claim (stmt_of number (kind.Assign var value))
  assigns number var value around = counts_of _ _ _ _ _ _ (lines-Assign number var value around) (folds.fold-Assign var_step its_vars number var value) (folds.fold-Assign (kind_fits shapes types) its_typed number var value)
      (record {
        turns = zero_le 0;
        sets = λ scope typed fresh same. (assigned scope var (and_parts (is_local scope var) (is_well_typed_expr (setting shapes types scope) value && is_ty (slice_get types var) value.ty) typed).0 fresh, fresh);
      })

  writes : (number layout place : ℕ) (index : List TypedExpr) (way : Way) (value : TypedExpr) → Claim (stmt_of number (kind.Write layout place index way value))
  writes number layout place index way value around =
      counts_of _ _ _ _ _ _ (lines-Write number layout place index way value around) (folds.fold-Write var_step its_vars number layout place index way value) (folds.fold-Write (kind_fits shapes types) its_typed number layout place index way value)
      (record { turns = zero_le 0; sets = λ scope typed fresh same. (refl, fresh) })

  ifs : (number : ℕ) (condition : TypedExpr) (block otherwise : List TypedStmt) (has_else : Bool) → AllByRecursion Claim block → AllByRecursion Claim otherwise → Claim (stmt_of number (kind.If condition block otherwise has_else))
  ifs number condition block otherwise has_else on_block on_otherwise around =
      let inside = within_if condition around in
      let front = block_lines block inside in
      let back = block_lines otherwise inside in
      let one = block_claim block on_block inside in
      let two = block_claim otherwise on_otherwise inside in
      let turned = turns_both v front back in
      let set = sets_both v front back in
      let declared = times-append v (block_vars block) (block_vars otherwise) in
      let few = one.turns in
      let few_more = two.turns in
      counts_of _ _ _ _ _ _ (lines-If number condition block otherwise has_else around) (folds.fold-If var_step its_vars number condition block otherwise has_else) (folds.fold-If (kind_fits shapes types) its_typed number condition block otherwise has_else)
      (record {
        turns = sum_le _ _ _ _ _ _ turned declared few few_more;
        sets = λ scope typed fresh same.
            let p = and_parts (table.is_truth condition.ty && is_well_typed_expr (setting shapes types scope) condition) ((all_fit (map (fitting shapes types) block) scope).0 && (all_fit (map (fitting shapes types) otherwise) scope).0) typed in
            let q = and_parts (all_fit (map (fitting shapes types) block) scope).0 (all_fit (map (fitting shapes types) otherwise) scope).0 p.1 in
            let first = (one.sets scope q.0 fresh (first_same _ _ _ _ _ _ turned declared few few_more same)).0 in
            let second = (two.sets scope q.1 fresh (second_same _ _ _ _ _ _ turned declared few few_more same)).0 in
            (sum_same _ _ _ _ _ _ set turned first second, fresh);
      })

  fors : (number var : ℕ) (range : TypedRange) (body : List TypedStmt) → AllByRecursion Claim body → Claim (stmt_of number (kind.For var range body))
  fors number var range body on_body around =
      let inside = within_loop range around in
      let one = block_claim body on_body inside in
      let few = one.turns in
      counts_of _ _ _ _ _ _ (lines-For number var range body around) (folds.fold-For var_step its_vars number var range body) (folds.fold-For (kind_fits shapes types) its_typed number var range body)
      (record {
        turns = add_le (one_if (var == v)) _ _ few;
        sets = λ scope typed fresh same.
            let there : List Visible = record { var = var; is_loop = true } ∷ scope in
            let p = and_parts (is_well_typed_range (setting shapes types scope) range) (is_ty (slice_get types var) ty.I32 && (all_fit (map (fitting shapes types) body) there).0) typed in
            let q = and_parts (is_ty (slice_get types var) ty.I32) (all_fit (map (fitting shapes types) body) there).0 p.1 in
            let inner = (one.sets there q.1 (no_local (var == v) (is_local scope v) fresh) (cancel (one_if (var == v)) _ _ same)).0 in
            (ap (λ (n : ℕ). one_if (var == v) + n) inner, fresh);
      })

  pub block_counts : (block : List TypedStmt) → BlockClaim block
  block_counts block = block_claim block (all_stmts Claim lets assigns writes ifs fors block)

-- ---- each variable of an inner loop is set once

once_deed : (at : Frame) (deed : Deed) (rest : List ℕ) → ((v : ℕ) → 1 ≤ times v (deed_turns deed ++ rest) → at.setters v ≡ 1) → OnceDeed at deed
once_deed at (Sets var value) rest h = tt
once_deed at (Writes layout place index way value) rest h = tt
once_deed at (Tests condition) rest h = tt
once_deed at (Turns var range) rest h = h var (there_first (one_if (var == var)) (times var rest) (itself var))
once_deed at (Opens ranges) rest h = tt

pub once_of : (at : Frame) (lines : List Line) → ((v : ℕ) → 1 ≤ times v (line_turns lines) → at.setters v ≡ 1) → Once at lines
once_of at [] h = tt
once_of at (line ∷ lines) h = (
  once_deed at line.deed (line_turns lines) h,
  once_of at lines (λ v there. h v (there_more _ _ _ (times-append v (deed_turns line.deed) (line_turns lines)) there)),
)
