-- The code of well-typed blocks is well typed.
use Rattle.std.proofs.Common.{◌≡◌, ℕ, ℤ, Bool, true, ◌&&◌, ◌==◌, List, [], ◌∷◌, ◌++◌, map, length, refl, sym, ap, subst, ◌∙◌, append_assoc, arith}
use Rattle.std.specs.Prelude.{slice_get}
use Rattle.std.specs.List.{flat_map}
use Rattle.std.proofs.lemmas.Bool.{and_parts, and_from, eq-eqb}
use Rattle.std.proofs.lemmas.List.{append-nil, map-append}
use Rattle.std.proofs.lemmas.List.Concat.{flat_map-append}
use Rattle.std.proofs.lemmas.List.Folds.{flat_map-map}
use Rattle.sg_words.specs.declared.operators.Ty.{Ty}
use Rattle.sg_words.specs.declared.operators.Ty.TheVariants as ty
use Rattle.sg_layout.specs.declared.shape.Shape.{Shape}
use Rattle.sg_types.specs.declared.typed.TypedExpr.{TypedExpr}
use Rattle.sg_types.specs.declared.typed.TypedRange.{TypedRange}
use Rattle.sg_types.specs.declared.typed.TypedKind.TheVariants as kind
use Rattle.sg_types.specs.declared.typed.TypedStmt.{TypedStmt}
use Rattle.sg_types.specs.TypeTable as table
use Rattle.sg_types.specs.WellTyped.{Visible, setting, is_ty, is_well_typed_expr, is_well_typed_range, Fitting, all_fit, kind_fits, fitting}
use Rattle.sg_types.proofs.Uses as folds
use Rattle.sg_admit.specs.Lines.{Line, within_if, within_loop, stmt_lines, block_lines}
use Rattle.sg_ir.specs.declared.code.Inst.{Inst, fold-Inst}
use Rattle.sg_ir.specs.declared.code.Inst.TheVariants as v
use Rattle.sg_ir.specs.declared.names.Names.{Names}
use Rattle.sg_ir.specs.WellTyped as ir
use Rattle.sg_ir.specs.WellTyped.{Frame, Scope, with_var, reads, holds_of, is_i32, judges, judged, sets_step, reg_number, place_number, settings, set_regs, set_places}
use Rattle.sg_ir.specs.EmitTypes.{Begins}
use Rattle.sg_ir.proofs.Uses.{fold-If, fold-For, judges-If, judges-For, goes_on-trans, final-before}
use Rattle.sg_lower.specs.steps.Typing.{Ready, HoldsWordOf, AddsExpr, AddsSet, Once, AddsStmt, AddsBlock}
use Rattle.sg_lower.proofs.LineWords.{lines-If, lines-For, all_front, all_back}
use Rattle.sg_lower.proofs.Stepping.{of_kind}
use Rattle.sg_lower.proofs.KernelFits.{its_typed}
use Rattle.sg_lower.proofs.TypeWords.{ty_is, condition_is}
use Rattle.sg_lower.proofs.SettingMore.{goes_behind, keeps-same, set_same, set_needs, set_trans, set_inst}
use Rattle.sg_lower.proofs.TypingLines.{at_start, value_first, with_var_ready}
use Rattle.sg_lower.proofs.UsingLines.{lines_more}

-- what an `if` sets is what its blocks set, and a `for` sets its variable and what its block sets
inner_sets : (block : List Inst) → flat_map (λ (ss : List ir.SetName). ss) (map (fold-Inst (List ir.SetName) sets_step) block) ≡ settings block
inner_sets block = flat_map-map (λ (ss : List ir.SetName). ss) (fold-Inst (List ir.SetName) sets_step) block

pub if_sets : (number : ir.SetName → List ℕ) (r : ℕ) (yes_code no_code : List Inst) → flat_map number (settings (v.If r yes_code no_code ∷ [])) ≡ flat_map number (settings yes_code) ++ flat_map number (settings no_code)
if_sets number r yes_code no_code =
    ap (flat_map number)
    (append-nil (fold-Inst (List ir.SetName) sets_step (v.If r yes_code no_code))
    ∙ (fold-If sets_step r yes_code no_code
    ∙ (ap (λ (ss : List ir.SetName). ss ++ flat_map (λ (it : List ir.SetName). it) (map (fold-Inst (List ir.SetName) sets_step) no_code)) (inner_sets yes_code) ∙ ap (λ (ss : List ir.SetName). settings yes_code ++ ss) (inner_sets no_code))))
    ∙ flat_map-append number (settings yes_code) (settings no_code)

pub for_sets : (number : ir.SetName → List ℕ) (var : ℕ) (lo hi : ℤ) (code : List Inst) → flat_map number (settings (v.For var lo hi code ∷ [])) ≡ number (ir.SetsVar var) ++ flat_map number (settings code)
for_sets number var lo hi code =
    ap (flat_map number) (append-nil (fold-Inst (List ir.SetName) sets_step (v.For var lo hi code)) ∙ (fold-For sets_step var lo hi code ∙ ap (λ (ss : List ir.SetName). ir.SetsVar var ∷ ss) (inner_sets code)))

begins-both : (old mid new : Names) → Begins old mid → Begins mid new → Begins old new
begins-both old mid new one two = record { types = one.types ++ two.types; regs = two.regs ∙ (ap (λ (ts : List Ty). ts ++ two.types) one.regs ∙ append_assoc old.regs one.types two.types) }

-- one more statement
fits_parts : (fits : List Fitting) (fit : Fitting) (visible : List Visible) → (all_fit (fits ++ fit ∷ []) visible).0 ≡ true → ((all_fit fits visible).0 ≡ true) × ((fit (all_fit fits visible).1).0 ≡ true)
fits_parts [] fit visible h = (refl, (and_parts (fit visible).0 true h).0)
fits_parts (first ∷ fits) fit visible h =
    let p = and_parts (first visible).0 (all_fit (fits ++ fit ∷ []) (first visible).1).0 h in
    let q = fits_parts fits fit (first visible).1 p.1 in
    (and_from (first visible).0 (all_fit fits (first visible).1).0 p.0 q.0, q.1)

fits_scope : (fits : List Fitting) (fit : Fitting) (visible : List Visible) → (all_fit (fits ++ fit ∷ []) visible).1 ≡ (fit (all_fit fits visible).1).1
fits_scope [] fit visible = refl
fits_scope (first ∷ fits) fit visible = fits_scope fits fit (first visible).1

module _ (shapes : List Shape) where
  pub block_none : (names : Names) (block : List Inst) → AddsBlock shapes [] names names block block
  block_none names block = λ types visible around h. set_same shapes (at_start shapes types visible []) (Ready (setting shapes types visible)) names block (λ at scope need. need.0)

  pub block_same : (given stmts : List TypedStmt) (old new : Names) (a z : List Inst) → given ≡ stmts → AddsBlock shapes given old new a z → AddsBlock shapes stmts old new a z
  block_same given stmts old new a z same = subst (λ (it : List TypedStmt). AddsBlock shapes it old new a z) same

  pub block_next : (done : List TypedStmt) (stmt : TypedStmt) (old mid new : Names) (a b c : List Inst) → AddsBlock shapes done old mid a b → AddsStmt shapes stmt mid new b c → AddsBlock shapes (done ++ stmt ∷ []) old new a c
  block_next done stmt old mid new a b c one two = λ types visible around h.
      let fits = map (fitting shapes types) done in
      let fit = fitting shapes types stmt in
      let p = fits_parts fits fit visible (ap (λ (l : List Fitting). (all_fit l visible).0) (sym (map-append (fitting shapes types) done (stmt ∷ []))) ∙ h) in
      let behind = (all_fit fits visible).1 in
      let front = block_lines done around in
      let back = stmt_lines stmt around in
      subst (λ (seen : List Visible). AddsSet shapes (at_start shapes types visible (block_lines (done ++ stmt ∷ []) around)) (Ready (setting shapes types seen)) old new a c)
      (sym (ap (λ (l : List Fitting). (all_fit l visible).1) (map-append (fitting shapes types) done (stmt ∷ [])) ∙ fits_scope fits fit visible))
      (subst (λ (ls : List Line). AddsSet shapes (at_start shapes types visible ls) (Ready (setting shapes types (fit behind).1)) old new a c) (sym (lines_more done stmt around))
      (set_trans shapes (at_start shapes types visible (front ++ back)) (Ready (setting shapes types behind)) (at_start shapes types behind back) (Ready (setting shapes types (fit behind).1)) old mid new a b c
      (set_needs shapes (at_start shapes types visible (front ++ back)) (at_start shapes types visible front) (Ready (setting shapes types behind)) old mid a b (λ at scope need. (need.0, all_front _ front back need.1)) (one types visible around p.0))
      (two types behind around p.1) (λ at f s need got kept. (got, all_back _ front back need.1))))

  pub if_typed : (stmt : TypedStmt) (condition : TypedExpr) (block otherwise : List TypedStmt) (has_else : Bool) (r : ℕ) (yes_code no_code : List Inst) (old k m n : Names) (a b z : List Inst) → stmt.kind ≡ kind.If condition block otherwise has_else
      → AddsExpr shapes condition r old k a b → AddsBlock shapes block k m [] yes_code → AddsBlock shapes otherwise m n [] no_code → z ≡ b ++ v.If r yes_code no_code ∷ [] → AddsStmt shapes stmt old n a z
  if_typed stmt condition block otherwise has_else r yes_code no_code old k m n a b z is has on_yes on_no pushed = of_kind (λ (it : TypedStmt). AddsStmt shapes it old n a z) stmt (kind.If condition block otherwise has_else) is (λ types visible around.
      let S = setting shapes types visible in
      let inside = within_if condition around in
      let own = stmt_lines (record { number = stmt.number; kind = kind.If condition block otherwise has_else }) around in
      let first = block_lines block inside in
      let second = block_lines otherwise inside in
      subst (λ (fit : Fitting). (fit visible).0 ≡ true → AddsSet shapes (at_start shapes types visible own) (Ready (setting shapes types (fit visible).1)) old n a z) (sym (folds.fold-If (kind_fits shapes types) its_typed stmt.number condition block otherwise has_else)) (λ h.
      let p = and_parts (table.is_truth condition.ty && is_well_typed_expr S condition) ((all_fit (map (fitting shapes types) block) visible).0 && (all_fit (map (fitting shapes types) otherwise) visible).0) h in
      let c = and_parts (table.is_truth condition.ty) (is_well_typed_expr S condition) p.0 in
      let q = and_parts (all_fit (map (fitting shapes types) block) visible).0 (all_fit (map (fitting shapes types) otherwise) visible).0 p.1 in
      let Y = on_yes types visible inside q.0 in
      let N = on_no types visible inside q.1 in
      let takes : Frame → Scope → Type 0 = λ at scope. HoldsWordOf r condition.ty at scope × at_start shapes types visible own at scope in
      set_trans shapes (at_start shapes types visible own) takes takes (Ready S) old k n a b z (value_first shapes types visible own (HoldsWordOf r condition.ty) old k a b (has S refl c.1))
      (set_inst shapes takes (Ready S) (v.If r yes_code no_code) k n b z pushed (begins-both k m n Y.begins N.begins)
      (goes_on-trans (length k.regs) (length m.regs) (length n.regs) [] (set_regs yes_code) (set_regs (v.If r yes_code no_code ∷ [])) Y.set_regs (goes_behind (length m.regs) (length n.regs) (set_regs yes_code) (set_regs no_code) (set_regs (v.If r yes_code no_code ∷ [])) N.set_regs (if_sets reg_number r yes_code no_code)))
      (goes_on-trans k.places m.places n.places [] (set_places yes_code) (set_places (v.If r yes_code no_code ∷ [])) Y.set_places (goes_behind m.places n.places (set_places yes_code) (set_places no_code) (set_places (v.If r yes_code no_code ∷ [])) N.set_places (if_sets place_number r yes_code no_code)))
      (λ scope. scope) (λ at scope. ap (λ (it : Bool × Scope). it.1) (judges-If at r yes_code no_code scope)) (keeps-same k)
      (λ at same final scope need.
      let once : Once at (first ++ second) = (subst (Once at) (lines-If stmt.number condition block otherwise has_else around) need.1.1).1 in
      let places = N.set_places.to_is in
      ap (λ (it : Bool × Scope). it.0) (judges-If at r yes_code no_code scope)
      ∙ and_from (reads at scope true r) ((judged at yes_code scope).0 && (judged at no_code scope).0) (ap (λ (truth : Bool). reads at scope truth r) (sym (condition_is condition.ty c.0)) ∙ need.0)
      (and_from (judged at yes_code scope).0 (judged at no_code scope).0 (Y.good at same (final-before m n at N.begins (omega (arith, places)) final) scope refl (need.1.0, all_front _ first second once)).0 (N.good at same final scope refl (need.1.0, all_back _ first second once)).0))
      (λ at scope need. need.1.0))
      (λ at f s need got kept. got)))

  pub for_typed : (stmt : TypedStmt) (var : ℕ) (range : TypedRange) (body : List TypedStmt) (lo hi : ℤ) (code : List Inst) (old n : Names) (a z : List Inst) → stmt.kind ≡ kind.For var range body
      → AddsBlock shapes body old n [] code → z ≡ a ++ v.For var lo hi code ∷ [] → AddsStmt shapes stmt old n a z
  for_typed stmt var range body lo hi code old n a z is on_body pushed = of_kind (λ (it : TypedStmt). AddsStmt shapes it old n a z) stmt (kind.For var range body) is (λ types visible around.
      let S = setting shapes types visible in
      let inside = within_loop range around in
      let own = stmt_lines (record { number = stmt.number; kind = kind.For var range body }) around in
      let there : List Visible = record { var = var; is_loop = true } ∷ visible in
      subst (λ (fit : Fitting). (fit visible).0 ≡ true → AddsSet shapes (at_start shapes types visible own) (Ready (setting shapes types (fit visible).1)) old n a z) (sym (folds.fold-For (kind_fits shapes types) its_typed stmt.number var range body)) (λ h.
      let p = and_parts (is_well_typed_range S range) (is_ty (slice_get types var) ty.I32 && (all_fit (map (fitting shapes types) body) there).0) h in
      let q = and_parts (is_ty (slice_get types var) ty.I32) (all_fit (map (fitting shapes types) body) there).0 p.1 in
      let B = on_body types there inside q.1 in
      set_inst shapes (at_start shapes types visible own) (Ready S) (v.For var lo hi code) old n a z pushed B.begins
      (goes_behind (length old.regs) (length n.regs) [] (set_regs code) (set_regs (v.For var lo hi code ∷ [])) B.set_regs (for_sets reg_number var lo hi code))
      (goes_behind old.places n.places [] (set_places code) (set_places (v.For var lo hi code ∷ [])) B.set_places (for_sets place_number var lo hi code))
      (λ scope. scope) (λ at scope. ap (λ (it : Bool × Scope). it.1) (judges-For at var lo hi code scope)) (keeps-same old)
      (λ at same final scope need.
      let once = subst (Once at) (lines-For stmt.number var range body around) need.1 in
      ap (λ (it : Bool × Scope). it.0) (judges-For at var lo hi code scope)
      ∙ and_from (holds_of is_i32 (slice_get at.vars var)) ((at.setters var == 1) && (judged at code (with_var var scope)).0)
      (ap (holds_of is_i32) (ap (λ (ts : List Ty). slice_get ts var) need.0.0 ∙ ty_is (slice_get types var) ty.I32 q.0))
      (and_from (at.setters var == 1) (judged at code (with_var var scope)).0 (eq-eqb (at.setters var) 1 once.0)
      (B.good at same final (with_var var scope) refl (with_var_ready shapes types visible var true at scope need.0, once.1)).0))
      (λ at scope need. need.0)))
