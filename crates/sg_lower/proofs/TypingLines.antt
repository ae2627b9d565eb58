-- The code of well-typed statements is well typed.
use Rattle.std.proofs.Common.{◌≡◌, ℕ, ◌<◌, ◌≤◌, Bool, true, false, ◌&&◌, ◌||◌, ◌==◌, if◌then◌else◌, List, [], ◌∷◌, ◌++◌, length, All, Option, Some, refl, sym, ap, subst, ◌∙◌, arith}
use Rattle.std.specs.Prelude.{slice_get}
use Rattle.std.specs.List.{list_all, flat_map}
use Rattle.std.proofs.lemmas.Bool.{and_parts, and_from, both_ways, eqb-true, eq-eqb}
use Rattle.std.proofs.lemmas.List.{append-nil}
use Rattle.sg_words.specs.declared.operators.Ty.{Ty}
use Rattle.sg_words.specs.declared.operators.AccOp.{AccOp}
use Rattle.sg_layout.specs.declared.shape.Shape.{Shape}
use Rattle.sg_flat.specs.declared.effects.Way.{Way}
use Rattle.sg_types.specs.declared.typed.TypedExpr.{TypedExpr}
use Rattle.sg_types.specs.declared.typed.TypedKind.TheVariants as kind
use Rattle.sg_types.specs.declared.typed.TypedStmt.{TypedStmt}
use Rattle.sg_types.specs.Expressions.{equals_some}
use Rattle.sg_types.specs.WellTyped.{Visible, setting, is_visible, is_local, is_ty, axes_in, field_in, is_well_typed_expr, Fitting, kind_fits}
use Rattle.sg_types.proofs.Uses as folds
use Rattle.sg_admit.specs.Lines.{Line, stmt_lines}
use Rattle.sg_ir.specs.declared.code.Inst.{Inst, fold-Inst}
use Rattle.sg_ir.specs.declared.code.Inst.TheVariants as v
use Rattle.sg_ir.specs.declared.names.Names.{Names}
use Rattle.sg_ir.specs.WellTyped as ir
use Rattle.sg_ir.specs.WellTyped.{Frame, Scope, with_var, is_truth, is_truth_as, joins, reads, indexes, holds_of, is_i32, is_cell, field_type_at, inst_fits, judges, judged, sets_step, reg_number, place_number, settings, set_regs, set_places}
use Rattle.sg_ir.specs.EmitTypes.{GoesOn, Begins, IsFinal, Adds, CanRead}
use Rattle.sg_ir.proofs.Uses.{fold-Set, fold-OwnWrite, fold-Acc, fold-Want, judges-Set, judges-OwnWrite, judges-Acc, judges-Want, goes_on-same, adds-trans, can_read-kept}
use Rattle.sg_lower.specs.steps.Fitting.{write_stmt}
use Rattle.sg_lower.specs.steps.Typing.{IsCell, Ready, HoldsWordOf, AddsExpr, is_part, AddsIndex, KeepsNames, AddsSet, Once, AddsStmt}
use Rattle.sg_lower.proofs.Stepping.{of_kind}
use Rattle.sg_lower.proofs.KernelFits.{its_typed}
use Rattle.sg_lower.proofs.TypeWords.{ty_is}
use Rattle.sg_lower.proofs.TypingForms.{indexed}
use Rattle.sg_lower.proofs.AddingMore.{ready-kept, word-kept, adds-keeping}
use Rattle.sg_lower.proofs.SettingMore.{keeps-same, set_from, set_needs, set_trans, set_inst}

-- a variable that is set may be read, as those before it
with_var_keeps : (names : Names) (var : ℕ) (scope : Scope) → KeepsNames names scope (with_var var scope)
with_var_keeps names var scope = record { regs = λ r below. refl; places = λ p below. refl; vars = λ other seen. by_test other (other == var) seen }
  where
    by_test : (other : ℕ) (b : Bool) → scope.vars other ≡ true → (if b then true else scope.vars other) ≡ true
    by_test other true seen = refl
    by_test other false seen = seen

pub with_var_ready : (shapes : List Shape) (types : List Ty) (visible : List Visible) (var : ℕ) (is_loop : Bool) (at : Frame) (scope : Scope) → Ready (setting shapes types visible) at scope
    → Ready (setting shapes types (record { var = var; is_loop = is_loop } ∷ visible)) at (with_var var scope)
with_var_ready shapes types visible var is_loop at scope ready = (ready.0, λ other seen. by_test other (other == var) refl (var == other) refl seen)
  where
    by_test : (other : ℕ) (b : Bool) → (other == var) ≡ b → (c : Bool) → (var == other) ≡ c → (c || is_visible visible other) ≡ true → (if b then true else scope.vars other) ≡ true
    by_test other true e c f seen = refl
    by_test other false e true f seen = absurd (both_ways (other == var) e (eq-eqb other var (sym (eqb-true var other f))))
    by_test other false e false f seen = ready.1 other seen

-- a register with a word, where a variable or a field of its type is set
joined_word : (at : Frame) (scope : Scope) (r : ℕ) (given : Ty) (found : Option Ty) → found ≡ Some given → HoldsWordOf r given at scope → (scope.regs r && joins found (slice_get at.regs r)) ≡ true
joined_word at scope r given found is has = ap (λ (f : Option Ty). scope.regs r && joins f (slice_get at.regs r)) is ∙ has

no_regs : (inst : Inst) → fold-Inst (List ir.SetName) sets_step inst ≡ [] → set_regs (inst ∷ []) ≡ []
no_regs inst is = ap (λ (ss : List ir.SetName). flat_map reg_number (ss ++ [])) is

no_places : (inst : Inst) → fold-Inst (List ir.SetName) sets_step inst ≡ [] → set_places (inst ∷ []) ≡ []
no_places inst is = ap (λ (ss : List ir.SetName). flat_map place_number (ss ++ [])) is

nothing : (from : ℕ) (xs : List ℕ) → xs ≡ [] → GoesOn from from [] xs
nothing from xs is = subst (GoesOn from from []) (sym is) (goes_on-same from [])

begins-same : (names : Names) → Begins names names
begins-same names = record { types = []; regs = sym (append-nil names.regs) }

module _ (shapes : List Shape) where
  abbrev pub at_start : List Ty → List Visible → List Line → Frame → Scope → Type 0
  at_start types visible lines at scope = Ready (setting shapes types visible) at scope × Once at lines

  -- an expression first, and what is needed on
  pub value_first : (types : List Ty) (visible : List Visible) (lines : List Line) (gains : Frame → Scope → Type 0) (old mid : Names) (a b : List Inst) → Adds shapes (Ready (setting shapes types visible)) gains old mid a b
      → AddsSet shapes (at_start types visible lines) (λ at scope. gains at scope × at_start types visible lines at scope) old mid a b
  value_first types visible lines gains old mid a b it =
      set_needs shapes (at_start types visible lines) (λ at scope. Ready (setting shapes types visible) at scope × at_start types visible lines at scope) (λ at scope. gains at scope × at_start types visible lines at scope) old mid a b (λ at scope need. (need.0, need))
      (set_from shapes _ _ old mid a b (adds-keeping shapes (Ready (setting shapes types visible)) gains (at_start types visible lines) old mid a b it (λ at f s need keeps. (ready-kept (setting shapes types visible) old at f s need.0 keeps, need.1))))

  -- an instruction that sets no register and no place, after what it takes
  inst_behind : (needs takes gains : Frame → Scope → Type 0) (inst : Inst) (old mid : Names) (a b z : List Inst) → AddsSet shapes needs takes old mid a b → z ≡ b ++ inst ∷ []
      → set_regs (inst ∷ []) ≡ [] → set_places (inst ∷ []) ≡ [] → (behind : Scope → Scope) → ((at : Frame) (scope : Scope) → (judges at inst scope).1 ≡ behind scope) → ((scope : Scope) → KeepsNames mid scope (behind scope))
      → ((at : Frame) → at.shapes ≡ shapes → IsFinal mid at → (scope : Scope) → takes at scope → (judges at inst scope).0 ≡ true)
      → ((at : Frame) (scope : Scope) → takes at scope → gains at (behind scope)) → AddsSet shapes needs gains old mid a z
  inst_behind needs takes gains inst old mid a b z first pushed regs places behind last keeps passes gained =
      set_trans shapes needs takes takes gains old mid mid a b z first
      (set_inst shapes takes gains inst mid mid b z pushed (begins-same mid) (nothing (length mid.regs) (set_regs (inst ∷ [])) regs) (nothing mid.places (set_places (inst ∷ [])) places) behind last keeps passes gained)
      (λ at f s need got kept. got)

  set_of : (inst_var : ℕ) (r : ℕ) → (set_regs (v.Set inst_var r ∷ []) ≡ []) × (set_places (v.Set inst_var r ∷ []) ≡ [])
  set_of var r = (ap (λ (ss : List ir.SetName). flat_map reg_number (ss ++ [])) (fold-Set sets_step var r), ap (λ (ss : List ir.SetName). flat_map place_number (ss ++ [])) (fold-Set sets_step var r))

  pub let_typed : (stmt : TypedStmt) (var : ℕ) (value : TypedExpr) (r : ℕ) (old mid : Names) (a b z : List Inst) → stmt.kind ≡ kind.Let var value → AddsExpr shapes value r old mid a b → z ≡ b ++ v.Set var r ∷ [] → AddsStmt shapes stmt old mid a z
  let_typed stmt var value r old mid a b z is has pushed = of_kind (λ (it : TypedStmt). AddsStmt shapes it old mid a z) stmt (kind.Let var value) is (λ types visible around.
      let lines = stmt_lines (record { number = stmt.number; kind = kind.Let var value }) around in
      subst (λ (fit : Fitting). (fit visible).0 ≡ true → AddsSet shapes (at_start types visible lines) (Ready (setting shapes types (fit visible).1)) old mid a z) (sym (folds.fold-Let (kind_fits shapes types) its_typed stmt.number var value)) (λ h.
      let p = and_parts (is_well_typed_expr (setting shapes types visible) value) (is_ty (slice_get types var) value.ty) h in
      inst_behind (at_start types visible lines) (λ at scope. HoldsWordOf r value.ty at scope × at_start types visible lines at scope) (Ready (setting shapes types (record { var = var; is_loop = false } ∷ visible))) (v.Set var r) old mid a b z
      (value_first types visible lines (HoldsWordOf r value.ty) old mid a b (has (setting shapes types visible) refl p.0)) pushed (set_of var r).0 (set_of var r).1 (with_var var)
      (λ at scope. ap (λ (q : Bool × Scope). q.1) (judges-Set at var r scope)) (with_var_keeps mid var)
      (λ at same final scope need. ap (λ (q : Bool × Scope). q.0) (judges-Set at var r scope) ∙ joined_word at scope r value.ty (slice_get at.vars var) (ap (λ (ts : List Ty). slice_get ts var) need.1.0.0 ∙ ty_is (slice_get types var) value.ty p.1) need.0)
      (λ at scope need. with_var_ready shapes types visible var false at scope need.1.0)))

  -- what may be read may be read after a variable that is set
  set_ready : (types : List Ty) (visible : List Visible) (var : ℕ) (at : Frame) (scope : Scope) → Ready (setting shapes types visible) at scope → Ready (setting shapes types visible) at (with_var var scope)
  set_ready types visible var at scope ready = (ready.0, λ other seen. (with_var_keeps (record { regs = []; places = 0 }) var scope).vars other (ready.1 other seen))

  pub assign_typed : (stmt : TypedStmt) (var : ℕ) (value : TypedExpr) (r : ℕ) (old mid : Names) (a b z : List Inst) → stmt.kind ≡ kind.Assign var value → AddsExpr shapes value r old mid a b → z ≡ b ++ v.Set var r ∷ [] → AddsStmt shapes stmt old mid a z
  assign_typed stmt var value r old mid a b z is has pushed = of_kind (λ (it : TypedStmt). AddsStmt shapes it old mid a z) stmt (kind.Assign var value) is (λ types visible around.
      let lines = stmt_lines (record { number = stmt.number; kind = kind.Assign var value }) around in
      subst (λ (fit : Fitting). (fit visible).0 ≡ true → AddsSet shapes (at_start types visible lines) (Ready (setting shapes types (fit visible).1)) old mid a z) (sym (folds.fold-Assign (kind_fits shapes types) its_typed stmt.number var value)) (λ h.
      let q = and_parts (is_local visible var) (is_well_typed_expr (setting shapes types visible) value && is_ty (slice_get types var) value.ty) h in
      let p = and_parts (is_well_typed_expr (setting shapes types visible) value) (is_ty (slice_get types var) value.ty) q.1 in
      inst_behind (at_start types visible lines) (λ at scope. HoldsWordOf r value.ty at scope × at_start types visible lines at scope) (Ready (setting shapes types visible)) (v.Set var r) old mid a b z
      (value_first types visible lines (HoldsWordOf r value.ty) old mid a b (has (setting shapes types visible) refl p.0)) pushed (set_of var r).0 (set_of var r).1 (with_var var)
      (λ at scope. ap (λ (q : Bool × Scope). q.1) (judges-Set at var r scope)) (with_var_keeps mid var)
      (λ at same final scope need. ap (λ (q : Bool × Scope). q.0) (judges-Set at var r scope) ∙ joined_word at scope r value.ty (slice_get at.vars var) (ap (λ (ts : List Ty). slice_get ts var) need.1.0.0 ∙ ty_is (slice_get types var) value.ty p.1) need.0)
      (λ at scope need. set_ready types visible var at scope need.1.0)))

  -- ---- writes
  module _ (number layout place : ℕ) (index : List TypedExpr) (given : Way) (value : TypedExpr) where
    abbrev stmt : TypedStmt
    stmt = write_stmt number layout place index given value

    record WriteParts (types : List Ty) (visible : List Visible) : Type 0 where
      type : field_in shapes layout place ≡ Some value.ty
      typed : is_well_typed_expr (setting shapes types visible) value ≡ true
      axes : equals_some (axes_in shapes layout) (length index) ≡ true
      parts : list_all (is_part (setting shapes types visible)) index ≡ true

    writes : (old new : Names) (a z : List Inst) → ((types : List Ty) (visible : List Visible) (lines : List Line) → WriteParts types visible → AddsSet shapes (at_start types visible lines) (Ready (setting shapes types visible)) old new a z) → AddsStmt shapes stmt old new a z
    writes old new a z adds = λ types visible around.
        let lines = stmt_lines stmt around in
        subst (λ (fit : Fitting). (fit visible).0 ≡ true → AddsSet shapes (at_start types visible lines) (Ready (setting shapes types (fit visible).1)) old new a z) (sym (folds.fold-Write (kind_fits shapes types) its_typed number layout place index given value)) (λ h.
        let p = and_parts (is_ty (field_in shapes layout place) value.ty && is_well_typed_expr (setting shapes types visible) value) (equals_some (axes_in shapes layout) (length index) && list_all (is_part (setting shapes types visible)) index) h in
        let q = and_parts (is_ty (field_in shapes layout place) value.ty) (is_well_typed_expr (setting shapes types visible) value) p.0 in
        let r = and_parts (equals_some (axes_in shapes layout) (length index)) (list_all (is_part (setting shapes types visible)) index) p.1 in
        adds types visible lines (record { type = ty_is (field_in shapes layout place) value.ty q.0; typed = q.1; axes = r.0; parts = r.1 }))

    axes_of : (types : List Ty) (visible : List Visible) → WriteParts types visible → (at : Frame) → at.shapes ≡ shapes → (regs : List ℕ) → length regs ≡ length index → equals_some (axes_in at.shapes layout) (length regs) ≡ true
    axes_of types visible it at same regs count = ap (λ (ss : List Shape). equals_some (axes_in ss layout) (length regs)) same ∙ (ap (equals_some (axes_in shapes layout)) count ∙ it.axes)

    pub want_typed : (regs : List ℕ) (old mid : Names) (a b z : List Inst) → length regs ≡ length index → AddsIndex shapes index regs old mid a b → z ≡ b ++ v.Want layout regs number ∷ [] → AddsStmt shapes stmt old mid a z
    want_typed regs old mid a b z count has pushed = writes old mid a z (λ types visible lines it.
        inst_behind (at_start types visible lines) (λ at scope. CanRead regs at scope × at_start types visible lines at scope) (Ready (setting shapes types visible)) (v.Want layout regs number) old mid a b z
        (value_first types visible lines (CanRead regs) old mid a b (has (setting shapes types visible) refl it.parts)) pushed
        (no_regs (v.Want layout regs number) (fold-Want sets_step layout regs number)) (no_places (v.Want layout regs number) (fold-Want sets_step layout regs number)) (λ scope. scope)
        (λ at scope. ap (λ (q : Bool × Scope). q.1) (judges-Want at layout regs number scope)) (keeps-same mid)
        (λ at same final scope need. ap (λ (q : Bool × Scope). q.0) (judges-Want at layout regs number scope) ∙ indexed at scope layout regs (axes_of types visible it at same regs count) need.0)
        (λ at scope need. need.1.0))

    field_is : (types : List Ty) (visible : List Visible) → WriteParts types visible → (at : Frame) → at.shapes ≡ shapes → field_type_at at layout place ≡ Some value.ty
    field_is types visible it at same = ap (λ (ss : List Shape). field_in ss layout place) same ∙ it.type

    pub own_typed : (r : ℕ) (old mid : Names) (a b z : List Inst) → AddsExpr shapes value r old mid a b → z ≡ b ++ v.OwnWrite layout place r number ∷ [] → AddsStmt shapes stmt old mid a z
    own_typed r old mid a b z has pushed = writes old mid a z (λ types visible lines it.
        inst_behind (at_start types visible lines) (λ at scope. HoldsWordOf r value.ty at scope × at_start types visible lines at scope) (Ready (setting shapes types visible)) (v.OwnWrite layout place r number) old mid a b z
        (value_first types visible lines (HoldsWordOf r value.ty) old mid a b (has (setting shapes types visible) refl it.typed)) pushed
        (no_regs (v.OwnWrite layout place r number) (fold-OwnWrite sets_step layout place r number)) (no_places (v.OwnWrite layout place r number) (fold-OwnWrite sets_step layout place r number)) (λ scope. scope)
        (λ at scope. ap (λ (q : Bool × Scope). q.1) (judges-OwnWrite at layout place r number scope)) (keeps-same mid)
        (λ at same final scope need. ap (λ (q : Bool × Scope). q.0) (judges-OwnWrite at layout place r number scope) ∙ joined_word at scope r value.ty (field_type_at at layout place) (field_is types visible it at same) need.0)
        (λ at scope need. need.1.0))

    pub acc_typed : (op : AccOp) (r p : ℕ) (regs : List ℕ) (old k m n : Names) (a b c d z : List Inst) → r < length k.regs → length k.regs ≤ length m.regs → length regs ≡ length index → All (λ x. x < length m.regs) regs
        → AddsExpr shapes value r old k a b → AddsIndex shapes index regs k m b c → (equals_some (axes_in shapes layout) (length regs) ≡ true → Adds shapes (CanRead regs) (IsCell p layout) m n c d)
        → z ≡ d ++ v.Acc op layout place p r regs number ∷ [] → AddsStmt shapes stmt old n a z
    acc_typed op r p regs old k m n a b c d z below longer count named has has_index placed pushed = writes old n a z (λ types visible lines it.
        let S = setting shapes types visible in
        let start : Frame → Scope → Type 0 = at_start types visible lines in
        let on : r < length m.regs = omega (arith, below, longer) in
        let one = has S refl it.typed in
        let two = adds-keeping shapes (Ready S) (CanRead regs) (λ at scope. HoldsWordOf r value.ty at scope × Ready S at scope) k m b c (has_index S refl it.parts)
        (λ at f s need keeps. (word-kept k r value.ty at f s below need.0 keeps, ready-kept S k at f s need.1 keeps)) in
        let three = adds-keeping shapes (CanRead regs) (IsCell p layout) (λ at scope. CanRead regs at scope × (HoldsWordOf r value.ty at scope × Ready S at scope)) m n c d (placed (ap (equals_some (axes_in shapes layout)) count ∙ it.axes))
        (λ at f s need keeps. (can_read-kept m at f s regs named keeps need.0, (word-kept m r value.ty at f s on need.1.0 keeps, ready-kept S m at f s need.1.1 keeps))) in
        let first = adds-trans shapes (Ready S) (HoldsWordOf r value.ty) (λ at scope. Ready S at scope × (HoldsWordOf r value.ty at scope × Ready S at scope)) (λ at scope. CanRead regs at scope × (HoldsWordOf r value.ty at scope × Ready S at scope)) old k m a b c one two
        (λ at f s need got keeps. let ready = ready-kept S old at f s need keeps in (ready, (got, ready))) in
        let whole = adds-trans shapes (Ready S) (λ at scope. CanRead regs at scope × (HoldsWordOf r value.ty at scope × Ready S at scope)) (λ at scope. CanRead regs at scope × (CanRead regs at scope × (HoldsWordOf r value.ty at scope × Ready S at scope)))
        (λ at scope. IsCell p layout at scope × (CanRead regs at scope × (HoldsWordOf r value.ty at scope × Ready S at scope))) old m n a c d first three (λ at f s need got keeps. (got.0, got)) in
        inst_behind start (λ at scope. (IsCell p layout at scope × (CanRead regs at scope × (HoldsWordOf r value.ty at scope × Ready S at scope))) × start at scope) (Ready S) (v.Acc op layout place p r regs number) old n a d z
        (value_first types visible lines (λ at scope. IsCell p layout at scope × (CanRead regs at scope × (HoldsWordOf r value.ty at scope × Ready S at scope))) old n a d whole) pushed
        (no_regs (v.Acc op layout place p r regs number) (fold-Acc sets_step op layout place p r regs number)) (no_places (v.Acc op layout place p r regs number) (fold-Acc sets_step op layout place p r regs number)) (λ scope. scope)
        (λ at scope. ap (λ (q : Bool × Scope). q.1) (judges-Acc at op layout place p r regs number scope)) (keeps-same n)
        (λ at same final scope need. ap (λ (q : Bool × Scope). q.0) (judges-Acc at op layout place p r regs number scope)
        ∙ acc_good at scope need.0.0 (joined_word at scope r value.ty (field_type_at at layout place) (field_is types visible it at same) need.0.1.1.0) (indexed at scope layout regs (axes_of types visible it at same regs count) need.0.1.0))
        (λ at scope need. need.1.0))
      where
        acc_good : (at : Frame) (scope : Scope) → IsCell p layout at scope → (scope.regs r && joins (field_type_at at layout place) (slice_get at.regs r)) ≡ true → holds_of (λ (shape : Shape). indexes at scope shape regs) (slice_get at.shapes layout) ≡ true
            → (holds_of (is_cell at layout) (scope.places p) && (scope.regs r && (joins (field_type_at at layout place) (slice_get at.regs r) && holds_of (λ (shape : Shape). indexes at scope shape regs) (slice_get at.shapes layout)))) ≡ true
        acc_good at scope cell value_good index_good =
            let q = and_parts (scope.regs r) (joins (field_type_at at layout place) (slice_get at.regs r)) value_good in
            and_from (holds_of (is_cell at layout) (scope.places p)) (scope.regs r && (joins (field_type_at at layout place) (slice_get at.regs r) && holds_of (λ (shape : Shape). indexes at scope shape regs) (slice_get at.shapes layout))) cell
            (and_from (scope.regs r) (joins (field_type_at at layout place) (slice_get at.regs r) && holds_of (λ (shape : Shape). indexes at scope shape regs) (slice_get at.shapes layout)) q.0
            (and_from (joins (field_type_at at layout place) (slice_get at.regs r)) (holds_of (λ (shape : Shape). indexes at scope shape regs) (slice_get at.shapes layout)) q.1 index_good))
