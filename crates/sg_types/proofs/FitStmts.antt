-- Typed statements are well typed.
use Rattle.std.proofs.Common.{◌≡◌, ℕ, Bool, true, false, not, ◌&&◌, ◌||◌, ◌==◌, if◌then◌else◌, slice_get, List, [], ◌∷◌, ◌++◌, map, length, Option, Some, None, option_map, Result, Ok, refl, sym, ap, subst, ◌∙◌, append_assoc}
use Rattle.std.specs.Option.{option_and_then}
use Rattle.std.specs.List.{list_all, AllByRecursion}
use Rattle.std.proofs.lemmas.Bool.{and_parts, and_from, eq-eqb}
use Rattle.sg_words.specs.declared.operators.Ty.{Ty}
use Rattle.sg_words.specs.declared.operators.Ty.TheVariants as ty
use Rattle.sg_layout.specs.declared.shape.Shape.{Shape}
use Rattle.sg_ast.specs.declared.token.Name.{Name}
use Rattle.sg_ast.specs.declared.expr.Expr.{Expr}
use Rattle.sg_ast.specs.declared.stmt.WayDecl.{WayDecl}
use Rattle.sg_ast.specs.declared.stmt.RangeDecl.{RangeDecl}
use Rattle.sg_ast.specs.declared.stmt.Stmt.{Stmt}
use Rattle.sg_ast.specs.declared.stmt.Stmt.TheVariants as stmt
use Rattle.sg_names.specs.declared.tables.FieldAt.{FieldAt}
use Rattle.sg_names.specs.Tables.{field_named}
use Rattle.sg_types.specs.declared.scope.Local.{Local}
use Rattle.sg_types.specs.declared.typed.TypedExpr.{TypedExpr}
use Rattle.sg_types.specs.declared.typed.TypedRange.{TypedRange}
use Rattle.sg_types.specs.declared.typed.TypedKind.{TypedKind}
use Rattle.sg_types.specs.declared.typed.TypedKind.TheVariants as kind
use Rattle.sg_types.specs.declared.typed.TypedStmt.{TypedStmt}
use Rattle.sg_types.specs.TypeTable.{is_signed, is_truth, same_ty}
use Rattle.sg_types.specs.Scopes.{Known, NamedLocal, local_named}
use Rattle.sg_types.specs.Expressions.{typed_expr, counts, field_axes, equals_some, all_some, is_signed_expr}
use Rattle.sg_types.specs.Statements.{Reached, next_statement, with_variable, let_wrongs, if_wrongs, for_wrongs, may_not_assign, assign_kind, write_kind, declared_way, typed_range, counts_range, in_turn, typed_stmt}
use Rattle.sg_words.specs.Options.{only_where}
use Rattle.sg_types.specs.Counting.{block_count}
use Rattle.sg_types.specs.WellTyped.{Visible, setting, is_well_typed_expr, is_ty, field_in, axes_in, is_visible, is_local, Fitting, all_fit, fitting, is_well_typed_range}
use Rattle.sg_types.specs.Laws.{TablesFit}
use Rattle.sg_types.proofs.Outcomes.{Fits, option_and_then_some, option_map_some, if_some, only_where_some}
use Rattle.sg_types.proofs.Walk.{of_kind, block_end, Turn, Cases, walk_turn}
use Rattle.sg_types.proofs.Moves.{Moved, over_statements}
use Rattle.sg_types.proofs.FitWords.{fitting-Let, fitting-Assign, fitting-Write, fitting-If, fitting-For}
use Rattle.sg_types.proofs.FitExprs.{is_ty-some, Sees, AllSeen, found_sees, expr_fits, exprs_fit, index_fits}

pub not_false : (b : Bool) → not b ≡ false → b ≡ true
not_false true h = refl
not_false false h = let clash : true ≡ false = h in absurd (cc)

or_right : (x y : Bool) → y ≡ true → (x || y) ≡ true
or_right true y h = refl
or_right false y h = h

or_left : (x y : Bool) → x ≡ true → (x || y) ≡ true
or_left true y h = refl
or_left false y h = let clash : false ≡ true = h in absurd (cc)

pub same_number : (n : ℕ) → (n == n) ≡ true
same_number n = eq-eqb n n refl

slice_get-at : {A : Type 0} (xs : List A) (x : A) (more : List A) → slice_get (xs ++ x ∷ more) (length xs) ≡ Some x
slice_get-at [] x more = refl
slice_get-at (y ∷ xs) x more = slice_get-at xs x more

same_ty-equal : (x y : Ty) → same_ty x y ≡ true → x ≡ y
same_ty-equal ty.I32 ty.I32 h = refl
same_ty-equal ty.I32 ty.U32 h = let clash : false ≡ true = h in absurd (cc)
same_ty-equal ty.I32 ty.Bool h = let clash : false ≡ true = h in absurd (cc)
same_ty-equal ty.U32 ty.I32 h = let clash : false ≡ true = h in absurd (cc)
same_ty-equal ty.U32 ty.U32 h = refl
same_ty-equal ty.U32 ty.Bool h = let clash : false ≡ true = h in absurd (cc)
same_ty-equal ty.Bool ty.I32 h = let clash : false ≡ true = h in absurd (cc)
same_ty-equal ty.Bool ty.U32 h = let clash : false ≡ true = h in absurd (cc)
same_ty-equal ty.Bool ty.Bool h = refl

module _ (types : List Ty) (visible : List Visible) where
  sees_more : (seen : Visible) (local : Local) → Sees types visible local → Sees types (seen ∷ visible) local
  sees_more seen local h = record {
    typed = h.typed;
    seen = or_right (seen.var == local.var) (is_visible visible local.var) h.seen;
    free = λ f. or_right ((seen.var == local.var) && not seen.is_loop) (is_local visible local.var) (h.free f);
  }

  all_seen_more : (seen : Visible) (scope : List NamedLocal) → AllSeen types visible scope → AllSeen types (seen ∷ visible) scope
  all_seen_more seen [] h = tt
  all_seen_more seen (named ∷ scope) h = (sees_more seen named.local h.0, all_seen_more seen scope h.1)

  pub all_seen_push : (scope : List NamedLocal) (named : NamedLocal) → AllSeen types visible scope → Sees types visible named.local → AllSeen types visible (scope ++ named ∷ [])
  all_seen_push [] named h s = (s, tt)
  all_seen_push (first ∷ scope) named h s = (h.0, all_seen_push scope named h.1 s)

-- a variable that is declared is seen
declared_sees : (types : List Ty) (visible : List Visible) (var : ℕ) (given : Ty) (is_loop : Bool) → slice_get types var ≡ Some given
    → Sees types (record { var = var; is_loop = is_loop } ∷ visible) (record { var = var; ty = given; is_loop = is_loop })
declared_sees types visible var given is_loop h = record {
  typed = h;
  seen = or_left (var == var) (is_visible visible var) (same_number var);
  free = λ f. or_left ((var == var) && not is_loop) (is_local visible var) (and_from (var == var) (not is_loop) (same_number var) (ap not f));
}

module _ (known : Known) (shapes : List Shape) (fit : TablesFit known.tables shapes) (types : List Ty) where
  -- after a declaration all names are seen
  declares_seen : (visible : List Visible) (at : Reached) (name : Name) (given : Ty) (is_loop : Bool) (more : List Ty) → types ≡ (at.types ++ given ∷ []) ++ more → AllSeen types visible at.scope
      → (slice_get types (length at.types) ≡ Some given) × AllSeen types (record { var = length at.types; is_loop = is_loop } ∷ visible) (with_variable name given is_loop at).scope
  declares_seen visible at name given is_loop more is all =
      let there : slice_get types (length at.types) ≡ Some given =
      ap (λ (xs : List Ty). slice_get xs (length at.types)) (is ∙ append_assoc at.types (given ∷ []) more) ∙ slice_get-at at.types given more in
      let seen : Visible = record { var = length at.types; is_loop = is_loop } in (
        there,
        all_seen_push types (seen ∷ visible) at.scope (record { name = name; local = record { var = length at.types; ty = given; is_loop = is_loop } })
            (all_seen_more types visible seen at.scope all) (declared_sees types visible (length at.types) given is_loop there),
      )

  -- what typing a statement gives is well typed, and all names after it are seen
  abbrev Passes : Fitting → List Visible → Reached → Type 0
  Passes step visible after = ((step visible).0 ≡ true) × AllSeen types (step visible).1 after.scope

  abbrev WellDone : Stmt → Reached → TypedStmt → Reached → Type 0
  WellDone statement at typed after = (visible : List Visible) (more : List Ty)
      → types ≡ after.types ++ more → AllSeen types visible at.scope → Passes (fitting shapes types typed) visible after

  abbrev AllWellDone : List Stmt → Reached → List TypedStmt → Reached → Type 0
  AllWellDone block at typed after = (visible : List Visible) (more : List Ty)
      → types ≡ after.types ++ more → AllSeen types visible at.scope → Passes (all_fit (map (fitting shapes types) typed)) visible after

  passes_by : (step : Fitting) (visible behind : List Visible) (b : Bool) (after : Reached) → step visible ≡ (b, behind) → b ≡ true → AllSeen types behind after.scope → Passes step visible after
  passes_by step visible behind b after e p all =
      (ap (λ (r : Bool × List Visible). r.0) e ∙ p, subst (λ (vs : List Visible). AllSeen types vs after.scope) (sym (ap (λ (r : Bool × List Visible). r.1) e)) all)

  -- an expression of which nothing is wrong
  well : (scope : List NamedLocal) (visible : List Visible) (expr : Expr) (typed : TypedExpr) → AllSeen types visible scope → typed_expr known scope expr ≡ Some typed → not (counts known.tables expr) ≡ false
      → is_well_typed_expr (setting shapes types visible) typed ≡ true
  well scope visible expr typed all h g = expr_fits known shapes fit types scope visible all expr typed h (not_false (counts known.tables expr) g)

  let_fits : (name : Name) (value : Expr) (at : Reached) (it : TypedExpr) → Fits (let_wrongs known at.scope name value) (typed_expr known at.scope value) it
      → WellDone (stmt.Let name value) at (of_kind at (kind.Let (length at.types) it)) (with_variable name it.ty false (next_statement at))
  let_fits name value at it part visible more is all =
      let seen = declares_seen visible (next_statement at) name it.ty false more is all in
      passes_by (fitting shapes types (of_kind at (kind.Let (length at.types) it))) visible (record { var = length at.types; is_loop = false } ∷ visible)
      (is_well_typed_expr (setting shapes types visible) it && is_ty (slice_get types (length at.types)) it.ty) (with_variable name it.ty false (next_statement at))
      (fitting-Let shapes types at.number (length at.types) it visible)
      (and_from (is_well_typed_expr (setting shapes types visible) it) (is_ty (slice_get types (length at.types)) it.ty)
      (well at.scope visible value it all part.is part.counted) (is_ty-some (slice_get types (length at.types)) it.ty seen.0)) seen.1

  assigned_fits : (at : Reached) (name : Name) (value : Expr) (visible : List Visible) → AllSeen types visible at.scope → not (counts known.tables value) ≡ false → (found : Option Local) → local_named at.scope name ≡ found → may_not_assign found ≡ false
      → (k : TypedKind) → assign_kind found (typed_expr known at.scope value) ≡ Some k → Passes (fitting shapes types (record { number = at.number; kind = k })) visible (next_statement at)
  assigned_fits at name value visible all counted None found free k h = let clash : true ≡ false = free in absurd (cc)
  assigned_fits at name value visible all counted (Some local) found free k h =
      let made = option_map_some (λ (t : TypedExpr). kind.Assign local.var t) (only_where (λ t. same_ty t.ty local.ty) (typed_expr known at.scope value)) k h in
      let it = made.0 in
      let passed = only_where_some (λ t. same_ty t.ty local.ty) (typed_expr known at.scope value) it made.1 in
      let sees = found_sees types visible name local at.scope all found in
      subst (λ (k : TypedKind). Passes (fitting shapes types (record { number = at.number; kind = k })) visible (next_statement at)) made.2
      (passes_by (fitting shapes types (record { number = at.number; kind = kind.Assign local.var it })) visible visible
      (is_local visible local.var && (is_well_typed_expr (setting shapes types visible) it && is_ty (slice_get types local.var) it.ty)) (next_statement at)
      (fitting-Assign shapes types at.number local.var it visible)
      (and_from (is_local visible local.var) (is_well_typed_expr (setting shapes types visible) it && is_ty (slice_get types local.var) it.ty) (sees.free free)
      (and_from (is_well_typed_expr (setting shapes types visible) it) (is_ty (slice_get types local.var) it.ty)
      (well at.scope visible value it all passed.0 counted)
      (is_ty-some (slice_get types local.var) it.ty (sees.typed ∙ ap Some (sym (same_ty-equal it.ty local.ty passed.1)))))) all)

  written_fits : (at : Reached) (field : Name) (index : List Expr) (how : WayDecl) (value : Expr) (visible : List Visible) → AllSeen types visible at.scope
      → (equals_some (field_axes known.tables field) (length index) && (list_all (counts known.tables) index && counts known.tables value)) ≡ true
      → (place : Option FieldAt) → field_named known.tables field ≡ place
      → (k : TypedKind) → write_kind how place (all_some (map (typed_expr known at.scope) index)) (typed_expr known at.scope value) ≡ Some k → Passes (fitting shapes types (record { number = at.number; kind = k })) visible (next_statement at)
  written_fits at field index how value visible all counted None found k h = let no_such : ◌≡◌ {A = Option TypedKind} None (Some k) = h in absurd (cc)
  written_fits at field index how value visible all counted (Some place) found k h =
      let outer = option_and_then_some (λ (is : List TypedExpr). option_map (λ (t : TypedExpr). kind.Write place.layout place.place is (declared_way how) t) (only_where (λ t. same_ty t.ty place.ty) (typed_expr known at.scope value)))
      (option_and_then (λ (is : List TypedExpr). if list_all is_signed_expr is then Some is else None) (all_some (map (typed_expr known at.scope) index))) k h in
      let is = outer.0 in
      let inner = option_and_then_some (λ (is : List TypedExpr). if list_all is_signed_expr is then Some is else None) (all_some (map (typed_expr known at.scope) index)) is outer.1 in
      let signed = if_some (list_all is_signed_expr inner.0) inner.0 is inner.2 in
      let made = option_map_some (λ (t : TypedExpr). kind.Write place.layout place.place is (declared_way how) t) (only_where (λ t. same_ty t.ty place.ty) (typed_expr known at.scope value)) k outer.2 in
      let it = made.0 in
      let passed = only_where_some (λ t. same_ty t.ty place.ty) (typed_expr known at.scope value) it made.1 in
      let own = and_parts (equals_some (field_axes known.tables field) (length index)) (list_all (counts known.tables) index && counts known.tables value) counted in
      let parts = and_parts (list_all (counts known.tables) index) (counts known.tables value) own.1 in
      let index_is : all_some (map (typed_expr known at.scope) index) ≡ Some is = inner.1 ∙ ap Some signed.1 in
      let is_signed_all : list_all is_signed_expr is ≡ true = ap (list_all is_signed_expr) (sym signed.1) ∙ signed.0 in
      let wells = exprs_fit known shapes fit types at.scope visible all index is index_is parts.0 in
      subst (λ (k : TypedKind). Passes (fitting shapes types (record { number = at.number; kind = k })) visible (next_statement at)) made.2
      (passes_by (fitting shapes types (record { number = at.number; kind = kind.Write place.layout place.place is (declared_way how) it })) visible visible
      ((is_ty (field_in shapes place.layout place.place) it.ty && is_well_typed_expr (setting shapes types visible) it)
      && (equals_some (axes_in shapes place.layout) (length is) && list_all (λ part. is_signed part.ty && is_well_typed_expr (setting shapes types visible) part) is)) (next_statement at)
      (fitting-Write shapes types at.number place.layout place.place is (declared_way how) it visible)
      (and_from (is_ty (field_in shapes place.layout place.place) it.ty && is_well_typed_expr (setting shapes types visible) it)
      (equals_some (axes_in shapes place.layout) (length is) && list_all (λ part. is_signed part.ty && is_well_typed_expr (setting shapes types visible) part) is)
      (and_from (is_ty (field_in shapes place.layout place.place) it.ty) (is_well_typed_expr (setting shapes types visible) it)
      (is_ty-some (field_in shapes place.layout place.place) it.ty (fit.fields field place found ∙ ap Some (sym (same_ty-equal it.ty place.ty passed.1))))
      (expr_fits known shapes fit types at.scope visible all value it passed.0 parts.1))
      (index_fits known shapes fit types at.scope visible all field place index is found own.0 is_signed_all wells.0 wells.1)) all)

  -- where typing comes later has the types of before in front
  front_types : (at after : Reached) (n : ℕ) (more : List Ty) → Moved at n after → types ≡ after.types ++ more → (rest : List Ty) × (types ≡ at.types ++ rest)
  front_types at after n more moved is = (moved.new_types ++ more, is ∙ (ap (λ (xs : List Ty). xs ++ more) moved.types ∙ append_assoc at.types moved.new_types more))

  pub range_fits : (scope : List NamedLocal) (visible : List Visible) (range : RangeDecl) (bounds : TypedRange) → AllSeen types visible scope → typed_range known scope range ≡ Some bounds → counts_range known range ≡ true
      → is_well_typed_range (setting shapes types visible) bounds ≡ true
  range_fits scope visible range bounds all h counted =
      let outer = option_and_then_some (λ (low : TypedExpr). option_map (λ (high : TypedExpr). record { lo = low; hi = high }) (only_where is_signed_expr (typed_expr known scope range.hi))) (only_where is_signed_expr (typed_expr known scope range.lo)) bounds h in
      let low = outer.0 in
      let inner = option_map_some (λ (high : TypedExpr). record { lo = low; hi = high }) (only_where is_signed_expr (typed_expr known scope range.hi)) bounds outer.2 in
      let high = inner.0 in
      let low_is = only_where_some is_signed_expr (typed_expr known scope range.lo) low outer.1 in
      let high_is = only_where_some is_signed_expr (typed_expr known scope range.hi) high inner.1 in
      let parts = and_parts (counts known.tables range.lo) (counts known.tables range.hi) counted in
      ap (is_well_typed_range (setting shapes types visible)) (sym inner.2)
      ∙ and_from (is_signed low.ty && is_well_typed_expr (setting shapes types visible) low) (is_signed high.ty && is_well_typed_expr (setting shapes types visible) high)
      (and_from (is_signed low.ty) (is_well_typed_expr (setting shapes types visible) low) low_is.1 (expr_fits known shapes fit types scope visible all range.lo low low_is.0 parts.0))
      (and_from (is_signed high.ty) (is_well_typed_expr (setting shapes types visible) high) high_is.1 (expr_fits known shapes fit types scope visible all range.hi high high_is.0 parts.1))

  -- a block after a condition is well typed, and after it the names of before are seen
  block_fits : (at mid : Reached) (block : List Stmt) (ys : List TypedStmt) (visible : List Visible) (more : List Ty) → AllWellDone block (next_statement at) ys mid
      → types ≡ mid.types ++ more → AllSeen types visible at.scope → (all_fit (map (fitting shapes types) ys) visible).0 ≡ true
  block_fits at mid block ys visible more inside is all = (inside visible more is all).0

  -- a condition before blocks that are well typed
  branch_fits : (condition : Expr) (at last : Reached) (it : TypedExpr) (ys ns : List TypedStmt) (has : Bool) (visible : List Visible)
      → Fits (if_wrongs known at.scope condition) (only_where (λ typed. is_truth typed.ty) (typed_expr known at.scope condition)) it → AllSeen types visible at.scope
      → (all_fit (map (fitting shapes types) ys) visible).0 ≡ true → (all_fit (map (fitting shapes types) ns) visible).0 ≡ true
      → Passes (fitting shapes types (of_kind at (kind.If it ys ns has))) visible (block_end at last)
  branch_fits condition at last it ys ns has visible says all b o =
      let truth = only_where_some (λ t. is_truth t.ty) (typed_expr known at.scope condition) it says.is in
      passes_by (fitting shapes types (of_kind at (kind.If it ys ns has))) visible visible
      ((is_truth it.ty && is_well_typed_expr (setting shapes types visible) it)
      && ((all_fit (map (fitting shapes types) ys) visible).0 && (all_fit (map (fitting shapes types) ns) visible).0)) (block_end at last)
      (fitting-If shapes types at.number it ys ns has visible)
      (and_from (is_truth it.ty && is_well_typed_expr (setting shapes types visible) it)
      ((all_fit (map (fitting shapes types) ys) visible).0 && (all_fit (map (fitting shapes types) ns) visible).0)
      (and_from (is_truth it.ty) (is_well_typed_expr (setting shapes types visible) it) truth.1 (well at.scope visible condition it all truth.0 says.counted))
      (and_from (all_fit (map (fitting shapes types) ys) visible).0 (all_fit (map (fitting shapes types) ns) visible).0 b o)) all

  for_fits : (name : Name) (range : RangeDecl) (body : List Stmt) (at : Reached) (bounds : TypedRange) (typed : List TypedStmt) (last : Reached)
      → Fits (for_wrongs known at.scope name range) (typed_range known at.scope range) bounds
      → Turn known WellDone AllWellDone body (with_variable name ty.I32 true (next_statement at)) typed last
      → WellDone (stmt.For name range body) at (of_kind at (kind.For (length at.types) bounds typed)) (block_end at last)
  for_fits name range body at bounds typed last says inside visible more is all =
      let start = with_variable name ty.I32 true (next_statement at) in
      let before = front_types start last (block_count body) more (over_statements known body start typed last inside.is) is in
      let seen = declares_seen visible (next_statement at) name ty.I32 true before.0 before.1 all in
      let loop_visible : List Visible = record { var = length at.types; is_loop = true } ∷ visible in
      let b = inside.holds loop_visible more is seen.1 in
      passes_by (fitting shapes types (of_kind at (kind.For (length at.types) bounds typed))) visible visible
      (is_well_typed_range (setting shapes types visible) bounds
      && (is_ty (slice_get types (length at.types)) ty.I32 && (all_fit (map (fitting shapes types) typed) loop_visible).0)) (block_end at last)
      (fitting-For shapes types at.number (length at.types) bounds typed visible)
      (and_from (is_well_typed_range (setting shapes types visible) bounds)
      (is_ty (slice_get types (length at.types)) ty.I32 && (all_fit (map (fitting shapes types) typed) loop_visible).0)
      (range_fits at.scope visible range bounds all says.is (not_false (counts_range known range) says.counted))
      (and_from (is_ty (slice_get types (length at.types)) ty.I32) (all_fit (map (fitting shapes types) typed) loop_visible).0
      (is_ty-some (slice_get types (length at.types)) ty.I32 seen.0) b.0)) all

  fitness : Cases known WellDone AllWellDone
  fitness = record {
    on_none = λ at visible more is all. (refl, all);
    on_more = λ statement block at t mid ts last one_is one rest visible more is all.
        let before = front_types mid last (block_count block) more (over_statements known block mid ts last rest.is) is in
        let head = one visible before.0 before.1 all in
        let tail = rest.holds (fitting shapes types t visible).1 more is head.1 in
        (and_from (fitting shapes types t visible).0 (all_fit (map (fitting shapes types) ts) (fitting shapes types t visible).1).0 head.0 tail.0, tail.1);
    on_let = let_fits;
    on_assign = λ name value at it part visible more is all.
        assigned_fits at name value visible all part.counted (local_named at.scope name) refl part.free it part.is;
    on_write = λ field index how value at it part visible more is all.
        written_fits at field index how value visible all
        (not_false (equals_some (field_axes known.tables field) (length index) && (list_all (counts known.tables) index && counts known.tables value)) part.counted)
        (field_named known.tables field) refl it part.is;
    on_if = λ condition block at it ys mid says inside visible more is all.
        branch_fits condition at mid it ys [] false visible says all (block_fits at mid block ys visible more inside.holds is all) refl;
    on_if_else = λ condition block otherwise at it ys mid ns last says inside outside visible more is all.
        let before = front_types (block_end at mid) last (block_count otherwise) more (over_statements known otherwise (block_end at mid) ns last outside.is) is in
        branch_fits condition at last it ys ns true visible says all (block_fits at mid block ys visible before.0 inside.holds before.1 all) (outside.holds visible more is all).0;
    on_for = for_fits;
  }

  -- the statements of a block are well typed
  pub statements_fit : (block : List Stmt) (at : Reached) (typed : List TypedStmt) (after : Reached) (visible : List Visible) (more : List Ty)
      → in_turn (map (typed_stmt known) block) at ≡ Ok (typed, after) → types ≡ after.types ++ more → AllSeen types visible at.scope
      → (all_fit (map (fitting shapes types) typed) visible).0 ≡ true
  statements_fit block at typed after visible more h is all = (walk_turn known WellDone AllWellDone fitness block at typed after h visible more is all).0
