-- With its names put back a typed kernel is the declared one.
use Rattle.std.proofs.Common.{◌≡◌, ℕ, ◌+◌, Bool, true, false, if◌then◌else◌, slice_get, unwrap_or, is_some, List, [], ◌∷◌, ◌++◌, map, length, Option, Some, None, option_map, refl, sym, ap, ◌∙◌, append_assoc, append-nil, length-append, arith}
use Rattle.std.specs.Option.{option_and_then}
use Rattle.std.specs.List.{list_all, AllByRecursion}
use Rattle.std.proofs.Math.Seq.{take-append_seam}
use Rattle.std.proofs.lemmas.Bool.{or_parts}
use Rattle.sg_words.specs.declared.operators.Ty.{Ty}
use Rattle.sg_words.specs.declared.operators.Ty.TheVariants as ty
use Rattle.sg_words.specs.declared.operators.BinOp.{BinOp}
use Rattle.sg_words.specs.declared.operators.BinOp.TheVariants as b
use Rattle.sg_words.specs.declared.operators.UnOp.{UnOp}
use Rattle.sg_words.specs.Words.{flag}
use Rattle.sg_ast.specs.declared.token.Name.{Name}
use Rattle.sg_ast.specs.declared.expr.Callee.{Callee}
use Rattle.sg_ast.specs.declared.expr.Callee.TheVariants as c
use Rattle.sg_ast.specs.declared.expr.Expr.{Expr}
use Rattle.sg_ast.specs.declared.expr.Expr.TheVariants as e
use Rattle.sg_ast.specs.declared.stmt.WayDecl.{WayDecl}
use Rattle.sg_ast.specs.declared.stmt.WayDecl.TheVariants as way
use Rattle.sg_ast.specs.declared.stmt.RangeDecl.{RangeDecl}
use Rattle.sg_ast.specs.declared.stmt.Stmt.{Stmt}
use Rattle.sg_ast.specs.declared.stmt.Stmt.TheVariants as stmt
use Rattle.sg_ast.specs.declared.kernel.DomainDecl.{DomainDecl}
use Rattle.sg_ast.specs.declared.kernel.DomainDecl.TheVariants as domain
use Rattle.sg_names.specs.declared.tables.Constant.{Constant}
use Rattle.sg_names.specs.declared.tables.FieldAt.{FieldAt}
use Rattle.sg_ast.specs.Token.{same_name}
use Rattle.sg_names.specs.Tables.{field_named, layout_named}
use Rattle.sg_names.specs.Names.{has_repeat}
use Rattle.sg_types.specs.declared.scope.Local.{Local}
use Rattle.sg_types.specs.declared.typed.TypedExpr.{TypedExpr}
use Rattle.sg_types.specs.declared.typed.Form.TheVariants as form
use Rattle.sg_types.specs.declared.typed.TypedRange.{TypedRange}
use Rattle.sg_types.specs.declared.typed.TypedKind.{TypedKind}
use Rattle.sg_types.specs.declared.typed.TypedKind.TheVariants as kind
use Rattle.sg_types.specs.declared.typed.TypedStmt.{TypedStmt}
use Rattle.sg_types.specs.declared.typed.TypedDomain.{TypedDomain}
use Rattle.sg_types.specs.declared.typed.TypedDomain.TheVariants as typed
use Rattle.sg_types.specs.declared.typed.TypedKernel.{TypedKernel}
use Rattle.sg_types.specs.TypeTable.{is_numeric, is_truth, same_ty, bin_ty, un_ty}
use Rattle.sg_types.specs.Scopes.{Known, NamedLocal, local_named, earlier_constant, is_taken, local_or_constant}
use Rattle.sg_types.specs.Expressions.{typed_expr, number_ty, all_some, un_expr, bin_expr, mulq_expr, convert_expr, call_expr, access_expr, active_expr, on_one, on_two, on_three, is_signed_expr}
use Rattle.sg_types.specs.Statements.{Reached, next_statement, with_variable, let_wrongs, if_wrongs, for_wrongs, assign_kind, write_kind, declared_way, typed_range}
use Rattle.sg_words.specs.Options.{only_where}
use Rattle.sg_types.specs.Programs.{any_earlier, typed_domain, first_reached}
use Rattle.sg_types.specs.NamesBack.{no_name, field_mark, marked_constant, marked_field, marked_layout, call_or_operator, marked_expr, marked_range, marked_stmt, marked_domain, stmt_names, block_names, else_names, variable_names, literal_expr, named_expr, named_range, way_back, named_stmt, named_domain, named_kernel, layout_mark, layout_of}
use Rattle.sg_types.specs.Laws.{NamesComeBack}
use Rattle.sg_types.proofs.Outcomes.{Fits, some_same, option_and_then_some, option_map_some, if_some, only_where_some}
use Rattle.sg_types.proofs.ExprWords.{typed-Number, typed-Truth, typed-Name, typed-Read, typed-Paren, typed-Un, typed-Bin, typed-Call, typed-Active}
use Rattle.sg_ast.proofs.Uses.{same_name-is, by_exprs}
use Rattle.sg_types.proofs.Walk.{of_kind, block_end, Turn, Cases, walk_turn, kernel_parts}
use Rattle.sg_types.proofs.Beginnings.{one, begun, length_begun}
use Rattle.sg_types.proofs.NameWords.{marked-Number, marked-Truth, marked-Name, marked-Read, marked-Paren, marked-Un, marked-Bin, marked-Call, marked-Active, marked_stmt-Let, marked_stmt-Assign, marked_stmt-Write, marked_stmt-If, marked_stmt-For, names-Let, names-Assign, names-Write, names-If, names-For, named-Literal, named-Constant, named-Var, named-Read, named-Paren, named-Un, named-Bin, named-Mulq, named-Convert, named-Active, named_stmt-Let, named_stmt-Assign, named_stmt-Write, named_stmt-If, named_stmt-For}

none_of : {A : Type 0} (o : Option A) → is_some o ≡ false → o ≡ None
none_of None h = refl
none_of (Some x) h = let clash : true ≡ false = h in absurd (cc)

slice_get-behind : (before : List Name) (name : Name) (more : List Name) → slice_get (before ++ name ∷ more) (length before) ≡ Some name
slice_get-behind [] name more = refl
slice_get-behind (other ∷ before) name more = slice_get-behind before name more

number_kept : (unsigned : Bool) (value : ℕ) → literal_expr (number_ty unsigned) value ≡ e.Number value unsigned
number_kept true value = refl
number_kept false value = refl

truth_kept : (truth : Bool) → literal_expr ty.Bool (flag truth) ≡ e.Truth truth
truth_kept true = refl
truth_kept false = refl

way_kept : (how : WayDecl) → way_back (declared_way how) ≡ how
way_kept way.Own = refl
way_kept (way.Acc op) = refl

module _ (known : Known) (names : List Name) where
  -- a name in scope is that of its variable, and no earlier constant's
  record Called (it : NamedLocal) : Type 0 where
    there : slice_get names it.local.var ≡ Some it.name
    apart : earlier_constant known it.name ≡ None

  abbrev AllCalled : List NamedLocal → Type 0
  AllCalled scope = AllByRecursion Called scope

  called_push : (scope : List NamedLocal) (it : NamedLocal) → AllCalled scope → Called it → AllCalled (scope ++ it ∷ [])
  called_push [] it all h = (h, tt)
  called_push (other ∷ scope) it all h = (all.0, called_push scope it all.1 h)

  found_at : (name : Name) (local : Local) (other : NamedLocal) (scope : List NamedLocal) (b : Bool) → same_name name other.name ≡ b → Called other
      → (local_named scope name ≡ Some local → (slice_get names local.var ≡ Some name) × (earlier_constant known name ≡ None))
      → local_named (other ∷ scope) name ≡ Some local → (slice_get names local.var ≡ Some name) × (earlier_constant known name ≡ None)
  found_at name local other scope true q h rest g =
      let found : Some other.local ≡ Some local = rw q at g in
      let same = some_same other.local local found in
      let name_is = same_name-is name other.name q in
      (ap (λ (it : Local). slice_get names it.var) (sym same) ∙ (h.there ∙ ap Some (sym name_is)), ap (earlier_constant known) name_is ∙ h.apart)
  found_at name local other scope false q h rest g = rest (rw q at g)

  found_called : (scope : List NamedLocal) → AllCalled scope → (name : Name) (local : Local) → local_named scope name ≡ Some local → (slice_get names local.var ≡ Some name) × (earlier_constant known name ≡ None)
  found_called [] all name local h = let no_such : ◌≡◌ {A = Option Local} None (Some local) = h in absurd (cc)
  found_called (other ∷ scope) all name local h = found_at name local other scope (same_name name other.name) refl all.0 (found_called scope all.1 name local) h

  module _ (scope : List NamedLocal) (all_called : AllCalled scope) where
    abbrev Kept : Expr → Type 0
    Kept expr = (typed : TypedExpr) → typed_expr known scope expr ≡ Some typed → named_expr names typed ≡ marked_expr known expr

    same : (x typed : TypedExpr) (expr : Expr) → Some x ≡ Some typed → named_expr names x ≡ marked_expr known expr → named_expr names typed ≡ marked_expr known expr
    same x typed expr h g = ap (named_expr names) (sym (some_same x typed h)) ∙ g

    name_kept : (name : Name) → Kept (e.Name name)
    name_kept name typed h = go (local_named scope name) refl (earlier_constant known name) refl (sym (typed-Name known scope name) ∙ h)
      where
        go : (local : Option Local) → local_named scope name ≡ local → (constant : Option Constant) → earlier_constant known name ≡ constant → local_or_constant local constant ≡ Some typed → named_expr names typed ≡ marked_expr known (e.Name name)
        go (Some local) p constant q r =
            let found = found_called scope all_called name local p in
            same (record { ty = local.ty; form = form.Var local.var }) typed (e.Name name) r
            (named-Var names local.ty local.var ∙ (ap (λ (o : Option Name). e.Name (unwrap_or o no_name)) found.0
            ∙ (ap (λ (o : Option Constant). e.Name (marked_constant name o)) (sym found.1) ∙ sym (marked-Name known name))))
        go None p (Some constant) q r =
            same (record { ty = constant.ty; form = form.Constant constant.word }) typed (e.Name name) r
            (named-Constant names constant.ty constant.word ∙ (ap (λ (o : Option Constant). e.Name (marked_constant name o)) (sym q) ∙ sym (marked-Name known name)))
        go None p None q r = let no_such : ◌≡◌ {A = Option TypedExpr} None (Some typed) = r in absurd (cc)

    all_kept : (exprs : List Expr) → AllByRecursion Kept exprs → (typed : List TypedExpr) → all_some (map (typed_expr known scope) exprs) ≡ Some typed → map (named_expr names) typed ≡ map (marked_expr known) exprs
    all_kept [] all typed h = ap (map (named_expr names)) (sym (some_same [] typed h))
    all_kept (expr ∷ exprs) all typed h =
        let one = option_and_then_some (λ a. option_map (λ more. a ∷ more) (all_some (map (typed_expr known scope) exprs))) (typed_expr known scope expr) typed h in
        let rest = option_map_some (λ more. one.0 ∷ more) (all_some (map (typed_expr known scope) exprs)) typed one.2 in
        ap (map (named_expr names)) (sym rest.2)
        ∙ (ap (λ (x : Expr). x ∷ map (named_expr names) rest.0) (all.0 one.0 one.1) ∙ ap (λ (xs : List Expr). marked_expr known expr ∷ xs) (all_kept exprs all.1 rest.0 rest.1))

    read_kept : (field : Name) (index : List Expr) → AllByRecursion Kept index → Kept (e.Read field index)
    read_kept field index all typed h =
        let found = option_and_then_some (λ place. option_and_then (access_expr place) (all_some (map (typed_expr known scope) index))) (field_named known.tables field) typed (sym (typed-Read known scope field index) ∙ h) in
        let place = found.0 in
        let parts = option_and_then_some (access_expr place) (all_some (map (typed_expr known scope) index)) typed found.2 in
        let signed = if_some (list_all is_signed_expr parts.0) (record { ty = place.ty; form = form.Read place.layout place.place parts.0 }) typed parts.2 in
        ap (named_expr names) (sym signed.1)
        ∙ (named-Read names place.ty place.layout place.place parts.0
        ∙ (ap (e.Read (field_mark place.layout place.place)) (all_kept index all parts.0 parts.1)
        ∙ (ap (λ (o : Option FieldAt). e.Read (marked_field field o) (map (marked_expr known) index)) (sym found.1) ∙ sym (marked-Read known field index))))

    active_kept : (field : Name) (index : List Expr) → AllByRecursion Kept index → Kept (e.Active field index)
    active_kept field index all typed h =
        let found = option_and_then_some (λ place. option_and_then (active_expr place) (all_some (map (typed_expr known scope) index))) (field_named known.tables field) typed (sym (typed-Active known scope field index) ∙ h) in
        let place = found.0 in
        let parts = option_and_then_some (active_expr place) (all_some (map (typed_expr known scope) index)) typed found.2 in
        let signed = if_some (list_all is_signed_expr parts.0) (record { ty = ty.Bool; form = form.Active place.layout parts.0 }) typed parts.2 in
        ap (named_expr names) (sym signed.1)
        ∙ (named-Active names ty.Bool place.layout parts.0
        ∙ (ap (e.Active (layout_mark place.layout)) (all_kept index all parts.0 parts.1)
        ∙ (ap (λ (o : Option FieldAt). e.Active (marked_layout field (layout_of o)) (map (marked_expr known) index)) (sym found.1) ∙ sym (marked-Active known field index))))

    paren_kept : (inner : Expr) → Kept inner → Kept (e.Paren inner)
    paren_kept inner kept typed h =
        let found = option_map_some (λ (it : TypedExpr). record { ty = it.ty; form = form.Paren it }) (typed_expr known scope inner) typed (sym (typed-Paren known scope inner) ∙ h) in
        ap (named_expr names) (sym found.2) ∙ (named-Paren names found.0.ty found.0 ∙ (ap e.Paren (kept found.0 found.1) ∙ sym (marked-Paren known inner)))

    un_kept : (op : UnOp) (operand : Expr) → Kept operand → Kept (e.Un op operand)
    un_kept op operand kept typed h =
        let found = option_and_then_some (un_expr op) (typed_expr known scope operand) typed (sym (typed-Un known scope op operand) ∙ h) in
        let made = option_map_some (λ given. record { ty = given; form = form.Un op found.0 }) (un_ty op found.0.ty) typed found.2 in
        ap (named_expr names) (sym made.2) ∙ (named-Un names made.0 op found.0 ∙ (ap (e.Un op) (kept found.0 found.1) ∙ sym (marked-Un known op operand)))

    made_bin : (op : BinOp) (left right typed : TypedExpr) → bin_expr op left right ≡ Some typed → named_expr names typed ≡ e.Bin op (named_expr names left) (named_expr names right)
    made_bin op left right typed h =
        let made = option_map_some (λ given. record { ty = given; form = form.Bin op left right }) (bin_ty op left.ty right.ty) typed h in
        ap (named_expr names) (sym made.2) ∙ named-Bin names made.0 op left right

    bin_kept : (op : BinOp) (left right : Expr) → Kept left → Kept right → Kept (e.Bin op left right)
    bin_kept op left right l r typed h =
        let one = option_and_then_some (λ (x : TypedExpr). option_and_then (bin_expr op x) (typed_expr known scope right)) (typed_expr known scope left) typed (sym (typed-Bin known scope op left right) ∙ h) in
        let two = option_and_then_some (bin_expr op one.0) (typed_expr known scope right) typed one.2 in
        made_bin op one.0 two.0 typed two.2
        ∙ (ap (λ (x : Expr). e.Bin op x (named_expr names two.0)) (l one.0 one.1) ∙ (ap (e.Bin op (marked_expr known left)) (r two.0 two.1) ∙ sym (marked-Bin known op left right)))

    min_kept : (op : BinOp) (parts : List TypedExpr) (typed : TypedExpr) (make : List Expr → Expr) → ((x y : Expr) → make (x ∷ y ∷ []) ≡ e.Bin op x y) → on_two (bin_expr op) parts ≡ Some typed → named_expr names typed ≡ make (map (named_expr names) parts)
    min_kept op [] typed make is h = let no_such : ◌≡◌ {A = Option TypedExpr} None (Some typed) = h in absurd (cc)
    min_kept op (x ∷ []) typed make is h = let no_such : ◌≡◌ {A = Option TypedExpr} None (Some typed) = h in absurd (cc)
    min_kept op (x ∷ y ∷ []) typed make is h = made_bin op x y typed h ∙ sym (is (named_expr names x) (named_expr names y))
    min_kept op (x ∷ y ∷ z ∷ more) typed make is h = let no_such : ◌≡◌ {A = Option TypedExpr} None (Some typed) = h in absurd (cc)

    mulq_kept : (parts : List TypedExpr) (typed : TypedExpr) → on_three mulq_expr parts ≡ Some typed → named_expr names typed ≡ call_or_operator c.Mulq (map (named_expr names) parts)
    mulq_kept [] typed h = let no_such : ◌≡◌ {A = Option TypedExpr} None (Some typed) = h in absurd (cc)
    mulq_kept (x ∷ []) typed h = let no_such : ◌≡◌ {A = Option TypedExpr} None (Some typed) = h in absurd (cc)
    mulq_kept (x ∷ y ∷ []) typed h = let no_such : ◌≡◌ {A = Option TypedExpr} None (Some typed) = h in absurd (cc)
    mulq_kept (x ∷ y ∷ z ∷ []) typed h =
        let made = if_some _ (record { ty = ty.I32; form = form.Mulq x y z }) typed h in
        ap (named_expr names) (sym made.1) ∙ named-Mulq names ty.I32 x y z
    mulq_kept (x ∷ y ∷ z ∷ w ∷ more) typed h = let no_such : ◌≡◌ {A = Option TypedExpr} None (Some typed) = h in absurd (cc)

    convert_kept : (to : Ty) (callee : Callee) (parts : List TypedExpr) (typed : TypedExpr)
        → ((x : TypedExpr) → named_expr names (record { ty = to; form = form.Convert x }) ≡ call_or_operator callee (named_expr names x ∷ [])) → on_one (convert_expr to) parts ≡ Some typed → named_expr names typed ≡ call_or_operator callee (map (named_expr names) parts)
    convert_kept to callee [] typed is h = let no_such : ◌≡◌ {A = Option TypedExpr} None (Some typed) = h in absurd (cc)
    convert_kept to callee (x ∷ []) typed is h =
        let made = if_some (is_numeric x.ty) (record { ty = to; form = form.Convert x }) typed h in
        ap (named_expr names) (sym made.1) ∙ is x
    convert_kept to callee (x ∷ y ∷ more) typed is h = let no_such : ◌≡◌ {A = Option TypedExpr} None (Some typed) = h in absurd (cc)

    made_call : (callee : Callee) (parts : List TypedExpr) (typed : TypedExpr) → call_expr callee parts ≡ Some typed → named_expr names typed ≡ call_or_operator callee (map (named_expr names) parts)
    made_call c.Min parts typed h = min_kept b.Min parts typed (call_or_operator c.Min) (λ x y. refl) h
    made_call c.Max parts typed h = min_kept b.Max parts typed (call_or_operator c.Max) (λ x y. refl) h
    made_call c.Mulq parts typed h = mulq_kept parts typed h
    made_call c.I32 parts typed h = convert_kept ty.I32 c.I32 parts typed (λ x. named-Convert names ty.I32 x) h
    made_call c.U32 parts typed h = convert_kept ty.U32 c.U32 parts typed (λ x. named-Convert names ty.U32 x) h

    call_kept : (callee : Callee) (arguments : List Expr) → AllByRecursion Kept arguments → Kept (e.Call callee arguments)
    call_kept callee arguments all typed h =
        let parts = option_and_then_some (call_expr callee) (all_some (map (typed_expr known scope) arguments)) typed (sym (typed-Call known scope callee arguments) ∙ h) in
        made_call callee parts.0 typed parts.2 ∙ (ap (call_or_operator callee) (all_kept arguments all parts.0 parts.1) ∙ sym (marked-Call known callee arguments))

    expr_kept : (expr : Expr) → Kept expr
    expr_kept = by_exprs Kept
        (λ value unsigned typed h. same (record { ty = number_ty unsigned; form = form.Literal value }) typed (e.Number value unsigned) (sym (typed-Number known scope value unsigned) ∙ h)
        (named-Literal names (number_ty unsigned) value ∙ (number_kept unsigned value ∙ sym (marked-Number known value unsigned))))
        (λ truth typed h. same (record { ty = ty.Bool; form = form.Literal (flag truth) }) typed (e.Truth truth) (sym (typed-Truth known scope truth) ∙ h)
        (named-Literal names ty.Bool (flag truth) ∙ (truth_kept truth ∙ sym (marked-Truth known truth))))
        name_kept read_kept paren_kept un_kept bin_kept call_kept active_kept

    exprs_all : (exprs : List Expr) → AllByRecursion Kept exprs
    exprs_all [] = tt
    exprs_all (expr ∷ exprs) = (expr_kept expr, exprs_all exprs)

    range_kept : (range : RangeDecl) (bounds : TypedRange) → typed_range known scope range ≡ Some bounds → named_range names bounds ≡ marked_range known range
    range_kept range bounds h =
        let outer = option_and_then_some (λ (low : TypedExpr). option_map (λ (high : TypedExpr). record { lo = low; hi = high }) (only_where is_signed_expr (typed_expr known scope range.hi))) (only_where is_signed_expr (typed_expr known scope range.lo)) bounds h in
        let low = outer.0 in
        let inner = option_map_some (λ (high : TypedExpr). record { lo = low; hi = high }) (only_where is_signed_expr (typed_expr known scope range.hi)) bounds outer.2 in
        let low_is = only_where_some is_signed_expr (typed_expr known scope range.lo) low outer.1 in
        let high_is = only_where_some is_signed_expr (typed_expr known scope range.hi) inner.0 inner.1 in
        ap (named_range names) (sym inner.2)
        ∙ (ap (λ (x : Expr). record { lo = x; hi = named_expr names inner.0 }) (expr_kept range.lo low low_is.0)
        ∙ ap (λ (x : Expr). record { lo = marked_expr known range.lo; hi = x }) (expr_kept range.hi inner.0 high_is.0))

  -- ---- statements

  -- what typing gives leads back, as many variables are declared as there are names, and all names are called so
  record Back {A : Type 0} (typed given : A) (before now : List Name) (after : Reached) : Type 0 where
    same : typed ≡ given
    count : length after.types ≡ length (before ++ now)
    called : AllCalled after.scope

  abbrev LeadsBack : Stmt → Reached → TypedStmt → Reached → Type 0
  LeadsBack statement at typed after = (before more : List Name)
      → names ≡ before ++ (stmt_names statement ++ more) → length at.types ≡ length before → AllCalled at.scope
      → Back (named_stmt names typed) (marked_stmt known statement) before (stmt_names statement) after

  abbrev AllLeadBack : List Stmt → Reached → List TypedStmt → Reached → Type 0
  AllLeadBack block at typed after = (before more : List Name)
      → names ≡ before ++ (block_names block ++ more) → length at.types ≡ length before → AllCalled at.scope
      → Back (map (named_stmt names) typed) (map (marked_stmt known) block) before (block_names block) after

  -- the next name is that of the next variable
  next_name : (before more : List Name) (name : Name) (at : Reached) → names ≡ before ++ name ∷ more → length at.types ≡ length before → slice_get names (length at.types) ≡ Some name
  next_name before more name at is n = ap (λ (xs : List Name). slice_get xs (length at.types)) is ∙ (ap (slice_get (before ++ name ∷ more)) n ∙ slice_get-behind before name more)

  -- a name that is declared is called so
  declares_called : (before more : List Name) (name : Name) (given : Ty) (is_loop : Bool) (at : Reached) → names ≡ before ++ name ∷ more → length at.types ≡ length before → is_taken known at.scope name ≡ false → AllCalled at.scope
      → AllCalled (with_variable name given is_loop at).scope
  declares_called before more name given is_loop at is n free all =
      called_push at.scope (record { name = name; local = record { var = length at.types; ty = given; is_loop = is_loop } }) all
      (record {
        there = next_name before more name at is n;
        apart = none_of (earlier_constant known name) (or_parts (is_some (local_named at.scope name)) (is_some (earlier_constant known name)) free).1;
      })

  let_back : (name : Name) (value : Expr) (at : Reached) (it : TypedExpr) → Fits (let_wrongs known at.scope name value) (typed_expr known at.scope value) it
      → LeadsBack (stmt.Let name value) at (of_kind at (kind.Let (length at.types) it)) (with_variable name it.ty false (next_statement at))
  let_back name value at it part before more is n all =
      let is_there : names ≡ before ++ name ∷ more = is ∙ ap (λ (ns : List Name). before ++ (ns ++ more)) (names-Let name value) in
      record {
        same = named_stmt-Let names at.number (length at.types) it
            ∙ (ap (λ (o : Option Name). stmt.Let (unwrap_or o no_name) (named_expr names it)) (next_name before more name at is_there n)
            ∙ (ap (stmt.Let name) (expr_kept at.scope all value it part.is) ∙ sym (marked_stmt-Let known name value)));
        count = length-append at.types (it.ty ∷ []) ∙ (ap (λ (m : ℕ). m + 1) n ∙ (sym (length-append before (name ∷ [])) ∙ ap (λ (ns : List Name). length (before ++ ns)) (sym (names-Let name value))));
        called = declares_called before more name it.ty false (next_statement at) is_there n part.once all;
      }

  -- a statement that declares nothing
  plain_back : (statement : Stmt) (at : Reached) (typed : TypedStmt) → named_stmt names typed ≡ marked_stmt known statement → stmt_names statement ≡ []
      → LeadsBack statement at typed (next_statement at)
  plain_back statement at typed same none before more is n all = record {
    same = same;
    count = n ∙ (ap (λ (ns : List Name). length ns) (sym (append-nil before)) ∙ ap (λ (ns : List Name). length (before ++ ns)) (sym none));
    called = all;
  }

  assigned_back : (at : Reached) (name : Name) (value : Expr) → AllCalled at.scope → (found : Option Local) → local_named at.scope name ≡ found → (k : TypedKind) → assign_kind found (typed_expr known at.scope value) ≡ Some k
      → named_stmt names (record { number = at.number; kind = k }) ≡ marked_stmt known (stmt.Assign name value)
  assigned_back at name value all None found k h = let no_such : ◌≡◌ {A = Option TypedKind} None (Some k) = h in absurd (cc)
  assigned_back at name value all (Some local) found k h =
      let made = option_map_some (λ (t : TypedExpr). kind.Assign local.var t) (only_where (λ t. same_ty t.ty local.ty) (typed_expr known at.scope value)) k h in
      let passed = only_where_some (λ t. same_ty t.ty local.ty) (typed_expr known at.scope value) made.0 made.1 in
      let it = found_called at.scope all name local found in
      ap (λ (k : TypedKind). named_stmt names (record { number = at.number; kind = k })) (sym made.2)
      ∙ (named_stmt-Assign names at.number local.var made.0
      ∙ (ap (λ (o : Option Name). stmt.Assign (unwrap_or o no_name) (named_expr names made.0)) it.0
      ∙ (ap (stmt.Assign name) (expr_kept at.scope all value made.0 passed.0) ∙ sym (marked_stmt-Assign known name value))))

  written_back : (at : Reached) (field : Name) (index : List Expr) (how : WayDecl) (value : Expr) → AllCalled at.scope → (place : Option FieldAt) → field_named known.tables field ≡ place
      → (k : TypedKind) → write_kind how place (all_some (map (typed_expr known at.scope) index)) (typed_expr known at.scope value) ≡ Some k
      → named_stmt names (record { number = at.number; kind = k }) ≡ marked_stmt known (stmt.Write field index how value)
  written_back at field index how value all None found k h = let no_such : ◌≡◌ {A = Option TypedKind} None (Some k) = h in absurd (cc)
  written_back at field index how value all (Some place) found k h =
      let outer = option_and_then_some (λ (is : List TypedExpr). option_map (λ (t : TypedExpr). kind.Write place.layout place.place is (declared_way how) t) (only_where (λ t. same_ty t.ty place.ty) (typed_expr known at.scope value)))
      (option_and_then (λ (is : List TypedExpr). if list_all is_signed_expr is then Some is else None) (all_some (map (typed_expr known at.scope) index))) k h in
      let is = outer.0 in
      let inner = option_and_then_some (λ (is : List TypedExpr). if list_all is_signed_expr is then Some is else None) (all_some (map (typed_expr known at.scope) index)) is outer.1 in
      let signed = if_some (list_all is_signed_expr inner.0) inner.0 is inner.2 in
      let made = option_map_some (λ (t : TypedExpr). kind.Write place.layout place.place is (declared_way how) t) (only_where (λ t. same_ty t.ty place.ty) (typed_expr known at.scope value)) k outer.2 in
      let it = made.0 in
      let passed = only_where_some (λ t. same_ty t.ty place.ty) (typed_expr known at.scope value) it made.1 in
      let index_is : all_some (map (typed_expr known at.scope) index) ≡ Some is = inner.1 ∙ ap Some signed.1 in
      let mark = field_mark place.layout place.place in
      ap (λ (k : TypedKind). named_stmt names (record { number = at.number; kind = k })) (sym made.2)
      ∙ (named_stmt-Write names at.number place.layout place.place is (declared_way how) it
      ∙ (ap (λ (xs : List Expr). stmt.Write mark xs (way_back (declared_way how)) (named_expr names it)) (all_kept at.scope all index (exprs_all at.scope all index) is index_is)
      ∙ (ap (λ (w : WayDecl). stmt.Write mark (map (marked_expr known) index) w (named_expr names it)) (way_kept how)
      ∙ (ap (stmt.Write mark (map (marked_expr known) index) how) (expr_kept at.scope all value it passed.0)
      ∙ (ap (λ (o : Option FieldAt). stmt.Write (marked_field field o) (map (marked_expr known) index) how (marked_expr known value)) (sym found) ∙ sym (marked_stmt-Write known field index how value))))))

  -- the names of a block that comes first, of a part of the statement that comes after it
  abbrev back_else : Bool → List TypedStmt → Option (List Stmt)
  back_else has block = if has then Some (map (named_stmt names) block) else None

  -- a condition before blocks that lead back
  branch_back : (condition : Expr) (block : List Stmt) (otherwise : Option (List Stmt)) (at : Reached) (it : TypedExpr) (ys ns : List TypedStmt) (has : Bool) (before : List Name) (last : Reached)
      → Fits (if_wrongs known at.scope condition) (only_where (λ typed. is_truth typed.ty) (typed_expr known at.scope condition)) it → AllCalled at.scope
      → map (named_stmt names) ys ≡ map (marked_stmt known) block → back_else has ns ≡ option_map (map (marked_stmt known)) otherwise
      → length last.types ≡ length ((before ++ block_names block) ++ else_names (option_map (map stmt_names) otherwise))
      → Back (named_stmt names (of_kind at (kind.If it ys ns has))) (marked_stmt known (stmt.If condition block otherwise)) before (stmt_names (stmt.If condition block otherwise)) (block_end at last)
  branch_back condition block otherwise at it ys ns has before last says all b o count =
      let truth = only_where_some (λ t. is_truth t.ty) (typed_expr known at.scope condition) it says.is in
      let whole = names-If condition block otherwise in
      record {
        same = named_stmt-If names at.number it ys ns has
            ∙ (ap (λ (x : Expr). stmt.If x (map (named_stmt names) ys) (back_else has ns)) (expr_kept at.scope all condition it truth.0)
            ∙ (ap (λ (ss : List Stmt). stmt.If (marked_expr known condition) ss (back_else has ns)) b
            ∙ (ap (stmt.If (marked_expr known condition) (map (marked_stmt known) block)) o ∙ sym (marked_stmt-If known condition block otherwise))));
        count = count
            ∙ (ap (λ (ns : List Name). length ns) (append_assoc before (block_names block) (else_names (option_map (map stmt_names) otherwise))) ∙ ap (λ (ns : List Name). length (before ++ ns)) (sym whole));
        called = all;
      }

  if_back : (condition : Expr) (block : List Stmt) (at : Reached) (it : TypedExpr) (ys : List TypedStmt) (mid : Reached)
      → Fits (if_wrongs known at.scope condition) (only_where (λ typed. is_truth typed.ty) (typed_expr known at.scope condition)) it
      → Turn known LeadsBack AllLeadBack block (next_statement at) ys mid
      → LeadsBack (stmt.If condition block None) at (of_kind at (kind.If it ys [] false)) (block_end at mid)
  if_back condition block at it ys mid says inside before more is n all =
      let here = block_names block in
      let whole = names-If condition block None in
      let is_here : names ≡ before ++ (here ++ more) = is ∙ ap (λ (ns : List Name). before ++ (ns ++ more)) (whole ∙ append-nil here) in
      let b = inside.holds before more is_here n all in
      branch_back condition block None at it ys [] false before mid says all b.same refl (b.count ∙ ap (λ (ns : List Name). length ns) (sym (append-nil (before ++ here))))

  if_else_back : (condition : Expr) (block otherwise : List Stmt) (at : Reached) (it : TypedExpr) (ys : List TypedStmt) (mid : Reached) (ns : List TypedStmt) (last : Reached)
      → Fits (if_wrongs known at.scope condition) (only_where (λ typed. is_truth typed.ty) (typed_expr known at.scope condition)) it
      → Turn known LeadsBack AllLeadBack block (next_statement at) ys mid → Turn known LeadsBack AllLeadBack otherwise (block_end at mid) ns last
      → LeadsBack (stmt.If condition block (Some otherwise)) at (of_kind at (kind.If it ys ns true)) (block_end at last)
  if_else_back condition block otherwise at it ys mid ns last says inside outside before more is n all =
      let here = block_names block in
      let there = block_names otherwise in
      let whole = names-If condition block (Some otherwise) in
      let is_here : names ≡ before ++ (here ++ (there ++ more)) = is ∙ (ap (λ (ns : List Name). before ++ (ns ++ more)) whole ∙ ap (λ (ns : List Name). before ++ ns) (append_assoc here there more)) in
      let b = inside.holds before (there ++ more) is_here n all in
      let is_there : names ≡ (before ++ here) ++ (there ++ more) = is_here ∙ sym (append_assoc before here (there ++ more)) in
      let o = outside.holds (before ++ here) more is_there b.count all in
      branch_back condition block (Some otherwise) at it ys ns true before last says all b.same (ap Some o.same) o.count

  for_back : (name : Name) (range : RangeDecl) (body : List Stmt) (at : Reached) (bounds : TypedRange) (typed : List TypedStmt) (last : Reached)
      → Fits (for_wrongs known at.scope name range) (typed_range known at.scope range) bounds
      → Turn known LeadsBack AllLeadBack body (with_variable name ty.I32 true (next_statement at)) typed last
      → LeadsBack (stmt.For name range body) at (of_kind at (kind.For (length at.types) bounds typed)) (block_end at last)
  for_back name range body at bounds typed last says inside before more is n all =
      let there = block_names body in
      let whole = names-For name range body in
      let is_here : names ≡ before ++ name ∷ (there ++ more) = is ∙ ap (λ (ns : List Name). before ++ (ns ++ more)) whole in
      let is_there : names ≡ (before ++ name ∷ []) ++ (there ++ more) = is_here ∙ sym (append_assoc before (name ∷ []) (there ++ more)) in
      let count_there : length (at.types ++ ty.I32 ∷ []) ≡ length (before ++ name ∷ []) = length-append at.types (ty.I32 ∷ []) ∙ (ap (λ (m : ℕ). m + 1) n ∙ sym (length-append before (name ∷ []))) in
      let b = inside.holds (before ++ name ∷ []) more is_there count_there (declares_called before (there ++ more) name ty.I32 true (next_statement at) is_here n says.once all) in
      record {
        same = named_stmt-For names at.number (length at.types) bounds typed
            ∙ (ap (λ (o : Option Name). stmt.For (unwrap_or o no_name) (named_range names bounds) (map (named_stmt names) typed)) (next_name before (there ++ more) name at is_here n)
            ∙ (ap (λ (r : RangeDecl). stmt.For name r (map (named_stmt names) typed)) (range_kept at.scope all range bounds says.is)
            ∙ (ap (stmt.For name (marked_range known range)) b.same ∙ sym (marked_stmt-For known name range body))));
        count = b.count ∙ (ap (λ (ns : List Name). length ns) (append_assoc before (name ∷ []) there) ∙ ap (λ (ns : List Name). length (before ++ ns)) (sym whole));
        called = all;
      }

  leading : Cases known LeadsBack AllLeadBack
  leading = record {
    on_none = λ at before more is n all.
        record { same = refl; count = n ∙ ap (λ (ns : List Name). length ns) (sym (append-nil before)); called = all };
    on_more = λ statement block at t mid ts last one_is one rest before more is n all.
        let here = stmt_names statement in
        let there = block_names block in
        let is_here : names ≡ before ++ (here ++ (there ++ more)) = is ∙ ap (λ (ns : List Name). before ++ ns) (append_assoc here there more) in
        let head = one before (there ++ more) is_here n all in
        let is_there : names ≡ (before ++ here) ++ (there ++ more) = is_here ∙ sym (append_assoc before here (there ++ more)) in
        let tail = rest.holds (before ++ here) more is_there head.count head.called in
        record {
          same = ap (λ (s : Stmt). s ∷ map (named_stmt names) ts) head.same ∙ ap (λ (ss : List Stmt). marked_stmt known statement ∷ ss) tail.same;
          count = tail.count ∙ ap (λ (ns : List Name). length ns) (append_assoc before here there);
          called = tail.called;
        };
    on_let = let_back;
    on_assign = λ name value at it part before more is n all.
        plain_back (stmt.Assign name value) at (of_kind at it) (assigned_back at name value all (local_named at.scope name) refl it part.is) (names-Assign name value) before more is n all;
    on_write = λ field index how value at it part before more is n all.
        plain_back (stmt.Write field index how value) at (of_kind at it) (written_back at field index how value all (field_named known.tables field) refl it part.is)
        (names-Write field index how value) before more is n all;
    on_if = if_back;
    on_if_else = if_else_back;
    on_for = for_back;
  }

  -- ---- kernels

  begun_called : (before more : List Name) (at : Reached) (vars : List Name) → names ≡ before ++ (vars ++ more) → length at.types ≡ length before → any_earlier known vars ≡ false → AllCalled at.scope → AllCalled (begun at vars).scope
  begun_called before more at [] is n free all = all
  begun_called before more at (name ∷ vars) is n free all =
      let parts = or_parts (is_some (earlier_constant known name)) (any_earlier known vars) free in
      begun_called (before ++ name ∷ []) more (one at name) vars (is ∙ sym (append_assoc before (name ∷ []) (vars ++ more)))
      (length-append at.types (ty.I32 ∷ []) ∙ (ap (λ (m : ℕ). m + 1) n ∙ sym (length-append before (name ∷ [])))) parts.1
      (called_push at.scope (record { name = name; local = record { var = length at.types; ty = ty.I32; is_loop = true } }) all
      (record { there = next_name before (vars ++ more) name at is n; apart = none_of (earlier_constant known name) parts.0 }))

  ranges_kept : (ranges : List RangeDecl) (bounds : List TypedRange) → all_some (map (typed_range known []) ranges) ≡ Some bounds → map (named_range names) bounds ≡ map (marked_range known) ranges
  ranges_kept [] bounds h = ap (map (named_range names)) (sym (some_same [] bounds h))
  ranges_kept (range ∷ ranges) bounds h =
      let first = option_and_then_some (λ a. option_map (λ more. a ∷ more) (all_some (map (typed_range known []) ranges))) (typed_range known [] range) bounds h in
      let rest = option_map_some (λ more. first.0 ∷ more) (all_some (map (typed_range known []) ranges)) bounds first.2 in
      ap (map (named_range names)) (sym rest.2)
      ∙ (ap (λ (r : RangeDecl). r ∷ map (named_range names) rest.0) (range_kept [] tt range first.0 first.1) ∙ ap (λ (rs : List RangeDecl). marked_range known range ∷ rs) (ranges_kept ranges rest.0 rest.1))

  domain_kept : (given : DomainDecl) (loop : TypedDomain) → typed_domain known given ≡ Some loop → named_domain names loop ≡ marked_domain known given
  domain_kept (domain.Layout name) loop h =
      let found = option_map_some typed.Walk (layout_named known.tables name) loop h in
      ap (named_domain names) (sym found.2) ∙ ap (λ (o : Option ℕ). domain.Layout (marked_layout name o)) (sym found.1)
  domain_kept (domain.Ranges ranges) loop h =
      let found = option_map_some typed.Ranges (all_some (map (typed_range known []) ranges)) loop h in
      ap (named_domain names) (sym found.2) ∙ ap domain.Ranges (ranges_kept ranges found.0 found.1)

pub names_come_back : NamesComeBack
names_come_back known decl kernel h =
    let names = variable_names decl in
    let n = length decl.vars in
    let start = first_reached decl.vars in
    let empty : Reached = record { number = 1; types = []; scope = [] } in
    let parts = kernel_parts known decl kernel h in
    let says = parts.fits in
    let free = or_parts (has_repeat decl.vars) (any_earlier known decl.vars) says.once in
    let count : length start.types ≡ length decl.vars = omega (arith, length_begun empty decl.vars) in
    let called = begun_called known names [] (block_names decl.body) empty decl.vars refl refl free.1 tt in
    let is : names ≡ decl.vars ++ (block_names decl.body ++ []) = ap (λ (ns : List Name). decl.vars ++ ns) (sym (append-nil (block_names decl.body))) in
    let b = walk_turn known (LeadsBack known names) (AllLeadBack known names) (leading known names) decl.body start parts.body parts.last parts.in_body decl.vars [] is count called in (
      ap (λ (k : TypedKernel). length k.types) (sym parts.is) ∙ b.count,
      ap (named_kernel decl.name names) (sym parts.is)
          ∙ (ap (λ (vars : List Name). record { name = decl.name; vars = vars; domain = named_domain names parts.loop; body = map (named_stmt names) parts.body }) (take-append_seam decl.vars (block_names decl.body))
          ∙ (ap (λ (d : DomainDecl). record { name = decl.name; vars = decl.vars; domain = d; body = map (named_stmt names) parts.body }) (domain_kept known names decl.domain parts.loop says.is)
          ∙ ap (λ (ss : List Stmt). record { name = decl.name; vars = decl.vars; domain = marked_domain known decl.domain; body = ss }) b.same)),
    )
