-- Typed expressions are well typed.
use Rattle.std.proofs.Common.{◌≡◌, ℕ, zero, suc, Bool, true, false, ◌&&◌, ◌||◌, ◌==◌, nat_lt, take, find, slice_get, List, [], ◌∷◌, map, length, Option, Some, None, option_map, refl, sym, ap, ◌∙◌}
use Rattle.std.specs.Option.{option_and_then}
use Rattle.std.specs.List.{list_all, AllByRecursion}
use Rattle.std.proofs.lemmas.Bool.{and_parts, and_from}
use Rattle.sg_words.specs.declared.operators.Ty.{Ty}
use Rattle.sg_words.specs.declared.operators.Ty.TheVariants as ty
use Rattle.sg_words.specs.declared.operators.BinOp.{BinOp}
use Rattle.sg_words.specs.declared.operators.BinOp.TheVariants as b
use Rattle.sg_words.specs.declared.operators.UnOp.{UnOp}
use Rattle.sg_words.specs.Words.{flag}
use Rattle.sg_layout.specs.declared.shape.Shape.{Shape}
use Rattle.sg_ast.specs.declared.token.Name.{Name}
use Rattle.sg_ast.specs.declared.expr.Callee.{Callee}
use Rattle.sg_ast.specs.declared.expr.Callee.TheVariants as c
use Rattle.sg_ast.specs.declared.expr.Expr.{Expr}
use Rattle.sg_ast.specs.declared.expr.Expr.TheVariants as e
use Rattle.sg_names.specs.declared.tables.Constant.{Constant}
use Rattle.sg_names.specs.declared.tables.FieldAt.{FieldAt}
use Rattle.sg_names.specs.declared.tables.NamedConstant.{NamedConstant}
use Rattle.sg_ast.specs.Token.{same_name}
use Rattle.sg_names.specs.Tables.{field_named, axes_of}
use Rattle.sg_types.specs.declared.scope.Local.{Local}
use Rattle.sg_types.specs.declared.typed.TypedExpr.{TypedExpr}
use Rattle.sg_types.specs.declared.typed.Form.TheVariants as form
use Rattle.sg_types.specs.TypeTable.{is_numeric, is_signed, same_ty, bin_ty, un_ty, is_truth}
use Rattle.sg_types.specs.Scopes.{Known, NamedLocal, local_named, earlier_constant, local_or_constant}
use Rattle.sg_types.specs.Expressions.{typed_expr, counts, field_axes, equals_some, number_ty, all_some, un_expr, bin_expr, mulq_expr, convert_expr, call_expr, access_expr, active_expr, on_one, on_two, on_three, is_signed_expr}
use Rattle.sg_types.specs.WellTyped.{Visible, Surroundings, setting, is_well_typed_expr, is_ty, field_in, axes_in, is_visible, is_local}
use Rattle.sg_types.specs.Laws.{TablesFit}
use Rattle.sg_types.proofs.Standing.{find_good}
use Rattle.sg_types.proofs.Outcomes.{some_same, option_and_then_some, option_map_some, if_some}
use Rattle.sg_types.proofs.ExprWords.{typed-Number, typed-Truth, typed-Name, typed-Read, typed-Paren, typed-Un, typed-Bin, typed-Call, typed-Active, counts-Read, counts-Paren, counts-Un, counts-Bin, counts-Call, counts-Active}
use Rattle.sg_types.proofs.FitWords.{fits-Literal, fits-Constant, fits-Var, fits-Read, fits-Paren, fits-Un, fits-Bin, fits-Mulq, fits-Convert, fits-Active}
use Rattle.sg_ast.proofs.Uses.{by_exprs}

pub same_ty-same : (given : Ty) → same_ty given given ≡ true
same_ty-same ty.I32 = refl
same_ty-same ty.U32 = refl
same_ty-same ty.Bool = refl

number_fits : (unsigned : Bool) (value : ℕ) → (is_numeric (number_ty unsigned) || nat_lt value 2) ≡ true
number_fits true value = refl
number_fits false value = refl

truth_fits : (truth : Bool) → (is_numeric ty.Bool || nat_lt (flag truth) 2) ≡ true
truth_fits true = refl
truth_fits false = refl

pub is_ty-some : (found : Option Ty) (given : Ty) → found ≡ Some given → is_ty found given ≡ true
is_ty-some found given h = ap (λ (o : Option Ty). is_ty o given) h ∙ same_ty-same given

-- a local of a typing scope is seen: it has its type among the types of the variables, and is in scope
pub record Sees (types : List Ty) (visible : List Visible) (local : Local) : Type 0 where
  pub typed : slice_get types local.var ≡ Some local.ty
  pub seen : is_visible visible local.var ≡ true
  pub free : local.is_loop ≡ false → is_local visible local.var ≡ true

abbrev pub AllSeen : List Ty → List Visible → List NamedLocal → Type 0
AllSeen types visible scope = AllByRecursion (λ named. Sees types visible named.local) scope

module _ (types : List Ty) (visible : List Visible) (name : Name) (local : Local) where
  found_at : (first : NamedLocal) (scope : List NamedLocal) (b : Bool) → same_name name first.name ≡ b → Sees types visible first.local
      → (local_named scope name ≡ Some local → Sees types visible local) → local_named (first ∷ scope) name ≡ Some local → Sees types visible local
  found_at first scope true q sees rest h =
      let g : Some first.local ≡ Some local = rw q at h in
      let same = some_same first.local local g in
      record {
        typed = ap (λ (it : Local). slice_get types it.var) (sym same) ∙ (sees.typed ∙ ap (λ (it : Local). Some it.ty) same);
        seen = ap (λ (it : Local). is_visible visible it.var) (sym same) ∙ sees.seen;
        free = λ f. ap (λ (it : Local). is_local visible it.var) (sym same) ∙ sees.free (ap (λ (it : Local). it.is_loop) same ∙ f);
      }
  found_at first scope false q sees rest h = rest (rw q at h)

  pub found_sees : (scope : List NamedLocal) → AllSeen types visible scope → local_named scope name ≡ Some local → Sees types visible local
  found_sees [] all h = let no_such : ◌≡◌ {A = Option Local} None (Some local) = h in absurd (cc)
  found_sees (first ∷ scope) all h = found_at first scope (same_name name first.name) refl all.0 (found_sees scope all.1) h

list_all-take : {X : Type 0} (test : X → Bool) (n : ℕ) (xs : List X) → list_all test xs ≡ true → list_all test (take n xs) ≡ true
list_all-take test zero xs h = refl
list_all-take test (suc n) [] h = refl
list_all-take test (suc n) (x ∷ xs) h =
    let parts = and_parts (test x) (list_all test xs) h in
    and_from (test x) (list_all test (take n xs)) parts.0 (list_all-take test n xs parts.1)

both_all : {X : Type 0} (p q : X → Bool) (xs : List X) → list_all p xs ≡ true → list_all q xs ≡ true → list_all (λ x. p x && q x) xs ≡ true
both_all p q [] h g = refl
both_all p q (x ∷ xs) h g =
    let hs = and_parts (p x) (list_all p xs) h in
    let gs = and_parts (q x) (list_all q xs) g in
    and_from (p x && q x) (list_all (λ x. p x && q x) xs) (and_from (p x) (q x) hs.0 gs.0) (both_all p q xs hs.1 gs.1)

pub number_of_axes : (found : Option ℕ) (n : ℕ) → equals_some found n ≡ true → (m : ℕ) × (found ≡ Some m) × ((m == n) ≡ true)
number_of_axes None n h = let clash : false ≡ true = h in absurd (cc)
number_of_axes (Some m) n h = (m, refl, h)

module _ (known : Known) (shapes : List Shape) (fit : TablesFit known.tables shapes) where
  constant_numeric : (name : Name) (constant : Constant) → earlier_constant known name ≡ Some constant → is_numeric constant.ty ≡ true
  constant_numeric name constant h =
      let found = option_map_some (λ (named : NamedConstant). named.constant) (find (λ named. same_name name named.name) (take known.constants known.tables.constants)) constant h in
      ap (λ (it : Constant). is_numeric it.ty) (sym found.2)
      ∙ find_good (λ named. same_name name named.name) (λ named. is_numeric named.constant.ty) (take known.constants known.tables.constants) found.0
      (list_all-take (λ named. is_numeric named.constant.ty) known.constants known.tables.constants fit.constants) found.1

  pub axes_fit : (layout n : ℕ) → equals_some (axes_of known.tables layout) n ≡ true → equals_some (axes_in shapes layout) n ≡ true
  axes_fit layout n h =
      let found = number_of_axes (axes_of known.tables layout) n h in
      ap (λ (o : Option ℕ). equals_some o n) (fit.axes layout found.0 found.1) ∙ found.2

  -- the layout of a field has as many axes
  pub field_axes_fit : (field : Name) (at : FieldAt) (n : ℕ) → field_named known.tables field ≡ Some at → equals_some (field_axes known.tables field) n ≡ true → equals_some (axes_in shapes at.layout) n ≡ true
  field_axes_fit field at n is h =
      axes_fit at.layout n (ap (λ (o : Option FieldAt). equals_some (option_and_then (λ at. axes_of known.tables at.layout) o) n) (sym is) ∙ h)

  module _ (types : List Ty) (scope : List NamedLocal) (visible : List Visible) (all_seen : AllSeen types visible scope) where
    abbrev at : Surroundings
    at = setting shapes types visible

    abbrev FitsWell : Expr → Type 0
    FitsWell expr = (typed : TypedExpr) → typed_expr known scope expr ≡ Some typed → counts known.tables expr ≡ true → is_well_typed_expr at typed ≡ true

    same : (x typed : TypedExpr) → Some x ≡ Some typed → is_well_typed_expr at x ≡ true → is_well_typed_expr at typed ≡ true
    same x typed h g = ap (is_well_typed_expr at) (sym (some_same x typed h)) ∙ g

    name_fits : (name : Name) → FitsWell (e.Name name)
    name_fits name typed h g = go (local_named scope name) refl (earlier_constant known name) refl (sym (typed-Name known scope name) ∙ h)
      where
        go : (local : Option Local) → local_named scope name ≡ local → (constant : Option Constant) → earlier_constant known name ≡ constant → local_or_constant local constant ≡ Some typed → is_well_typed_expr at typed ≡ true
        go (Some local) p constant q r =
            let sees = found_sees types visible name local scope all_seen p in
            same (record { ty = local.ty; form = form.Var local.var }) typed r
            (fits-Var at local.ty local.var ∙ and_from (is_visible visible local.var) (is_ty (slice_get types local.var) local.ty) sees.seen (is_ty-some (slice_get types local.var) local.ty sees.typed))
        go None p (Some constant) q r =
            same (record { ty = constant.ty; form = form.Constant constant.word }) typed r (fits-Constant at constant.ty constant.word ∙ constant_numeric name constant q)
        go None p None q r = let no_such : ◌≡◌ {A = Option TypedExpr} None (Some typed) = r in absurd (cc)

    all_fit : (exprs : List Expr) → AllByRecursion FitsWell exprs → (typed : List TypedExpr) → all_some (map (typed_expr known scope) exprs) ≡ Some typed
        → list_all (counts known.tables) exprs ≡ true → (list_all (is_well_typed_expr at) typed ≡ true) × (length typed ≡ length exprs)
    all_fit [] all typed h g = let is = some_same [] typed h in (ap (list_all (is_well_typed_expr at)) (sym is), ap (λ (xs : List TypedExpr). length xs) (sym is))
    all_fit (expr ∷ exprs) all typed h g =
        let first = option_and_then_some (λ a. option_map (λ more. a ∷ more) (all_some (map (typed_expr known scope) exprs))) (typed_expr known scope expr) typed h in
        let rest = option_map_some (λ more. first.0 ∷ more) (all_some (map (typed_expr known scope) exprs)) typed first.2 in
        let counted = and_parts (counts known.tables expr) (list_all (counts known.tables) exprs) g in
        let more = all_fit exprs all.1 rest.0 rest.1 counted.1 in (
          ap (list_all (is_well_typed_expr at)) (sym rest.2) ∙ and_from (is_well_typed_expr at first.0) (list_all (is_well_typed_expr at) rest.0) (all.0 first.0 first.1 counted.0) more.0,
          ap (λ (xs : List TypedExpr). length xs) (sym rest.2) ∙ ap suc more.1,
        )

    -- indices of I32 that are well typed, as many as the layout has axes
    pub index_fits : (field : Name) (place : FieldAt) (index : List Expr) (typed : List TypedExpr) → field_named known.tables field ≡ Some place
        → equals_some (field_axes known.tables field) (length index) ≡ true → list_all is_signed_expr typed ≡ true → list_all (is_well_typed_expr at) typed ≡ true → length typed ≡ length index
        → (equals_some (axes_in shapes place.layout) (length typed) && list_all (λ part. is_signed part.ty && is_well_typed_expr at part) typed) ≡ true
    index_fits field place index typed is n signed well same_length =
        and_from (equals_some (axes_in shapes place.layout) (length typed)) (list_all (λ part. is_signed part.ty && is_well_typed_expr at part) typed)
        (field_axes_fit field place (length typed) is (ap (equals_some (field_axes known.tables field)) same_length ∙ n))
        (both_all is_signed_expr (is_well_typed_expr at) typed signed well)

    read_fits : (field : Name) (index : List Expr) → AllByRecursion FitsWell index → FitsWell (e.Read field index)
    read_fits field index all typed h g =
        let found = option_and_then_some (λ place. option_and_then (access_expr place) (all_some (map (typed_expr known scope) index))) (field_named known.tables field) typed (sym (typed-Read known scope field index) ∙ h) in
        let place = found.0 in
        let parts = option_and_then_some (access_expr place) (all_some (map (typed_expr known scope) index)) typed found.2 in
        let signed = if_some (list_all is_signed_expr parts.0) (record { ty = place.ty; form = form.Read place.layout place.place parts.0 }) typed parts.2 in
        let counted = and_parts (equals_some (field_axes known.tables field) (length index)) (list_all (counts known.tables) index) (sym (counts-Read known.tables field index) ∙ g) in
        let well = all_fit index all parts.0 parts.1 counted.1 in
        ap (is_well_typed_expr at) (sym signed.1)
        ∙ (fits-Read at place.ty place.layout place.place parts.0
        ∙ and_from (is_ty (field_in shapes place.layout place.place) place.ty) (equals_some (axes_in shapes place.layout) (length parts.0) && list_all (λ part. is_signed part.ty && is_well_typed_expr at part) parts.0)
        (is_ty-some (field_in shapes place.layout place.place) place.ty (fit.fields field place found.1))
        (index_fits field place index parts.0 found.1 counted.0 signed.0 well.0 well.1))

    active_fits : (field : Name) (index : List Expr) → AllByRecursion FitsWell index → FitsWell (e.Active field index)
    active_fits field index all typed h g =
        let found = option_and_then_some (λ place. option_and_then (active_expr place) (all_some (map (typed_expr known scope) index))) (field_named known.tables field) typed (sym (typed-Active known scope field index) ∙ h) in
        let place = found.0 in
        let parts = option_and_then_some (active_expr place) (all_some (map (typed_expr known scope) index)) typed found.2 in
        let signed = if_some (list_all is_signed_expr parts.0) (record { ty = ty.Bool; form = form.Active place.layout parts.0 }) typed parts.2 in
        let counted = and_parts (equals_some (field_axes known.tables field) (length index)) (list_all (counts known.tables) index) (sym (counts-Active known.tables field index) ∙ g) in
        let well = all_fit index all parts.0 parts.1 counted.1 in
        ap (is_well_typed_expr at) (sym signed.1)
        ∙ (fits-Active at ty.Bool place.layout parts.0
        ∙ and_from (is_truth ty.Bool) (equals_some (axes_in shapes place.layout) (length parts.0) && list_all (λ part. is_signed part.ty && is_well_typed_expr at part) parts.0) refl
        (index_fits field place index parts.0 found.1 counted.0 signed.0 well.0 well.1))

    paren_fits : (inner : Expr) → FitsWell inner → FitsWell (e.Paren inner)
    paren_fits inner fits typed h g =
        let found = option_map_some (λ (it : TypedExpr). record { ty = it.ty; form = form.Paren it }) (typed_expr known scope inner) typed (sym (typed-Paren known scope inner) ∙ h) in
        ap (is_well_typed_expr at) (sym found.2)
        ∙ (fits-Paren at found.0.ty found.0
        ∙ and_from (same_ty found.0.ty found.0.ty) (is_well_typed_expr at found.0) (same_ty-same found.0.ty) (fits found.0 found.1 (sym (counts-Paren known.tables inner) ∙ g)))

    un_fits : (op : UnOp) (operand : Expr) → FitsWell operand → FitsWell (e.Un op operand)
    un_fits op operand fits typed h g =
        let found = option_and_then_some (un_expr op) (typed_expr known scope operand) typed (sym (typed-Un known scope op operand) ∙ h) in
        let made = option_map_some (λ given. record { ty = given; form = form.Un op found.0 }) (un_ty op found.0.ty) typed found.2 in
        ap (is_well_typed_expr at) (sym made.2)
        ∙ (fits-Un at made.0 op found.0
        ∙ and_from (is_ty (un_ty op found.0.ty) made.0) (is_well_typed_expr at found.0) (is_ty-some (un_ty op found.0.ty) made.0 made.1) (fits found.0 found.1 (sym (counts-Un known.tables op operand) ∙ g)))

    made_bin_fits : (op : BinOp) (left right typed : TypedExpr) → bin_expr op left right ≡ Some typed → is_well_typed_expr at left ≡ true → is_well_typed_expr at right ≡ true → is_well_typed_expr at typed ≡ true
    made_bin_fits op left right typed h l r =
        let made = option_map_some (λ given. record { ty = given; form = form.Bin op left right }) (bin_ty op left.ty right.ty) typed h in
        ap (is_well_typed_expr at) (sym made.2)
        ∙ (fits-Bin at made.0 op left right
        ∙ and_from (is_ty (bin_ty op left.ty right.ty) made.0) (is_well_typed_expr at left && is_well_typed_expr at right) (is_ty-some (bin_ty op left.ty right.ty) made.0 made.1)
        (and_from (is_well_typed_expr at left) (is_well_typed_expr at right) l r))

    bin_fits : (op : BinOp) (left right : Expr) → FitsWell left → FitsWell right → FitsWell (e.Bin op left right)
    bin_fits op left right l r typed h g =
        let first = option_and_then_some (λ (x : TypedExpr). option_and_then (bin_expr op x) (typed_expr known scope right)) (typed_expr known scope left) typed (sym (typed-Bin known scope op left right) ∙ h) in
        let second = option_and_then_some (bin_expr op first.0) (typed_expr known scope right) typed first.2 in
        let counted = and_parts (counts known.tables left) (counts known.tables right) (sym (counts-Bin known.tables op left right) ∙ g) in
        made_bin_fits op first.0 second.0 typed second.2 (l first.0 first.1 counted.0) (r second.0 second.1 counted.1)

    two_fit : (op : BinOp) (parts : List TypedExpr) (typed : TypedExpr) → on_two (bin_expr op) parts ≡ Some typed → list_all (is_well_typed_expr at) parts ≡ true → is_well_typed_expr at typed ≡ true
    two_fit op [] typed h g = let no_such : ◌≡◌ {A = Option TypedExpr} None (Some typed) = h in absurd (cc)
    two_fit op (x ∷ []) typed h g = let no_such : ◌≡◌ {A = Option TypedExpr} None (Some typed) = h in absurd (cc)
    two_fit op (x ∷ y ∷ []) typed h g =
        let first = and_parts (is_well_typed_expr at x) (list_all (is_well_typed_expr at) (y ∷ [])) g in
        let second = and_parts (is_well_typed_expr at y) true first.1 in
        made_bin_fits op x y typed h first.0 second.0
    two_fit op (x ∷ y ∷ z ∷ more) typed h g = let no_such : ◌≡◌ {A = Option TypedExpr} None (Some typed) = h in absurd (cc)

    one_fits : (to : Ty) → is_numeric to ≡ true → (parts : List TypedExpr) (typed : TypedExpr) → on_one (convert_expr to) parts ≡ Some typed → list_all (is_well_typed_expr at) parts ≡ true → is_well_typed_expr at typed ≡ true
    one_fits to numeric [] typed h g = let no_such : ◌≡◌ {A = Option TypedExpr} None (Some typed) = h in absurd (cc)
    one_fits to numeric (x ∷ []) typed h g =
        let made = if_some (is_numeric x.ty) (record { ty = to; form = form.Convert x }) typed h in
        let first = and_parts (is_well_typed_expr at x) true g in
        ap (is_well_typed_expr at) (sym made.1)
        ∙ (fits-Convert at to x ∙ and_from (is_numeric to) (is_numeric x.ty && is_well_typed_expr at x) numeric (and_from (is_numeric x.ty) (is_well_typed_expr at x) made.0 first.0))
    one_fits to numeric (x ∷ y ∷ more) typed h g = let no_such : ◌≡◌ {A = Option TypedExpr} None (Some typed) = h in absurd (cc)

    three_fit : (parts : List TypedExpr) (typed : TypedExpr) → on_three mulq_expr parts ≡ Some typed → list_all (is_well_typed_expr at) parts ≡ true → is_well_typed_expr at typed ≡ true
    three_fit [] typed h g = let no_such : ◌≡◌ {A = Option TypedExpr} None (Some typed) = h in absurd (cc)
    three_fit (x ∷ []) typed h g = let no_such : ◌≡◌ {A = Option TypedExpr} None (Some typed) = h in absurd (cc)
    three_fit (x ∷ y ∷ []) typed h g = let no_such : ◌≡◌ {A = Option TypedExpr} None (Some typed) = h in absurd (cc)
    three_fit (x ∷ y ∷ z ∷ []) typed h g =
        let made = if_some (is_signed_expr x && (is_signed_expr y && is_signed_expr z)) (record { ty = ty.I32; form = form.Mulq x y z }) typed h in
        let signed = and_parts (is_signed_expr x) (is_signed_expr y && is_signed_expr z) made.0 in
        let signed_more = and_parts (is_signed_expr y) (is_signed_expr z) signed.1 in
        let first = and_parts (is_well_typed_expr at x) (list_all (is_well_typed_expr at) (y ∷ z ∷ [])) g in
        let second = and_parts (is_well_typed_expr at y) (list_all (is_well_typed_expr at) (z ∷ [])) first.1 in
        let third = and_parts (is_well_typed_expr at z) true second.1 in
        ap (is_well_typed_expr at) (sym made.1)
        ∙ (fits-Mulq at ty.I32 x y z
        ∙ and_from (is_signed x.ty && is_well_typed_expr at x) ((is_signed y.ty && is_well_typed_expr at y) && (is_signed z.ty && is_well_typed_expr at z))
        (and_from (is_signed x.ty) (is_well_typed_expr at x) signed.0 first.0)
        (and_from (is_signed y.ty && is_well_typed_expr at y) (is_signed z.ty && is_well_typed_expr at z)
        (and_from (is_signed y.ty) (is_well_typed_expr at y) signed_more.0 second.0) (and_from (is_signed z.ty) (is_well_typed_expr at z) signed_more.1 third.0)))
    three_fit (x ∷ y ∷ z ∷ w ∷ more) typed h g = let no_such : ◌≡◌ {A = Option TypedExpr} None (Some typed) = h in absurd (cc)

    made_call_fits : (callee : Callee) (parts : List TypedExpr) (typed : TypedExpr) → call_expr callee parts ≡ Some typed → list_all (is_well_typed_expr at) parts ≡ true → is_well_typed_expr at typed ≡ true
    made_call_fits c.Min parts typed h g = two_fit b.Min parts typed h g
    made_call_fits c.Max parts typed h g = two_fit b.Max parts typed h g
    made_call_fits c.Mulq parts typed h g = three_fit parts typed h g
    made_call_fits c.I32 parts typed h g = one_fits ty.I32 refl parts typed h g
    made_call_fits c.U32 parts typed h g = one_fits ty.U32 refl parts typed h g

    call_fits : (callee : Callee) (arguments : List Expr) → AllByRecursion FitsWell arguments → FitsWell (e.Call callee arguments)
    call_fits callee arguments all typed h g =
        let parts = option_and_then_some (call_expr callee) (all_some (map (typed_expr known scope) arguments)) typed (sym (typed-Call known scope callee arguments) ∙ h) in
        let well = all_fit arguments all parts.0 parts.1 (sym (counts-Call known.tables callee arguments) ∙ g) in
        made_call_fits callee parts.0 typed parts.2 well.0

    -- a typed expression is well typed
    pub expr_fits : (expr : Expr) → FitsWell expr
    expr_fits = by_exprs FitsWell
        (λ value unsigned typed h g. same (record { ty = number_ty unsigned; form = form.Literal value }) typed (sym (typed-Number known scope value unsigned) ∙ h) (fits-Literal at (number_ty unsigned) value ∙ number_fits unsigned value))
        (λ truth typed h g. same (record { ty = ty.Bool; form = form.Literal (flag truth) }) typed (sym (typed-Truth known scope truth) ∙ h) (fits-Literal at ty.Bool (flag truth) ∙ truth_fits truth))
        name_fits read_fits paren_fits un_fits bin_fits call_fits active_fits

    all_exprs : (exprs : List Expr) → AllByRecursion FitsWell exprs
    all_exprs [] = tt
    all_exprs (expr ∷ exprs) = (expr_fits expr, all_exprs exprs)

    pub exprs_fit : (exprs : List Expr) (typed : List TypedExpr) → all_some (map (typed_expr known scope) exprs) ≡ Some typed
        → list_all (counts known.tables) exprs ≡ true → (list_all (is_well_typed_expr at) typed ≡ true) × (length typed ≡ length exprs)
    exprs_fit exprs typed h g = all_fit exprs (all_exprs exprs) typed h g
