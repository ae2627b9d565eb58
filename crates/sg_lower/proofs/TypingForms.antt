-- The code of well-typed expressions is well typed.
use Rattle.std.proofs.Common.{◌≡◌, ℕ, ◌<◌, ◌≤◌, Bool, true, false, ◌&&◌, ◌==◌, List, [], ◌∷◌, ◌++◌, map, length, All, Option, Some, None, Result, Ok, Err, IfOk, refl, sym, ap, subst, ◌∙◌, arith}
use Rattle.std.specs.Prelude.{slice_get, nat_lt, option_map}
use Rattle.std.specs.List.{list_all}
use Rattle.std.proofs.lemmas.Bool.{and_parts, and_from, lt-ltb, eqb-true, eq-eqb}
use Rattle.std.proofs.lemmas.List.{length-map}
use Rattle.std.proofs.lemmas.List.Elements.{All-push, All-head, All-tail}
use Rattle.std.proofs.lemmas.Option.{slice_get_within}
use Rattle.sg_words.specs.declared.operators.Ty.{Ty}
use Rattle.sg_words.specs.declared.operators.Ty.TheVariants as ty
use Rattle.sg_words.specs.declared.operators.BinOp.{BinOp}
use Rattle.sg_words.specs.declared.operators.UnOp.{UnOp}
use Rattle.sg_words.specs.declared.memory.Memory.{Memory}
use Rattle.sg_layout.specs.declared.shape.Shape.{Shape}
use Rattle.sg_types.specs.declared.typed.TypedExpr.{TypedExpr}
use Rattle.sg_types.specs.declared.typed.Form.TheVariants as form
use Rattle.sg_types.specs.Expressions.{equals_some}
use Rattle.sg_types.specs.TypeTable as table
use Rattle.sg_types.specs.TypeTable.{is_numeric, is_signed, same_ty, bin_ty, un_ty}
use Rattle.sg_types.specs.WellTyped.{Surroundings, Judged, is_visible, is_ty, axes_in, field_in, is_index, form_step, judged_expr, is_well_typed_expr}
use Rattle.sg_types.proofs.Uses as folds
use Rattle.sg_ir.specs.declared.code.Inst.{Inst}
use Rattle.sg_ir.specs.declared.code.Inst.TheVariants as v
use Rattle.sg_ir.specs.declared.names.Names.{Names}
use Rattle.sg_ir.specs.WellTyped.{KnownPlace, Frame, Scope, is_truth, is_truth_as, joins, reads, indexes, takes_truth, gives_truth, is_lnot, holds_of, is_cell, field_type_at, sets_step}
use Rattle.sg_ir.specs.Emits.{PutsReg}
use Rattle.sg_ir.specs.EmitTypes.{Adds, CanRead}
use Rattle.sg_ir.proofs.Uses.{fold-Const, fold-Var, fold-Bin, fold-Un, fold-Mulq, fold-ReadCell, fold-IsActive, fold-OwnRead, judges-Const, judges-Var, judges-Bin, judges-Un, judges-Mulq, judges-ReadCell, judges-IsActive, judges-OwnRead, adds-reg, adds-trans, adds-same, can_read-kept}
use Rattle.sg_lower.specs.steps.Fitting.{typed_active, typed_read}
use Rattle.sg_lower.specs.steps.Typing.{IsCell, Ready, HoldsWordOf, AddsExpr, is_part, AddsIndex}
use Rattle.sg_lower.proofs.Forms.{of_form}
use Rattle.sg_lower.proofs.TypeWords.{ty_is, same_is, numeric_is, signed_is, truth_is, of_itself, bin_truths, un_truths, its_judged, judged_ty, part_is, parts_are}
use Rattle.sg_lower.proofs.AddingMore.{word-kept, new_word, adds-keeping, adds-gains, adds-both, adds-last}

abbrev well_in : Judged → Bool
well_in part = part.1

joined : (found other : Option Ty) (given : Ty) → found ≡ Some given → other ≡ Some given → joins found other ≡ true
joined found other given one two = ap (λ (f : Option Ty). joins f other) one ∙ (ap (is_truth_as (is_truth given)) two ∙ of_itself given)

-- a register that is read as the type says
word_as : (at : Frame) (scope : Scope) (r : ℕ) (given : Ty) (truth : Bool) → is_truth given ≡ truth → HoldsWordOf r given at scope → reads at scope truth r ≡ true
word_as at scope r given truth is has = ap (λ (b : Bool). reads at scope b r) (sym is) ∙ has

all_listed : {X : Type 0} (p : X → Bool) (xs : List X) → All (λ x. p x ≡ true) xs → list_all p xs ≡ true
all_listed p [] all = refl
all_listed p (x ∷ xs) all = and_from (p x) (list_all p xs) (All-head (λ x. p x ≡ true) x xs all) (all_listed p xs (All-tail (λ x. p x ≡ true) x xs all))

-- index registers that can be read, as many as the layout has axes
pub indexed : (at : Frame) (scope : Scope) (layout : ℕ) (regs : List ℕ) → equals_some (axes_in at.shapes layout) (length regs) ≡ true → CanRead regs at scope
    → holds_of (λ (shape : Shape). indexes at scope shape regs) (slice_get at.shapes layout) ≡ true
indexed at scope layout regs axes can = by_found (slice_get at.shapes layout) axes
  where
    by_found : (found : Option Shape) → equals_some (option_map (λ (shape : Shape). shape.axes) found) (length regs) ≡ true → holds_of (λ (shape : Shape). indexes at scope shape regs) found ≡ true
    by_found None h = h
    by_found (Some shape) h =
        let same = eqb-true shape.axes (length regs) h in
        and_from (length regs == shape.axes) (list_all (reads at scope false) regs) (eq-eqb (length regs) shape.axes (sym same)) (all_listed (reads at scope false) regs can)

-- a question at a cell of a layout gives a truth value
asked_fits : (at : Frame) (scope : Scope) (layout p to : ℕ) (given : Ty) (regs : List ℕ) → is_truth given ≡ true → slice_get at.regs to ≡ Some given → IsCell p layout at scope
    → holds_of (λ (shape : Shape). indexes at scope shape regs) (slice_get at.shapes layout) ≡ true
    → holds_of (λ (known : KnownPlace). is_cell at known.layout known && (holds_of (λ (shape : Shape). indexes at scope shape regs) (slice_get at.shapes known.layout) && is_truth_as true (slice_get at.regs to))) (scope.places p) ≡ true
asked_fits at scope layout p to given regs truth there cell index = by_known (scope.places p) cell
  where
    fits : KnownPlace → ℕ → Bool
    fits known l = is_cell at l known && (holds_of (λ (shape : Shape). indexes at scope shape regs) (slice_get at.shapes l) && is_truth_as true (slice_get at.regs to))

    last : is_truth_as true (slice_get at.regs to) ≡ true
    last = ap (is_truth_as true) there ∙ truth

    by_known : (found : Option KnownPlace) → holds_of (is_cell at layout) found ≡ true → holds_of (λ (known : KnownPlace). fits known known.layout) found ≡ true
    by_known None h = h
    by_known (Some known) h =
        let same = eqb-true known.layout layout (and_parts (known.layout == layout) (holds_of (λ (shape : Shape). known.passed == length shape.nodes) (slice_get at.shapes layout)) h).0 in
        ap (fits known) same
        ∙ and_from (is_cell at layout known) (holds_of (λ (shape : Shape). indexes at scope shape regs) (slice_get at.shapes layout) && is_truth_as true (slice_get at.regs to)) h
        (and_from (holds_of (λ (shape : Shape). indexes at scope shape regs) (slice_get at.shapes layout)) (is_truth_as true (slice_get at.regs to)) index last)

module _ (shapes : List Shape) (new : Names) (a z : List Inst) where
  abbrev IsTyped : Names → ℕ → TypedExpr → Type 0
  IsTyped old to expr = AddsExpr shapes expr to old new a z

  const_typed : (old : Names) (to : ℕ) (expr : TypedExpr) (word : ℕ) → PutsReg expr.ty (λ reg. v.Const reg word) to old new a z → IsTyped old to expr
  const_typed old to expr word puts = λ setting same typed.
      adds-reg shapes (Ready setting) (HoldsWordOf to expr.ty) expr.ty (λ reg. v.Const reg word) (λ at scope. nat_lt to (length at.regs)) to old new a z puts (fold-Const sets_step to word) (λ at scope. judges-Const at to word scope)
      (λ at scope is there need. lt-ltb to (length at.regs) (slice_get_within at.regs to expr.ty there)) (λ at scope is there need. new_word to expr.ty expr.ty at scope refl there)

  pub const_ok : (old : Names) (result : Result ℕ Memory) (expr : TypedExpr) (word : ℕ) → IfOk result (λ to. PutsReg expr.ty (λ reg. v.Const reg word) to old new a z) → IfOk result (λ to. IsTyped old to expr)
  const_ok old (Ok to) expr word puts = const_typed old to expr word puts
  const_ok old (Err e) expr word puts = tt

  pub var_typed : (old : Names) (result : Result ℕ Memory) (expr : TypedExpr) (var : ℕ) → expr.form ≡ form.Var var → IfOk result (λ to. PutsReg expr.ty (λ reg. v.Var reg var) to old new a z) → IfOk result (λ to. IsTyped old to expr)
  var_typed old (Ok to) expr var is puts = of_form (IsTyped old to) expr (form.Var var) is (λ setting same typed.
      let p = and_parts (is_visible setting.scope var) (is_ty (slice_get setting.types var) expr.ty) (sym (ap well_in (folds.fold-Var (form_step setting) its_judged expr.ty var)) ∙ typed) in
      let type = ty_is (slice_get setting.types var) expr.ty p.1 in
      adds-reg shapes (Ready setting) (HoldsWordOf to expr.ty) expr.ty (λ reg. v.Var reg var) (λ at scope. scope.vars var && joins (slice_get at.vars var) (slice_get at.regs to)) to old new a z puts (fold-Var sets_step to var) (λ at scope. judges-Var at to var scope)
      (λ at scope is there need. and_from (scope.vars var) (joins (slice_get at.vars var) (slice_get at.regs to)) (need.1 var p.0)
      (joined (slice_get at.vars var) (slice_get at.regs to) expr.ty (ap (λ (ts : List Ty). slice_get ts var) need.0 ∙ type) there))
      (λ at scope is there need. new_word to expr.ty expr.ty at scope refl there))
  var_typed old (Err e) expr var is puts = tt

  -- the same register, of a type that is as much a truth value
  same_register : (old : Names) (to : ℕ) (x y : Ty) (setting : Surroundings) → is_truth x ≡ is_truth y → Adds shapes (Ready setting) (HoldsWordOf to x) old new a z → Adds shapes (Ready setting) (HoldsWordOf to y) old new a z
  same_register old to x y setting same = subst (λ (truth : Bool). Adds shapes (Ready setting) (λ at scope. reads at scope truth to ≡ true) old new a z) same

  pub paren_typed : (old : Names) (result : Result ℕ Memory) (expr inner : TypedExpr) → expr.form ≡ form.Paren inner → IfOk result (λ to. IsTyped old to inner) → IfOk result (λ to. IsTyped old to expr)
  paren_typed old (Ok to) expr inner is has = of_form (IsTyped old to) expr (form.Paren inner) is (λ setting same typed.
      let p = and_parts (same_ty (judged_expr setting inner).0 expr.ty) (is_well_typed_expr setting inner) (sym (ap well_in (folds.fold-Paren (form_step setting) its_judged expr.ty inner)) ∙ typed) in
      let one = sym (judged_ty setting inner) ∙ same_is (judged_expr setting inner).0 expr.ty p.0 in
      same_register old to inner.ty expr.ty setting (ap is_truth one) (has setting same p.1))
  paren_typed old (Err e) expr inner is has = tt

  pub convert_typed : (old : Names) (result : Result ℕ Memory) (expr inner : TypedExpr) → expr.form ≡ form.Convert inner → IfOk result (λ to. IsTyped old to inner) → IfOk result (λ to. IsTyped old to expr)
  convert_typed old (Ok to) expr inner is has = of_form (IsTyped old to) expr (form.Convert inner) is (λ setting same typed.
      let p = and_parts (is_numeric expr.ty) (is_numeric (judged_expr setting inner).0 && is_well_typed_expr setting inner) (sym (ap well_in (folds.fold-Convert (form_step setting) its_judged expr.ty inner)) ∙ typed) in
      let q = and_parts (is_numeric (judged_expr setting inner).0) (is_well_typed_expr setting inner) p.1 in
      let from = ap is_truth (sym (judged_ty setting inner)) ∙ numeric_is (judged_expr setting inner).0 q.0 in
      same_register old to inner.ty expr.ty setting (from ∙ sym (numeric_is expr.ty p.0)) (has setting same q.1))
  convert_typed old (Err e) expr inner is has = tt

  pub un_typed : (old mid : Names) (b : List Inst) (result : Result ℕ Memory) (expr : TypedExpr) (op : UnOp) (operand : TypedExpr) (type : Ty) (r : ℕ) → expr.form ≡ form.Un op operand → AddsExpr shapes operand r old mid a b
      → IfOk result (λ to. PutsReg expr.ty (λ reg. v.Un reg op type r) to mid new b z) → IfOk result (λ to. IsTyped old to expr)
  un_typed old mid b (Ok to) expr op operand type r is has puts = of_form (IsTyped old to) expr (form.Un op operand) is (λ setting same typed.
      let p = and_parts (is_ty (un_ty op (judged_expr setting operand).0) expr.ty) (is_well_typed_expr setting operand) (sym (ap well_in (folds.fold-Un (form_step setting) its_judged expr.ty op operand)) ∙ typed) in
      let truths = un_truths op (judged_expr setting operand).0 expr.ty p.0 in
      let takes = ap is_truth (sym (judged_ty setting operand)) ∙ truths.0 in
      adds-last shapes setting (HoldsWordOf r operand.ty) expr.ty expr.ty (λ reg. v.Un reg op type r) (λ at scope. reads at scope (is_lnot op) r && is_truth_as (is_lnot op) (slice_get at.regs to)) to old mid new a b z (has setting same p.1) puts
      (fold-Un sets_step to op type r) (λ at scope. judges-Un at to op type r scope)
      (λ at scope is there need. and_from (reads at scope (is_lnot op) r) (is_truth_as (is_lnot op) (slice_get at.regs to)) (word_as at scope r operand.ty (is_lnot op) takes need)
      (ap (λ (truth : Bool). is_truth_as truth (slice_get at.regs to)) (sym truths.1) ∙ (ap (is_truth_as (is_truth expr.ty)) there ∙ of_itself expr.ty))) refl)
  un_typed old mid b (Err e) expr op operand type r is has puts = tt

  pub bin_typed : (old m n : Names) (b c : List Inst) (result : Result ℕ Memory) (expr : TypedExpr) (op : BinOp) (left right : TypedExpr) (type : Ty) (r s : ℕ) → expr.form ≡ form.Bin op left right
      → r < length m.regs → AddsExpr shapes left r old m a b → AddsExpr shapes right s m n b c → IfOk result (λ to. PutsReg expr.ty (λ reg. v.Bin reg op type r s) to n new c z) → IfOk result (λ to. IsTyped old to expr)
  bin_typed old m n b c (Ok to) expr op left right type r s is named has_left has_right puts = of_form (IsTyped old to) expr (form.Bin op left right) is (λ setting same typed.
      let p = and_parts (is_ty (bin_ty op (judged_expr setting left).0 (judged_expr setting right).0) expr.ty) (is_well_typed_expr setting left && is_well_typed_expr setting right) (sym (ap well_in (folds.fold-Bin (form_step setting) its_judged expr.ty op left right)) ∙ typed) in
      let q = and_parts (is_well_typed_expr setting left) (is_well_typed_expr setting right) p.1 in
      let truths = bin_truths op (judged_expr setting left).0 (judged_expr setting right).0 expr.ty p.0 in
      let both = adds-both shapes setting (HoldsWordOf r left.ty) (HoldsWordOf s right.ty) old m n a b c (has_left setting same q.0) (has_right setting same q.1) (λ at f t has keeps. word-kept m r left.ty at f t named has keeps) in
      adds-last shapes setting (λ at scope. HoldsWordOf s right.ty at scope × HoldsWordOf r left.ty at scope) expr.ty expr.ty (λ reg. v.Bin reg op type r s)
      (λ at scope. reads at scope (takes_truth op) r && (reads at scope (takes_truth op) s && is_truth_as (gives_truth op) (slice_get at.regs to))) to old n new a c z both puts
      (fold-Bin sets_step to op type r s) (λ at scope. judges-Bin at to op type r s scope)
      (λ at scope is there need. and_from (reads at scope (takes_truth op) r) (reads at scope (takes_truth op) s && is_truth_as (gives_truth op) (slice_get at.regs to))
      (word_as at scope r left.ty (takes_truth op) (ap is_truth (sym (judged_ty setting left)) ∙ truths.left) need.1)
      (and_from (reads at scope (takes_truth op) s) (is_truth_as (gives_truth op) (slice_get at.regs to)) (word_as at scope s right.ty (takes_truth op) (ap is_truth (sym (judged_ty setting right)) ∙ truths.right) need.0)
      (ap (λ (truth : Bool). is_truth_as truth (slice_get at.regs to)) (sym truths.result) ∙ (ap (is_truth_as (is_truth expr.ty)) there ∙ of_itself expr.ty)))) refl)
  bin_typed old m n b c (Err e) expr op left right type r s is named has_left has_right puts = tt

  pub mulq_typed : (old k m n : Names) (b c d : List Inst) (result : Result ℕ Memory) (expr x y w : TypedExpr) (r s t : ℕ) → expr.form ≡ form.Mulq x y w → r < length k.regs → s < length m.regs → length k.regs ≤ length m.regs
      → AddsExpr shapes x r old k a b → AddsExpr shapes y s k m b c → AddsExpr shapes w t m n c d → IfOk result (λ to. PutsReg ty.I32 (λ reg. v.Mulq reg r s t) to n new d z) → IfOk result (λ to. IsTyped old to expr)
  mulq_typed old k m n b c d (Ok to) expr x y w r s t is named also longer has_x has_y has_w puts = of_form (IsTyped old to) expr (form.Mulq x y w) is (λ setting same typed.
      let p = and_parts (is_signed expr.ty) (is_index (judged_expr setting x) && (is_index (judged_expr setting y) && is_index (judged_expr setting w))) (sym (ap well_in (folds.fold-Mulq (form_step setting) its_judged expr.ty x y w)) ∙ typed) in
      let q = and_parts (is_index (judged_expr setting x)) (is_index (judged_expr setting y) && is_index (judged_expr setting w)) p.1 in
      let u = and_parts (is_index (judged_expr setting y)) (is_index (judged_expr setting w)) q.1 in
      let ix = and_parts (is_signed x.ty) (is_well_typed_expr setting x) (sym (part_is setting x) ∙ q.0) in
      let iy = and_parts (is_signed y.ty) (is_well_typed_expr setting y) (sym (part_is setting y) ∙ u.0) in
      let iw = and_parts (is_signed w.ty) (is_well_typed_expr setting w) (sym (part_is setting w) ∙ u.1) in
      let two = adds-both shapes setting (HoldsWordOf r x.ty) (HoldsWordOf s y.ty) old k m a b c (has_x setting same ix.1) (has_y setting same iy.1) (λ at f g has keeps. word-kept k r x.ty at f g named has keeps) in
      let below : r < length m.regs = omega (arith, named, longer) in
      let three = adds-both shapes setting (λ at scope. HoldsWordOf s y.ty at scope × HoldsWordOf r x.ty at scope) (HoldsWordOf t w.ty) old m n a c d two (has_w setting same iw.1)
      (λ at f g has keeps. (word-kept m s y.ty at f g also has.0 keeps, word-kept m r x.ty at f g below has.1 keeps)) in
      adds-last shapes setting (λ at scope. HoldsWordOf t w.ty at scope × (HoldsWordOf s y.ty at scope × HoldsWordOf r x.ty at scope)) ty.I32 expr.ty (λ reg. v.Mulq reg r s t)
      (λ at scope. reads at scope false r && (reads at scope false s && (reads at scope false t && is_truth_as false (slice_get at.regs to)))) to old n new a d z three puts
      (fold-Mulq sets_step to r s t) (λ at scope. judges-Mulq at to r s t scope)
      (λ at scope is there need. and_from (reads at scope false r) (reads at scope false s && (reads at scope false t && is_truth_as false (slice_get at.regs to))) (word_as at scope r x.ty false (ap is_truth (signed_is x.ty ix.0)) need.1.1)
      (and_from (reads at scope false s) (reads at scope false t && is_truth_as false (slice_get at.regs to)) (word_as at scope s y.ty false (ap is_truth (signed_is y.ty iy.0)) need.1.0)
      (and_from (reads at scope false t) (is_truth_as false (slice_get at.regs to)) (word_as at scope t w.ty false (ap is_truth (signed_is w.ty iw.0)) need.0) (ap (is_truth_as false) there))))
      (ap is_truth (sym (signed_is expr.ty p.0))))
  mulq_typed old k m n b c d (Err e) expr x y w r s t is named also longer has_x has_y has_w puts = tt

  -- what a read keeps to
  pub record ReadParts (setting : Surroundings) (given : Ty) (layout place : ℕ) (index : List TypedExpr) : Type 0 where
    pub type : field_in setting.shapes layout place ≡ Some given
    pub axes : equals_some (axes_in setting.shapes layout) (length index) ≡ true
    pub parts : list_all (is_part setting) index ≡ true

  read_parts : (setting : Surroundings) (given : Ty) (layout place : ℕ) (index : List TypedExpr) → is_well_typed_expr setting (typed_read given layout place index) ≡ true → ReadParts setting given layout place index
  read_parts setting given layout place index typed =
      let p = and_parts (is_ty (field_in setting.shapes layout place) given) (equals_some (axes_in setting.shapes layout) (length (map (judged_expr setting) index)) && list_all is_index (map (judged_expr setting) index))
      (sym (ap well_in (folds.fold-Read (form_step setting) its_judged given layout place index)) ∙ typed) in
      let q = and_parts (equals_some (axes_in setting.shapes layout) (length (map (judged_expr setting) index))) (list_all is_index (map (judged_expr setting) index)) p.1 in
      record {
        type = ty_is (field_in setting.shapes layout place) given p.0;
        axes = ap (equals_some (axes_in setting.shapes layout)) (sym (length-map index (judged_expr setting))) ∙ q.0;
        parts = sym (parts_are setting index) ∙ q.1;
      }

  -- what a question keeps to
  pub record ActiveParts (setting : Surroundings) (given : Ty) (layout : ℕ) (index : List TypedExpr) : Type 0 where
    pub type : table.is_truth given ≡ true
    pub axes : equals_some (axes_in setting.shapes layout) (length index) ≡ true
    pub parts : list_all (is_part setting) index ≡ true

  active_parts : (setting : Surroundings) (given : Ty) (layout : ℕ) (index : List TypedExpr) → is_well_typed_expr setting (typed_active given layout index) ≡ true → ActiveParts setting given layout index
  active_parts setting given layout index typed =
      let p = and_parts (table.is_truth given) (equals_some (axes_in setting.shapes layout) (length (map (judged_expr setting) index)) && list_all is_index (map (judged_expr setting) index))
      (sym (ap well_in (folds.fold-Active (form_step setting) its_judged given layout index)) ∙ typed) in
      let q = and_parts (equals_some (axes_in setting.shapes layout) (length (map (judged_expr setting) index))) (list_all is_index (map (judged_expr setting) index)) p.1 in
      record {
        type = p.0;
        axes = ap (equals_some (axes_in setting.shapes layout)) (sym (length-map index (judged_expr setting))) ∙ q.0;
        parts = sym (parts_are setting index) ∙ q.1;
      }

  pub own_read_typed : (old : Names) (result : Result ℕ Memory) (given : Ty) (layout place : ℕ) (index : List TypedExpr) → IfOk result (λ to. PutsReg given (λ reg. v.OwnRead reg layout place) to old new a z)
      → IfOk result (λ to. IsTyped old to (typed_read given layout place index))
  own_read_typed old (Ok to) given layout place index puts = λ setting same typed.
      let it = read_parts setting given layout place index typed in
      adds-reg shapes (Ready setting) (HoldsWordOf to given) given (λ reg. v.OwnRead reg layout place) (λ at scope. joins (field_type_at at layout place) (slice_get at.regs to)) to old new a z puts (fold-OwnRead sets_step to layout place) (λ at scope. judges-OwnRead at to layout place scope)
      (λ at scope is there need. joined (field_type_at at layout place) (slice_get at.regs to) given (ap (λ (ss : List Shape). field_in ss layout place) (is ∙ sym same) ∙ it.type) there) (λ at scope is there need. new_word to given given at scope refl there)
  own_read_typed old (Err e) given layout place index puts = tt

  both_places : (setting : Surroundings) (layout p : ℕ) (regs : List ℕ) (old m n : Names) (b c : List Inst) → All (λ r. r < length m.regs) regs → Adds shapes (Ready setting) (CanRead regs) old m a b
      → Adds shapes (CanRead regs) (IsCell p layout) m n b c → Adds shapes (Ready setting) (λ at scope. IsCell p layout at scope × CanRead regs at scope) old n a c
  both_places setting layout p regs old m n b c named first second =
      adds-trans shapes (Ready setting) (CanRead regs) (λ at scope. CanRead regs at scope × CanRead regs at scope) (λ at scope. IsCell p layout at scope × CanRead regs at scope) old m n a b c first
      (adds-keeping shapes (CanRead regs) (IsCell p layout) (CanRead regs) m n b c second (λ at f t can keeps. can_read-kept m at f t regs named keeps can)) (λ at s t ready got keeps. (got, got))

  pub cell_read_typed : (old m n : Names) (b c : List Inst) (result : Result ℕ Memory) (given : Ty) (layout place : ℕ) (index : List TypedExpr) (regs : List ℕ) (p : ℕ) → length regs ≡ length index → All (λ r. r < length m.regs) regs
      → AddsIndex shapes index regs old m a b → (equals_some (axes_in shapes layout) (length regs) ≡ true → Adds shapes (CanRead regs) (IsCell p layout) m n b c)
      → IfOk result (λ to. PutsReg given (λ reg. v.ReadCell reg p layout place regs) to n new c z) → IfOk result (λ to. IsTyped old to (typed_read given layout place index))
  cell_read_typed old m n b c (Ok to) given layout place index regs p count named has placed puts = λ setting same typed.
      let it = read_parts setting given layout place index typed in
      let axes : equals_some (axes_in shapes layout) (length regs) ≡ true = ap (equals_some (axes_in shapes layout)) count ∙ (ap (λ (ss : List Shape). equals_some (axes_in ss layout) (length index)) (sym same) ∙ it.axes) in
      let cell = both_places setting layout p regs old m n b c named (has setting same it.parts) (placed axes) in
      adds-last shapes setting (λ at scope. IsCell p layout at scope × CanRead regs at scope) given given (λ reg. v.ReadCell reg p layout place regs)
      (λ at scope. holds_of (is_cell at layout) (scope.places p) && (joins (field_type_at at layout place) (slice_get at.regs to) && holds_of (λ (shape : Shape). indexes at scope shape regs) (slice_get at.shapes layout))) to old n new a c z cell puts
      (fold-ReadCell sets_step to p layout place regs) (λ at scope. judges-ReadCell at to p layout place regs scope)
      (λ at scope is there need. and_from (holds_of (is_cell at layout) (scope.places p)) (joins (field_type_at at layout place) (slice_get at.regs to) && holds_of (λ (shape : Shape). indexes at scope shape regs) (slice_get at.shapes layout)) need.0
      (and_from (joins (field_type_at at layout place) (slice_get at.regs to)) (holds_of (λ (shape : Shape). indexes at scope shape regs) (slice_get at.shapes layout))
      (joined (field_type_at at layout place) (slice_get at.regs to) given (ap (λ (ss : List Shape). field_in ss layout place) (is ∙ sym same) ∙ it.type) there)
      (indexed at scope layout regs (ap (λ (ss : List Shape). equals_some (axes_in ss layout) (length regs)) is ∙ axes) need.1))) refl
  cell_read_typed old m n b c (Err e) given layout place index regs p count named has placed puts = tt

  pub active_typed : (old m n : Names) (b c : List Inst) (result : Result ℕ Memory) (given : Ty) (layout : ℕ) (index : List TypedExpr) (regs : List ℕ) (p : ℕ) → length regs ≡ length index → All (λ r. r < length m.regs) regs
      → AddsIndex shapes index regs old m a b → (equals_some (axes_in shapes layout) (length regs) ≡ true → Adds shapes (CanRead regs) (IsCell p layout) m n b c)
      → IfOk result (λ to. PutsReg given (λ reg. v.IsActive reg p regs) to n new c z) → IfOk result (λ to. IsTyped old to (typed_active given layout index))
  active_typed old m n b c (Ok to) given layout index regs p count named has placed puts = λ setting same typed.
      let it = active_parts setting given layout index typed in
      let axes : equals_some (axes_in shapes layout) (length regs) ≡ true = ap (equals_some (axes_in shapes layout)) count ∙ (ap (λ (ss : List Shape). equals_some (axes_in ss layout) (length index)) (sym same) ∙ it.axes) in
      let cell = both_places setting layout p regs old m n b c named (has setting same it.parts) (placed axes) in
      adds-last shapes setting (λ at scope. IsCell p layout at scope × CanRead regs at scope) given given (λ reg. v.IsActive reg p regs)
      (λ at scope. holds_of (λ (known : KnownPlace). is_cell at known.layout known && (holds_of (λ (shape : Shape). indexes at scope shape regs) (slice_get at.shapes known.layout) && is_truth_as true (slice_get at.regs to))) (scope.places p)) to old n new a c z cell puts
      (fold-IsActive sets_step to p regs) (λ at scope. judges-IsActive at to p regs scope)
      (λ at scope is there need. asked_fits at scope layout p to given regs (truth_is given it.type) there need.0
      (indexed at scope layout regs (ap (λ (ss : List Shape). equals_some (axes_in ss layout) (length regs)) is ∙ axes) need.1)) refl
  active_typed old m n b c (Err e) given layout index regs p count named has placed puts = tt

  pub active_form_typed : (old : Names) (result : Result ℕ Memory) (expr : TypedExpr) (layout : ℕ) (index given : List TypedExpr) → expr.form ≡ form.Active layout index → given ≡ index
      → IfOk result (λ to. IsTyped old to (typed_active expr.ty layout given)) → IfOk result (λ to. IsTyped old to expr)
  active_form_typed old result expr layout index given is same has = of_form (λ (e : TypedExpr). IfOk result (λ to. IsTyped old to e)) expr (form.Active layout index) is
      (subst (λ (list : List TypedExpr). IfOk result (λ to. IsTyped old to (typed_active expr.ty layout list))) same has)

  pub read_form_typed : (old : Names) (result : Result ℕ Memory) (expr : TypedExpr) (layout place : ℕ) (index given : List TypedExpr) → expr.form ≡ form.Read layout place index → given ≡ index
      → IfOk result (λ to. IsTyped old to (typed_read expr.ty layout place given)) → IfOk result (λ to. IsTyped old to expr)
  read_form_typed old result expr layout place index given is same has = of_form (λ (e : TypedExpr). IfOk result (λ to. IsTyped old to e)) expr (form.Read layout place index) is
      (subst (λ (list : List TypedExpr). IfOk result (λ to. IsTyped old to (typed_read expr.ty layout place list))) same has)

-- index expressions one by one
pub index_none : (shapes : List Shape) (names : Names) (block : List Inst) → AddsIndex shapes [] [] names names block block
index_none shapes names block = λ setting same typed. adds-same shapes (Ready setting) (CanRead []) names block (λ at scope ready. All-none at scope)
  where
    All-none : (at : Frame) (scope : Scope) → CanRead [] at scope
    All-none at scope = λ k d below. absurd (omega (arith, below))

pub index_more : (shapes : List Shape) (exprs : List TypedExpr) (expr : TypedExpr) (regs : List ℕ) (to : ℕ) (old mid new : Names) (a b c : List Inst) → All (λ r. r < length mid.regs) regs → AddsIndex shapes exprs regs old mid a b → AddsExpr shapes expr to mid new b c
    → AddsIndex shapes (exprs ++ expr ∷ []) (regs ++ to ∷ []) old new a c
index_more shapes exprs expr regs to old mid new a b c named has more = λ setting same typed.
    let p = parted (is_part setting) exprs expr typed in
    let i = and_parts (is_signed expr.ty) (is_well_typed_expr setting expr) p.1 in
    adds-gains shapes (Ready setting) (λ at scope. HoldsWordOf to expr.ty at scope × CanRead regs at scope) (CanRead (regs ++ to ∷ [])) old new a c
    (λ at scope is got. All-push (λ r. reads at scope false r ≡ true) regs to got.1 (word_as at scope to expr.ty false (ap is_truth (signed_is expr.ty i.0)) got.0))
    (adds-both shapes setting (CanRead regs) (HoldsWordOf to expr.ty) old mid new a b c (has setting same p.0) (more setting same i.1) (λ at f t can keeps. can_read-kept mid at f t regs named keeps can))
  where
    parted : {X : Type 0} (p : X → Bool) (xs : List X) (x : X) → list_all p (xs ++ x ∷ []) ≡ true → (list_all p xs ≡ true) × (p x ≡ true)
    parted p [] x h = (refl, (and_parts (p x) true h).0)
    parted p (y ∷ xs) x h =
        let q = and_parts (p y) (list_all p (xs ++ x ∷ [])) h in
        let r = parted p xs x q.1 in
        (and_from (p y) (list_all p xs) q.0 r.0, r.1)
