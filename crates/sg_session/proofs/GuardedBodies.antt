-- A guarded body writes nothing if all fields of the walked layout are 0.
use Rattle.std.proofs.Common.{◌≡◌, ℕ, ◌+◌, ◌<◌, ◌≤◌, true, false, not, ◌&&◌, ◌==◌, if◌then◌else◌, List, [], ◌∷◌, map, length, get_or, drop, Option, None, refl, sym, ap, ◌∙◌, arith}
use Rattle.std.specs.List.{AllByRecursion}
use Rattle.std.proofs.lemmas.Bool.{and_parts, both_ways, eqb-true, not-true}
use Rattle.std.proofs.lemmas.List.{drop_more, drop_all}
use Rattle.sg_words.specs.declared.operators.Ty.{Ty}
use Rattle.sg_words.specs.declared.operators.BinOp.{BinOp}
use Rattle.sg_words.specs.declared.operators.BinOp.TheVariants as bin
use Rattle.sg_words.specs.Words.{applied, flag}
use Rattle.sg_coord.specs.declared.coord.Coord.{Coord}
use Rattle.sg_flat.specs.State.{value_of}
use Rattle.sg_types.specs.declared.typed.TypedExpr.{TypedExpr}
use Rattle.sg_types.specs.declared.typed.Form.TheOpen.{TypedExpr-F}
use Rattle.sg_types.specs.declared.typed.TypedKind.{TypedKind, out-TypedKind, roll-TypedKind, roll-out-TypedKind}
use Rattle.sg_types.specs.declared.typed.TypedKind.TheVariants.{rolls-If}
use Rattle.sg_types.specs.declared.typed.TypedKind.TheOpen as k
use Rattle.sg_types.specs.declared.typed.TypedKind.TheOpen.{TypedKind-F}
use Rattle.sg_types.specs.declared.typed.TypedStmt.{TypedStmt}
use Rattle.sg_types.specs.declared.typed.TypedKernel.{TypedKernel}
use Rattle.sg_types.specs.Values.{World, Moment, coord_of, read_word, expr_word}
use Rattle.sg_types.specs.Iterations.{run_all, action_of, part_words, first_moment, writes_at}
use Rattle.sg_types.proofs.Uses as folds
use Rattle.sg_types.proofs.Uses.{by_exprs, value-Literal, value-Var, value-Read, value-Bin, action-If}
use Rattle.sg_admit.specs.Rules.{is_name_of, are_names}
use Rattle.sg_admit.specs.Neutral.{Guard, bin_guard, guard_step, guard_of, is_guard, is_guarded_body}

-- ---- what typing keeps: without `else` there are no statements after one

abbrev pub HasPlainElse : TypedKind-F TypedKind TypedStmt → Type 0
HasPlainElse (k.If condition block otherwise has_else) = has_else ≡ false → otherwise ≡ []
HasPlainElse (k.Let var value) = Unit {0}
HasPlainElse (k.Assign var value) = Unit {0}
HasPlainElse (k.Write layout place index way value) = Unit {0}
HasPlainElse (k.For var range body) = Unit {0}

abbrev pub HasPlainElses : List TypedStmt → Type 0
HasPlainElses = AllByRecursion (λ stmt. HasPlainElse (out-TypedKind stmt.kind))

abbrev its_guard : TypedExpr-F Guard Guard → Guard
its_guard expr = expr.form

-- a guard that holds of an operator's parts makes its word 0
bin_zero : (op : BinOp) (left right : Guard) (given : Ty) (a b : ℕ) → bin_guard op left right ≡ true → (left.is_cell ≡ true → a ≡ 0) → (left.is_guarded ≡ true → a ≡ 0) → (right.is_zero ≡ true → b ≡ 0)
    → applied op given a b ≡ 0
bin_zero bin.Ne left right given a b h cell guarded none =
    let parts = and_parts left.is_cell right.is_zero h in
    ap (λ (n : ℕ). flag (not (n == b))) (cell parts.0) ∙ ap (λ (n : ℕ). flag (not (0 == n))) (none parts.1)
bin_zero bin.LAnd left right given a b h cell guarded none = ap (λ (n : ℕ). flag (not (n == 0) && not (b == 0))) (guarded h)
bin_zero bin.Add left right given a b h cell guarded none = absurd (both_ways false refl h)
bin_zero bin.Sub left right given a b h cell guarded none = absurd (both_ways false refl h)
bin_zero bin.Mul left right given a b h cell guarded none = absurd (both_ways false refl h)
bin_zero bin.Div left right given a b h cell guarded none = absurd (both_ways false refl h)
bin_zero bin.Rem left right given a b h cell guarded none = absurd (both_ways false refl h)
bin_zero bin.And left right given a b h cell guarded none = absurd (both_ways false refl h)
bin_zero bin.Or left right given a b h cell guarded none = absurd (both_ways false refl h)
bin_zero bin.Xor left right given a b h cell guarded none = absurd (both_ways false refl h)
bin_zero bin.LOr left right given a b h cell guarded none = absurd (both_ways false refl h)
bin_zero bin.Shl left right given a b h cell guarded none = absurd (both_ways false refl h)
bin_zero bin.Shr left right given a b h cell guarded none = absurd (both_ways false refl h)
bin_zero bin.Min left right given a b h cell guarded none = absurd (both_ways false refl h)
bin_zero bin.Max left right given a b h cell guarded none = absurd (both_ways false refl h)
bin_zero bin.Eq left right given a b h cell guarded none = absurd (both_ways false refl h)
bin_zero bin.Lt left right given a b h cell guarded none = absurd (both_ways false refl h)
bin_zero bin.Le left right given a b h cell guarded none = absurd (both_ways false refl h)
bin_zero bin.Gt left right given a b h cell guarded none = absurd (both_ways false refl h)
bin_zero bin.Ge left right given a b h cell guarded none = absurd (both_ways false refl h)

names_reach : (vars var : ℕ) (names : List (Option ℕ)) → are_names vars var names ≡ true → var ≤ vars
names_reach vars var [] h = let e = eqb-true var vars h in omega (arith, e)
names_reach vars var (name ∷ names) h = let l = names_reach vars (var + 1) names (and_parts (is_name_of var name) (are_names vars (var + 1) names) h).1 in omega (arith, l)

module _ (walked vars : ℕ) where
  abbrev guard : TypedExpr → Guard
  guard = guard_of walked vars

  -- a literal 0 is 0 in every world
  zero_word : (world : World) (now : Moment) (expr : TypedExpr) → (guard expr).is_zero ≡ true → expr_word world now expr ≡ 0
  zero_word world now = by_exprs (λ expr. (guard expr).is_zero ≡ true → expr_word world now expr ≡ 0)
      (λ ty word h. value-Literal world now ty word ∙ eqb-true word 0 (flagged (folds.fold-Literal (guard_step walked vars) its_guard ty word) h))
      (λ ty word h. absurd (both_ways false refl (flagged (folds.fold-Constant (guard_step walked vars) its_guard ty word) h)))
      (λ ty var h. absurd (both_ways false refl (flagged (folds.fold-Var (guard_step walked vars) its_guard ty var) h)))
      (λ ty layout place index all h. absurd (both_ways false refl (flagged (folds.fold-Read (guard_step walked vars) its_guard ty layout place index) h)))
      (λ ty inner i h. absurd (both_ways false refl (flagged (folds.fold-Paren (guard_step walked vars) its_guard ty inner) h)))
      (λ ty op operand i h. absurd (both_ways false refl (flagged (folds.fold-Un (guard_step walked vars) its_guard ty op operand) h)))
      (λ ty op left right i j h. absurd (both_ways false refl (flagged (folds.fold-Bin (guard_step walked vars) its_guard ty op left right) h)))
      (λ ty a b shift i j l h. absurd (both_ways false refl (flagged (folds.fold-Mulq (guard_step walked vars) its_guard ty a b shift) h)))
      (λ ty inner i h. absurd (both_ways false refl (flagged (folds.fold-Convert (guard_step walked vars) its_guard ty inner) h)))
      (λ ty layout index all h. absurd (both_ways false refl (flagged (folds.fold-Active (guard_step walked vars) its_guard ty layout index) h)))
    where
      flagged : {x y : Guard} → x ≡ y → x.is_zero ≡ true → y.is_zero ≡ true
      flagged e h = sym (ap (λ (it : Guard). it.is_zero) e) ∙ h

  module _ (world : World) (at : Coord) (long : length (part_words at) ≡ vars) (whole : coord_of (part_words at) ≡ at) (none : (place : ℕ) → value_of world.shapes world.state walked place at ≡ 0) where
    abbrev now : Moment
    now = first_moment at

    abbrev NamedHere : ℕ → TypedExpr → Type 0
    NamedHere var expr = is_name_of var (guard expr).name ≡ true → expr_word world now expr ≡ get_or (part_words at) var 0

    nameless : (var : ℕ) (expr : TypedExpr) → (guard expr).name ≡ None → NamedHere var expr
    nameless var expr is h = absurd (both_ways false refl (ap (is_name_of var) (sym is) ∙ h))

    name_word : (var : ℕ) (expr : TypedExpr) → NamedHere var expr
    name_word var = by_exprs (NamedHere var)
        (λ ty word. nameless var _ (name (folds.fold-Literal (guard_step walked vars) its_guard ty word)))
        (λ ty word. nameless var _ (name (folds.fold-Constant (guard_step walked vars) its_guard ty word)))
        (λ ty other h. value-Var world now ty other ∙ ap now.words (eqb-true other var (ap (is_name_of var) (sym (name (folds.fold-Var (guard_step walked vars) its_guard ty other))) ∙ h)))
        (λ ty layout place index all. nameless var _ (name (folds.fold-Read (guard_step walked vars) its_guard ty layout place index)))
        (λ ty inner h. nameless var _ (name (folds.fold-Paren (guard_step walked vars) its_guard ty inner)))
        (λ ty op operand h. nameless var _ (name (folds.fold-Un (guard_step walked vars) its_guard ty op operand)))
        (λ ty op left right h k. nameless var _ (name (folds.fold-Bin (guard_step walked vars) its_guard ty op left right)))
        (λ ty a b shift h k l. nameless var _ (name (folds.fold-Mulq (guard_step walked vars) its_guard ty a b shift)))
        (λ ty inner h. nameless var _ (name (folds.fold-Convert (guard_step walked vars) its_guard ty inner)))
        (λ ty layout index all. nameless var _ (name (folds.fold-Active (guard_step walked vars) its_guard ty layout index)))
      where
        name : {x y : Guard} → x ≡ y → x.name ≡ y.name
        name e = ap (λ (it : Guard). it.name) e

    named_words : (var : ℕ) (index : List TypedExpr) → are_names vars var (map (λ (it : Guard). it.name) (map guard index)) ≡ true → map (expr_word world now) index ≡ drop var (part_words at)
    named_words var [] h = sym (drop_all var (part_words at) (let e = eqb-true var vars h in omega (arith, e, long)))
    named_words var (expr ∷ index) h =
        let p = and_parts (is_name_of var (guard expr).name) (are_names vars (var + 1) (map (λ (it : Guard). it.name) (map guard index))) h in
        let reach = names_reach vars (var + 1) (map (λ (it : Guard). it.name) (map guard index)) p.1 in
        let within : var < length (part_words at) = omega (arith, reach, long) in
        ap (λ (word : ℕ). word ∷ map (expr_word world now) index) (name_word var expr p.0)
        ∙ (ap (λ (more : List ℕ). get_or (part_words at) var 0 ∷ more) (named_words (var + 1) index p.1) ∙ sym (drop_more (part_words at) var 0 within))

    -- the own cell of a field of the walked layout is 0
    cell_word : (expr : TypedExpr) → (guard expr).is_cell ≡ true → expr_word world now expr ≡ 0
    cell_word = by_exprs (λ expr. (guard expr).is_cell ≡ true → expr_word world now expr ≡ 0)
        (λ ty word h. absurd (both_ways false refl (flagged (folds.fold-Literal (guard_step walked vars) its_guard ty word) h)))
        (λ ty word h. absurd (both_ways false refl (flagged (folds.fold-Constant (guard_step walked vars) its_guard ty word) h)))
        (λ ty var h. absurd (both_ways false refl (flagged (folds.fold-Var (guard_step walked vars) its_guard ty var) h)))
        (λ ty layout place index all h.
        let p = and_parts (layout == walked) (are_names vars 0 (map (λ (it : Guard). it.name) (map guard index))) (flagged (folds.fold-Read (guard_step walked vars) its_guard ty layout place index) h) in
        value-Read world now ty layout place index
        ∙ (ap (λ (words : List ℕ). read_word world now layout place (coord_of words)) (named_words 0 index p.1)
        ∙ (ap (λ (it : Coord). read_word world now layout place it) whole
        ∙ (ap (λ (n : ℕ). read_word world now n place at) (eqb-true layout walked p.0) ∙ none place))))
        (λ ty inner i h. absurd (both_ways false refl (flagged (folds.fold-Paren (guard_step walked vars) its_guard ty inner) h)))
        (λ ty op operand i h. absurd (both_ways false refl (flagged (folds.fold-Un (guard_step walked vars) its_guard ty op operand) h)))
        (λ ty op left right i j h. absurd (both_ways false refl (flagged (folds.fold-Bin (guard_step walked vars) its_guard ty op left right) h)))
        (λ ty a b shift i j l h. absurd (both_ways false refl (flagged (folds.fold-Mulq (guard_step walked vars) its_guard ty a b shift) h)))
        (λ ty inner i h. absurd (both_ways false refl (flagged (folds.fold-Convert (guard_step walked vars) its_guard ty inner) h)))
        (λ ty layout index all h. absurd (both_ways false refl (flagged (folds.fold-Active (guard_step walked vars) its_guard ty layout index) h)))
      where
        flagged : {x y : Guard} → x ≡ y → x.is_cell ≡ true → y.is_cell ≡ true
        flagged e h = sym (ap (λ (it : Guard). it.is_cell) e) ∙ h

    -- and so is a guarded condition
    guarded_word : (expr : TypedExpr) → (guard expr).is_guarded ≡ true → expr_word world now expr ≡ 0
    guarded_word = by_exprs (λ expr. (guard expr).is_guarded ≡ true → expr_word world now expr ≡ 0)
        (λ ty word h. absurd (both_ways false refl (flagged (folds.fold-Literal (guard_step walked vars) its_guard ty word) h)))
        (λ ty word h. absurd (both_ways false refl (flagged (folds.fold-Constant (guard_step walked vars) its_guard ty word) h)))
        (λ ty var h. absurd (both_ways false refl (flagged (folds.fold-Var (guard_step walked vars) its_guard ty var) h)))
        (λ ty layout place index all h. absurd (both_ways false refl (flagged (folds.fold-Read (guard_step walked vars) its_guard ty layout place index) h)))
        (λ ty inner i h. absurd (both_ways false refl (flagged (folds.fold-Paren (guard_step walked vars) its_guard ty inner) h)))
        (λ ty op operand i h. absurd (both_ways false refl (flagged (folds.fold-Un (guard_step walked vars) its_guard ty op operand) h)))
        (λ ty op left right i j h.
        value-Bin world now ty op left right
        ∙ bin_zero op (guard left) (guard right) left.ty (expr_word world now left) (expr_word world now right) (flagged (folds.fold-Bin (guard_step walked vars) its_guard ty op left right) h)
        (cell_word left) i (zero_word world now right))
        (λ ty a b shift i j l h. absurd (both_ways false refl (flagged (folds.fold-Mulq (guard_step walked vars) its_guard ty a b shift) h)))
        (λ ty inner i h. absurd (both_ways false refl (flagged (folds.fold-Convert (guard_step walked vars) its_guard ty inner) h)))
        (λ ty layout index all h. absurd (both_ways false refl (flagged (folds.fold-Active (guard_step walked vars) its_guard ty layout index) h)))
      where
        flagged : {x y : Guard} → x ≡ y → x.is_guarded ≡ true → y.is_guarded ≡ true
        flagged e h = sym (ap (λ (it : Guard). it.is_guarded) e) ∙ h

    -- a guarded statement does nothing
    by_layer : (stmt : TypedStmt) (layer : TypedKind-F TypedKind TypedStmt) → stmt.kind ≡ roll-TypedKind layer → is_guard walked vars layer ≡ true → HasPlainElse layer
        → action_of world stmt now ≡ now
    by_layer stmt (k.Let var value) is h plain = absurd (both_ways false refl h)
    by_layer stmt (k.Assign var value) is h plain = absurd (both_ways false refl h)
    by_layer stmt (k.Write layout place index way value) is h plain = absurd (both_ways false refl h)
    by_layer stmt (k.For var range body) is h plain = absurd (both_ways false refl h)
    by_layer stmt (k.If condition block otherwise has_else) is h plain =
        let p = and_parts (not has_else) (guard condition).is_guarded h in
        let empty : otherwise ≡ [] = plain (not-true has_else p.0) in
        ap (λ (it : TypedKind). action_of world (record { number = stmt.number; kind = it }) now) (is ∙ rolls-If condition block otherwise has_else)
        ∙ (action-If world stmt.number condition block otherwise has_else now
        ∙ (ap (λ (word : ℕ). run_all (if word == 0 then map (action_of world) otherwise else map (action_of world) block) now) (guarded_word condition p.1)
        ∙ ap (λ (stmts : List TypedStmt). run_all (map (action_of world) stmts) now) empty))

    guarded_body : (stmts : List TypedStmt) → is_guarded_body walked vars stmts ≡ true → HasPlainElses stmts → run_all (map (action_of world) stmts) now ≡ now
    guarded_body [] h plain = absurd (both_ways false refl h)
    guarded_body (stmt ∷ []) h plain = by_layer stmt (out-TypedKind stmt.kind) (sym (roll-out-TypedKind stmt.kind)) h plain.0
    guarded_body (stmt ∷ other ∷ more) h plain = absurd (both_ways false refl h)

    -- so the iteration writes nothing
    pub writes_nothing : (kernel : TypedKernel) → is_guarded_body walked vars kernel.body ≡ true → HasPlainElses kernel.body → writes_at world kernel at ≡ []
    writes_nothing kernel h plain = ap (λ (it : Moment). it.writes) (guarded_body kernel.body h plain)
